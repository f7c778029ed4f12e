-- `frame_words::put_head` meets its contract.
use Rattle.bits.proofs.Fields.{field_lt}
use Rattle.frame_words.proofs.put_head.Goals as goal

pub put_header_to-requires : goal.put_header_to-requires
put_header_to-requires g c = (c.requires, rw c.field_at-t.ensures (field_lt c.args.a.now c.first_bits.result 10))

pub returns-clause-written : goal.returns-clause-written
returns-clause-written g c =
    rw (c.put_header_to.ensures.written, c.second_check.ensures, c.field_at-t.ensures, c.first_bits.ensures.value, c.field_at-v.ensures)
