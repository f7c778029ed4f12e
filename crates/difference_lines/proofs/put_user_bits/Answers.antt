--
use Rattle.difference_lines.specs.Engine.{bits_part}
use Rattle.text.proofs.Laws.{after}
use Rattle.difference_lines.proofs.put_user_bits.Goals as goal

pub returns-clause-wrote : goal.returns-clause-wrote
unfolding bits_part
returns-clause-wrote c =
    let station = after (after c.put_key-a.ensures.wrote c.put_all-b.ensures) c.put_id-c.ensures.wrote in
    after (after (after station c.put_all-d.ensures) c.put_bits-e.ensures.wrote) c.put.ensures
