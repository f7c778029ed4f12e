-- `lines::put_sta_whole` meets its contract.
use Rattle.lines.proofs.LineLaws.{sta_written}
use Rattle.lines.proofs.put_sta_whole.Goals as goal

pub returns-clause-wrote : goal.returns-clause-wrote
returns-clause-wrote c =
    let x = rw c.id_word.ensures.0 at c.put_eight.ensures.wrote in
    sta_written c.args.id c.args.resource c.tail_word-tail.result c.lead_of.result c.requires.1 c.tail_word-tail.ensures c.lead_of.ensures.0 x
    c.put_eight-2.ensures.wrote c.put_eight-3.ensures.wrote
