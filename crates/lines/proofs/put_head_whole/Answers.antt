-- `lines::put_head_whole` meets its contract.
use Rattle.text.proofs.Laws.{after}
use Rattle.lines.proofs.LineLaws.{count_written, counts_long, head_bytes}
use Rattle.lines.proofs.put_head_whole.Goals as goal

pub returns-clause-wrote : goal.returns-clause-wrote
returns-clause-wrote c =
    let t = head_bytes c.args.bw c.args.resources c.args.fields1 c.args.fields2 c.args.stations c.requires.0 in
    let counts = count_written c.args.resources c.ended_word-count.result _ c.ended_word-count.ensures
    (counts_long c.args.fields1 c.args.fields2 c.args.stations) c.put_eight.ensures.wrote c.put_counts.ensures.wrote in
    rw t at (after c.put_eight-a.ensures.wrote (after c.put_eight-b.ensures.wrote (after c.put_eight-c.ensures.wrote counts)))
