-- `lines::put_counts` meets its contract.
use Rattle.std.proofs.Common.{arith}
use Rattle.text.proofs.Laws.{after}
use Rattle.lines.specs.Engine.{counts_text}
use Rattle.lines.proofs.LineLaws.{count_written, last_written}
use Rattle.lines.proofs.put_counts.Goals as goal

pub returns-clause-wrote : goal.returns-clause-wrote
unfolding counts_text
returns-clause-wrote c =
    let last = last_written c.args.stations c.ended_word-last.result c.ended_word-last.ensures c.put_eight-3.ensures.wrote c.put_by_fours.ensures.wrote in
    let rest = after c.put_eight-b.ensures.wrote (count_written c.args.fields2 c.ended_word-second.result _ c.ended_word-second.ensures (omega arith)
    c.put_eight-2.ensures.wrote last) in
    after c.put_eight-a.ensures.wrote (count_written c.args.fields1 c.ended_word-first.result _ c.ended_word-first.ensures (omega arith)
    c.put_eight.ensures.wrote rest)
