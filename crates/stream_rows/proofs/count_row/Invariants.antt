-- What the loops of `stream_rows::count_row` keep.
use mathlib.Core.Path.{◌≡◌}
use Rattle.answer.specs.Lists.{at}
use Rattle.stream_rows.specs.Engine.{previous, Counting}
use Rattle.stream_rows.proofs.count_row.Given as goal

abbrev pub invariant-loop-x : goal.invariant-loop-x
invariant-loop-x l = (l.last ≡ previous (at l.fn.row) l.x-index) × Counting l.fn.row l.x-index l.fit l.two l.three l.four
