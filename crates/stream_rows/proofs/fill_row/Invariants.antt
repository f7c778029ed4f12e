-- What the loops of `stream_rows::fill_row` keep.
use mathlib.Core.Path.{◌≡◌}
use lib.ListN.{length}
use Rattle.answer.specs.Lists.{filled}
use Rattle.stream_rows.specs.Engine.{entry_of}
use Rattle.stream_rows.proofs.fill_row.Given as goal

abbrev pub invariant-loop-i : goal.invariant-loop-i
invariant-loop-i l = (l.row ≡ filled (entry_of l.fn.shape.two l.fn.shape.three l.fn.shape.four) l.i l.initial.row) ×
    (length l.row ≡ length l.initial.row)
