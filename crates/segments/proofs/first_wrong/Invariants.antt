-- What the loops of `segments::first_wrong` keep.
use Rattle.segments.specs.Engine.{wrong_at}
use Rattle.answer.specs.Least.{least}
use mathlib.Core.Path.{◌≡◌}
use Rattle.segments.proofs.first_wrong.Given as goal

abbrev pub invariant-loop-p : goal.invariant-loop-p
invariant-loop-p l = least (wrong_at l.fn.row) l.p ≡ l.p
