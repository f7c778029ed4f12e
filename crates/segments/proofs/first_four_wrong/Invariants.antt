-- What the loops of `segments::first_four_wrong` keep.
use Prim.Native.Nat.{◌*◌}
use mathlib.Core.Path.{◌≡◌}
use mathlib.Core.Bool.{not}
use Rattle.answer.specs.Least.{least}
use Rattle.answer.specs.Lists.{at}
use Rattle.segments.specs.Engine.{four_right}
use Rattle.segments.proofs.first_four_wrong.Given as goal

abbrev pub invariant-loop-s : goal.invariant-loop-s
invariant-loop-s l = least (λ k. not (four_right (at l.fn.row) (4 * k))) l.s ≡ l.s
