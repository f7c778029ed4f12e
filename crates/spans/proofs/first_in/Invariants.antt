-- What the loops of `spans::first_in` keep.
use mathlib.Core.Path.{◌≡◌}
use Prim.Native.Nat.{◌≤◌}
use Rattle.answer.specs.Lists.{at}
use Rattle.segments.specs.Engine.{first_named}
use Rattle.spans.proofs.first_in.Given as goal

abbrev pub invariant-loop-i : goal.invariant-loop-i
invariant-loop-i l = (l.k ≤ 36) × (l.k ≡ first_named l.fn.n (at l.fn.row) l.fn.b l.i)
