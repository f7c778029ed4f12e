-- What the loops of `segments::first_named` keep.
use mathlib.Core.Path.{◌≡◌}
use Prim.Native.Nat.{◌≤◌}
use Rattle.answer.specs.Lists.{at}
use Rattle.segments.specs.Engine.{first_named}
use Rattle.segments.proofs.first_named.Given as goal

abbrev pub invariant-loop-i : goal.invariant-loop-i
invariant-loop-i l = (l.k ≤ 36) × (l.k ≡ first_named 4 (at l.fn.row) l.fn.b l.i)
