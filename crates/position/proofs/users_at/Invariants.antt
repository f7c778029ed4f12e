-- What the loops of `position::users_at` keep.
use Prim.Native.Nat.{◌≤◌}
use mathlib.Core.Path.{◌≡◌}
use lib.ListN.{replicate}
use Rattle.answer.specs.Lists.{filled}
use Rattle.position.specs.Walk.{user_from}
use Rattle.position.proofs.Steps.{stands}
use Rattle.position.proofs.users_at.Given as goal

abbrev pub invariant-loop-i : goal.invariant-loop-i
invariant-loop-i l = (l.i ≤ l.fn.n) × (l.users ≡ filled (user_from l.fn.s l.fn.at) l.i (replicate 72 0)) × (l.next ≡ stands l.fn.at l.fn.n l.i)
