-- What the loops of `masks::all_apart` keep.
use mathlib.Core.Path.{◌≡◌}
use Prim.Native.Nat.{◌≤◌}
use Rattle.answer.specs.Lists.{at}
use Rattle.masks.specs.Engine.{union_to, apart_to}
use Rattle.masks.proofs.all_apart.Given as goal

abbrev pub invariant-loop-i : goal.invariant-loop-i
invariant-loop-i l = (l.i ≤ l.fn.n) × (l.apart ≡ apart_to (at l.fn.masks) l.i) × (l.seen ≡ union_to (at l.fn.masks) l.i)
