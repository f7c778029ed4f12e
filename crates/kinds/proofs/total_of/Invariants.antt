-- What the loops of `kinds::total_of` keep.
use Rattle.kinds.specs.Fields.{shares}
use Rattle.answer.specs.Lists.{at}
use Prim.Native.Nat.{◌+◌, ◌*◌, ◌≤◌}
use mathlib.Core.Path.{◌≡◌}
use Rattle.kinds.proofs.total_of.Given as goal

abbrev pub invariant-loop-place : goal.invariant-loop-place
invariant-loop-place l = (l.place ≤ l.n) × (l.sum ≤ 9 * l.place) × (l.sum ≡ shares 1 l.fn.kind (at l.fn.row) l.b l.place + shares 2 l.fn.kind (at l.fn.row) l.b
    l.place)
