-- What the loops of `kinds::fields_in` keep.
use Rattle.kinds.specs.Fields.{shares}
use Rattle.answer.specs.Lists.{at}
use Prim.Native.Nat.{◌*◌, ◌≤◌}
use mathlib.Core.Path.{◌≡◌}
use Rattle.kinds.proofs.fields_in.Given as goal

abbrev pub invariant-loop-i : goal.invariant-loop-i
invariant-loop-i l = (l.i ≤ l.n) × (l.sum ≤ 9 * l.i) × (l.sum ≡ shares l.fn.channel l.fn.kind (at l.fn.row) l.b l.i)
