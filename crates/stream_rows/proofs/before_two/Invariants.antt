-- What the loops of `stream_rows::before_two` keep.
use mathlib.Core.Path.{◌≡◌}
use Prim.Native.Nat.{◌*◌, ◌≤◌}
use Rattle.stream_rows.specs.Engine.{before_two}
use Rattle.stream_rows.proofs.before_two.Given as goal

abbrev pub invariant-loop-i : goal.invariant-loop-i
invariant-loop-i l = (l.n ≡ before_two l.fn.users l.i) × (l.n ≤ 100 * l.i)
