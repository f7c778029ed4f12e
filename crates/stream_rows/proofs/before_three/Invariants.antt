-- What the loops of `stream_rows::before_three` keep.
use mathlib.Core.Path.{◌≡◌}
use Prim.Native.Nat.{◌*◌, ◌≤◌}
use Rattle.stream_rows.specs.Engine.{before_three}
use Rattle.stream_rows.proofs.before_three.Given as goal

abbrev pub invariant-loop-i : goal.invariant-loop-i
invariant-loop-i l = (l.n ≡ before_three l.fn.users l.fn.a l.i) × (l.n ≤ 17 * l.i)
