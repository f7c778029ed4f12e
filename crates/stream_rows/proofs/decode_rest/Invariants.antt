-- What the loops of `stream_rows::decode_rest` keep, and what falls.
use mathlib.Core.Path.{◌≡◌}
use Prim.Native.Nat.{◌+◌, ◌-◌, ◌≤◌}
use Rattle.stream_rows.specs.Engine.{fours, before_three}
use Rattle.stream_rows.proofs.decode_rest.Given as goal

abbrev pub invariant-loop-n : goal.invariant-loop-n
invariant-loop-n l = (l.b ≤ l.fn.a) × (l.fn.users + l.fn.a + l.b ≤ 16) × (l.n ≡ fours l.fn.users l.fn.a l.b) ×
    (l.left + before_three l.fn.users l.fn.a l.b ≡ l.fn.number)

abbrev pub decreases-loop-n : goal.decreases-loop-n
decreases-loop-n l = l.fn.a - l.b
