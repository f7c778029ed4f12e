-- What the loops of `stream_rows::decode` keep, and what falls.
use mathlib.Core.Path.{◌≡◌}
use Prim.Native.Nat.{◌+◌, ◌-◌, ◌≤◌}
use lib.ListN.{length}
use Rattle.stream_rows.specs.Engine.{with_two, before_two}
use Rattle.stream_rows.proofs.decode.Given as goal

abbrev pub invariant-loop-n : goal.invariant-loop-n
invariant-loop-n l = (l.a ≤ l.fn.users) × (l.n ≡ length (with_two l.fn.users l.a)) × (l.left + before_two l.fn.users l.a ≡ l.fn.number)

abbrev pub decreases-loop-n : goal.decreases-loop-n
decreases-loop-n l = l.fn.users - l.a
