-- What the loops of `put_bits::put_parts` keep, and what falls.
use Prim.Native.Nat.{◌-◌, ◌≤◌}
use mathlib.Core.Path.{◌≡◌}
use lib.ListN.{length}
use Rattle.bits.specs.Bits.{put}
use Rattle.put_bits.proofs.put_parts.Given as goal

abbrev pub invariant-loop-k : goal.invariant-loop-k
invariant-loop-k l = (l.k ≤ l.fn.n) × (l.d ≡ put l.initial.d l.fn.at l.k l.fn.v) × (length l.d ≡ length l.initial.d)

abbrev pub decreases-loop-k : goal.decreases-loop-k
decreases-loop-k l = l.fn.n - l.k
