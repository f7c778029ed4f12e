-- What the loops of `position::common_at` keep.
use Prim.Native.Nat.{◌+◌, ◌*◌, ◌≤◌}
use mathlib.Core.Path.{◌≡◌}
use lib.ListN.{replicate}
use Rattle.answer.specs.Lists.{filled}
use Rattle.resource.specs.Values.{fields_of}
use Rattle.channel.specs.Layout.{total}
use Rattle.position.specs.Walk.{value_from}
use Rattle.position.proofs.Steps.{reached}
use Rattle.position.proofs.common_at.Given as goal

abbrev pub invariant-loop-k : goal.invariant-loop-k
invariant-loop-k l = (l.k ≤ l.n) × (l.values ≡ filled (value_from l.fn.s l.fn.at l.fn.bw) l.k (replicate 8 0)) ×
    (l.count ≡ total (λ i. fields_of (value_from l.fn.s l.fn.at l.fn.bw i)) l.k) × (l.count ≤ 9 * l.k)
    × (l.next ≡ l.fn.at + reached l.fn.bw l.k)
