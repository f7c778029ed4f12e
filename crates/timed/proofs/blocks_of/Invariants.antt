-- What the loops of `timed::blocks_of` keep.
use Prim.Native.Nat.{◌*◌, ◌≤◌}
use mathlib.Core.Path.{◌≡◌}
use Rattle.timed.specs.Sums.{sum, right_in}
use Rattle.timed.proofs.blocks_of.Given as goal

abbrev pub invariant-loop-k : goal.invariant-loop-k
invariant-loop-k l = (l.k ≤ l.fn.count) × (l.total ≤ 15 * l.k) × (l.total ≡ sum (right_in l.fn.s l.fn.n) l.k)
