-- What the loops of `timed::checks_of` keep.
use Prim.Native.Nat.{◌*◌, ◌≤◌}
use mathlib.Core.Path.{◌≡◌}
use Rattle.timed.specs.Sums.{sum, check_in}
use Rattle.timed.proofs.checks_of.Given as goal

abbrev pub invariant-loop-k : goal.invariant-loop-k
invariant-loop-k l = (l.k ≤ l.fn.count) × (l.total ≤ 15 * l.k) × (l.total ≡ sum (check_in l.fn.s l.fn.n) l.k)
