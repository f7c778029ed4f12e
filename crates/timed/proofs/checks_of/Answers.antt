-- `timed::checks_of` meets its contract.
use Prim.Native.Nat.{◌+◌}
use mathlib.Core.Path.{refl, ◌∙◌, ap₂}
use native.Mathlib.Omega.{arith}
use borrow.Author.Rules.{rules}
use Rattle.timed.specs.Sums.{sum, check_in}
use Rattle.timed.proofs.Sum.{sum_next}
use Rattle.timed.proofs.checks_of.Goals as goal

pub loop-k-init : goal.loop-k-init
unfolding sum
loop-k-init c = (search rules, search rules, refl)

pub loop-k-preserved : goal.loop-k-preserved
loop-k-preserved c = (
  search rules,
  omega arith,
  ap₂ ◌+◌ c.loop-k.invariant.2 c.check_in-total.ensures.0 ∙ sum_next (check_in c.args.s.now c.args.n) c.loop-k.k,
)
