-- `timed::check_in` meets its contract.
use mathlib.Core.Path.{refl, ◌∙◌}
use native.Mathlib.Omega.{arith}
use Rattle.block.proofs.Checks.{check_lt}
use Rattle.timed.specs.Sums.{check_in}
use Rattle.timed.proofs.check_in.Goals as goal

pub returns : goal.returns
unfolding check_in
returns c = (
  c.from-2.ensures ∙ c.check_at.ensures ∙ rw (c.from.ensures, c.place.ensures.0) refl,
  omega (arith, c.from-2.ensures, c.check_at.ensures, check_lt c.args.s.now c.place.result c.from.result),
)
