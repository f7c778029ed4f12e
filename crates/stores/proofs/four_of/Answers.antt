-- `stores::four_of` meets its contract.
use native.Mathlib.Omega.{arith}
use Rattle.stores.specs.Engine.{four_of}
use Rattle.stores.proofs.four_of.Goals as goal

pub returns : goal.returns
unfolding four_of
returns c = (rw c.values_of.ensures.0, omega (arith, c.values_of.ensures.1))
