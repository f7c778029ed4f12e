-- `lengths::too_long` meets its contract.
use Rattle.faults.specs.Checks.{too_long}
use Rattle.lengths.proofs.too_long.Goals as goal

pub returns : goal.returns
unfolding too_long
returns c = cc
