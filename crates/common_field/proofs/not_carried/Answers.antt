-- `common_field::not_carried` meets its contract.
use Rattle.faults.specs.Checks.{not_carried}
use Rattle.common_field.proofs.not_carried.Goals as goal

pub returns : goal.returns
unfolding not_carried
returns c = cc
