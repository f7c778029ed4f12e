-- `plan::is_wider` meets its contract.
use Rattle.plan.proofs.Steps.{wider_is}
use Rattle.plan.proofs.is_wider.Goals as goal

pub returns : goal.returns
returns c = wider_is _ _ c.family_of.ensures
