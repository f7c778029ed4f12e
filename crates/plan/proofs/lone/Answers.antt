-- `plan::lone` meets its contract.
use Rattle.std.proofs.Common.{refl}
use Rattle.plan.specs.Engine.{lone_of, with_kinds}
use Rattle.plan.proofs.lone.Goals as goal

pub returns : goal.returns
unfolding lone_of with_kinds
returns c = refl
