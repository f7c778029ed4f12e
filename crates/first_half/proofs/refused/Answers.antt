-- `first_half::refused` meets its contract.
use Rattle.std.proofs.Common.{refl}
use Rattle.halves.specs.Engine.{no_plan}
use Rattle.first_half.proofs.refused.Goals as goal

pub returns : goal.returns
unfolding no_plan
returns c = refl
