-- `register::all_right` meets its contract.
use mathlib.Core.Path.{refl}
use Rattle.register.specs.Engine.{all_right}
use Rattle.register.proofs.all_right.Goals as goal

pub returns : goal.returns
unfolding all_right
returns c = refl
