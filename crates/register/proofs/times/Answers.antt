-- `register::times` meets its contract.
use mathlib.Core.Path.{refl}
use Rattle.register.specs.Engine.{times}
use Rattle.register.proofs.times.Goals as goal

pub returns : goal.returns
unfolding times
returns c = refl
