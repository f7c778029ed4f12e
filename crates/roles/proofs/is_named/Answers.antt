-- `roles::is_named` meets its contract.
use mathlib.Core.Path.{refl}
use Rattle.roles.specs.Engine.{named}
use Rattle.roles.proofs.is_named.Goals as goal

pub returns : goal.returns
unfolding named
returns c = refl
