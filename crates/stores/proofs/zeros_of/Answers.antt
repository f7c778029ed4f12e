-- `stores::zeros_of` meets its contract.
use mathlib.Core.Path.{refl}
use Rattle.stores.specs.Engine.{zeros_in}
use Rattle.stores.proofs.zeros_of.Goals as goal

pub returns-clause-value : goal.returns-clause-value
unfolding zeros_in
returns-clause-value c =
    refl
