-- `record_refusals::all_fit` meets its contract.
use Rattle.std.proofs.Common.{refl}
use Rattle.record_refusals.specs.Engine.{fit}
use Rattle.record_refusals.proofs.all_fit.Goals as goal

pub returns : goal.returns
unfolding fit
returns c = refl
