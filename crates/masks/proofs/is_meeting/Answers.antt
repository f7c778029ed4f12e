-- `masks::is_meeting` meets its contract.
use mathlib.Core.Path.{refl}
use Rattle.masks.specs.Engine.{meet}
use Rattle.masks.proofs.is_meeting.Goals as goal

pub returns : goal.returns
unfolding meet
returns c = refl
