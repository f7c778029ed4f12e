-- `trigger::put_entry` meets its contract.
use Rattle.trigger.proofs.Five.{five}
use Rattle.trigger.proofs.put_entry.Goals as goal

pub returns : goal.returns
returns c = five _ _ c.requires
