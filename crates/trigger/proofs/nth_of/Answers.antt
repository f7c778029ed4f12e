-- `trigger::nth_of` meets its contract.
use Rattle.trigger_values.specs.Engine.{nth_of}
use Rattle.trigger.proofs.nth_of.Goals as goal

pub returns-then-i-n : goal.returns-then-i-n
unfolding nth_of
returns-then-i-n c = rw c.if-i-n.true

pub returns : goal.returns
unfolding nth_of
returns c = rw c.if-i-n.false
