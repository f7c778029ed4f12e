-- `trigger::put_record` meets its contract.
use Rattle.trigger.specs.Reading.{numbers_of}
use Rattle.trigger.proofs.put_record.Goals as goal

pub returns : goal.returns
unfolding numbers_of
returns c = cc
