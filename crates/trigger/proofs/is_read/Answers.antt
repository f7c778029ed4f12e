-- `trigger::is_read` meets its contract.
use Rattle.trigger.proofs.Stages.{info_read}
use Rattle.trigger.proofs.is_read.Goals as goal

pub returns : goal.returns
returns c = rw (
  c.is_taken.ensures,
  c.part_of-4.ensures,
  c.part_of-3.ensures,
  c.part_of-2.ensures,
  c.part_of.ensures,
)
    (info_read _ _)
