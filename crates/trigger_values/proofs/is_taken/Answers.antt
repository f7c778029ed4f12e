-- `trigger_values::is_taken` meets its contract.
use Rattle.trigger_values.proofs.Taken.{taken_by_code}
use Rattle.trigger_values.proofs.is_taken.Goals as goal

pub returns : goal.returns
returns c = rw c.code_from-b.ensures (taken_by_code _ _)
