-- `resource_line::put_run` meets its contract.
use Rattle.text.proofs.Laws.{after}
use Rattle.resource_line.proofs.put_run.Goals as goal

pub returns-clause-wrote : goal.returns-clause-wrote
returns-clause-wrote c = after (after (after c.put_comma-a.ensures.wrote c.put_signed-b.ensures.wrote) c.put-c.ensures) c.put_signed.ensures.wrote
