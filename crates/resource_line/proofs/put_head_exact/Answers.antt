-- `resource_line::put_head_exact` meets its contract.
use Rattle.text.proofs.Laws.{after}
use Rattle.resource_line.proofs.put_head_exact.Goals as goal

pub returns-clause-wrote : goal.returns-clause-wrote
returns-clause-wrote c = after c.put_ru_head-a.ensures.wrote c.put_all.ensures
