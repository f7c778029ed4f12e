-- `resource_line::put_ru_head` meets its contract.
use Rattle.text.proofs.Laws.{after}
use Rattle.resource_line.specs.ResourceLine.{ru_head}
use Rattle.resource_line.proofs.put_ru_head.Goals as goal

pub returns-clause-wrote : goal.returns-clause-wrote
unfolding ru_head
returns-clause-wrote c = after c.put_ru_name-a.ensures.wrote c.put_key.ensures.wrote
