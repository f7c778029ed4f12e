-- `resource_line::put_ru` meets its contract.
use Rattle.text.proofs.Laws.{after}
use Rattle.resource_line.specs.ResourceLine.{ru_line}
use Rattle.resource_line.proofs.put_ru.Goals as goal

pub returns-clause-wrote : goal.returns-clause-wrote
unfolding ru_line
returns-clause-wrote c = after (after c.put_head-b.ensures.wrote c.put_tones-c.ensures.wrote) c.put.ensures
