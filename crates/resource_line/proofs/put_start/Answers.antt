-- `resource_line::put_start` meets its contract.
use Rattle.text.proofs.Laws.{after}
use Rattle.resource_line.specs.Engine.{start_text}
use Rattle.resource_line.proofs.put_start.Goals as goal

pub returns-clause-wrote : goal.returns-clause-wrote
unfolding start_text
returns-clause-wrote c = after c.put_key-a.ensures.wrote (after c.put_spaced-b.ensures.wrote c.put_counts.ensures.wrote)
