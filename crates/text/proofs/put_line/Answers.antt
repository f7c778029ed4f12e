-- `text::put_line` meets its contract.
use Rattle.text.proofs.Laws.{after}
use Rattle.text.proofs.put_line.Goals as goal

pub returns-clause-wrote : goal.returns-clause-wrote
returns-clause-wrote c = after c.put_key-o.ensures.wrote c.put.ensures
