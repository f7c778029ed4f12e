-- `text::put_key` meets its contract.
use Rattle.text.proofs.Laws.{after}
use Rattle.text.proofs.put_key.Goals as goal

pub returns-clause-wrote : goal.returns-clause-wrote
returns-clause-wrote c = after c.put_all-o.ensures c.put_dec.ensures.wrote
