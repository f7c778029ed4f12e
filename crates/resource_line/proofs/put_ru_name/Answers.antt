-- `resource_line::put_ru_name` meets its contract.
use Rattle.text.proofs.Laws.{after}
use Rattle.resource_line.specs.ResourceLine.{ru_name}
use Rattle.resource_line.proofs.put_ru_name.Goals as goal

pub returns-clause-wrote : goal.returns-clause-wrote
unfolding ru_name
returns-clause-wrote c = let numbered = rw c.number_of.ensures at c.put_key-c.ensures.wrote in
    after (after (after c.put_all-a.ensures c.put_name-b.ensures.wrote) numbered) c.put_key.ensures.wrote
