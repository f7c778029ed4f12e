--
use Rattle.difference_lines.specs.Engine.{code_line}
use Rattle.text.proofs.Laws.{after}
use Rattle.difference_lines.proofs.put_user.Goals as goal

pub returns-clause-wrote : goal.returns-clause-wrote
unfolding code_line
returns-clause-wrote c =
    let ru = rw c.resource_named.ensures at c.put_ru_name-c.ensures.wrote in
    after (after (after c.put_side-a.ensures.wrote c.put_user_bits-b.ensures.wrote) ru) c.put.ensures
