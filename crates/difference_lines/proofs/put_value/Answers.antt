--
use Rattle.compared.specs.Text.{item_line, difference_line}
use Rattle.text.proofs.Laws.{after}
use Rattle.difference_lines.proofs.put_value.Goals as goal

pub returns-clause-wrote : goal.returns-clause-wrote
unfolding difference_line item_line
returns-clause-wrote c = after c.put_side-a.ensures.wrote (after c.put_key-b.ensures.wrote (rw c.from.ensures at c.put_line.ensures.wrote))
