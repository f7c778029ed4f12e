--
use Rattle.compared.specs.Text.{item_line, difference_line}
use Rattle.text.proofs.Laws.{after}
use Rattle.difference_lines.proofs.put_overflow.Goals as goal

pub returns-clause-wrote : goal.returns-clause-wrote
unfolding difference_line item_line
returns-clause-wrote c =
    let named = after c.put_overflow_name-b.ensures.wrote (rw c.from.ensures at c.put_dec-c.ensures.wrote) in
    after c.put_side-a.ensures.wrote (after named c.put.ensures)
