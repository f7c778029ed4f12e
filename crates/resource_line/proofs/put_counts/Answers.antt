-- `resource_line::put_counts` meets its contract.
use Rattle.text.proofs.Laws.{after}
use Rattle.resource_line.proofs.Whole.{counts_bytes}
use Rattle.resource_line.proofs.put_counts.Goals as goal

pub returns-clause-wrote : goal.returns-clause-wrote
returns-clause-wrote c = rw (counts_bytes c.args.g c.args.users c.requires.0 c.requires.1) at
    (after c.put_eight-a.ensures.wrote (after c.put_eight-b.ensures.wrote c.put_eight.ensures.wrote))
