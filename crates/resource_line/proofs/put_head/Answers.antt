-- `resource_line::put_head` meets its contract.
use Rattle.resource_line.proofs.Whole.{start_text_lem}
use Rattle.resource_line.proofs.put_head.Goals as goal

pub returns-clause-wrote : goal.returns-clause-wrote
returns-clause-wrote c = rw (c.class_of.ensures.0, c.number_of-i.ensures, start_text_lem c.args.g c.args.users c.args.r) at c.put_start.ensures.wrote
