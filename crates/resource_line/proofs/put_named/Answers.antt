-- `resource_line::put_named` meets its contract.
use Rattle.std.proofs.Common.{◌≤◌, arith, length}
use Rattle.resource_line.specs.Engine.{counts_text}
use Rattle.resource_line.proofs.Whole.{named_stored}
use Rattle.resource_line.proofs.put_named.Goals as goal

pub returns-clause-wrote : goal.returns-clause-wrote
returns-clause-wrote c = let few : 8 ≤ length (counts_text c.args.g c.args.users) = omega
    (arith, c.put_counts.ensures.wrote.next, c.put_counts.ensures.bounded) in
    named_stored c.args.name c.args.len c.args.index c.args.g c.args.users c.requires.1 c.requires.2 c.put_eight.ensures.wrote c.put_eight-2.ensures.wrote
    c.put_four.ensures c.put_counts.ensures.wrote few
