-- `resource_line::put_name` meets its contract.
use Rattle.resource_line.specs.ResourceLine.{name_text}
use Rattle.resource_line.proofs.put_name.Goals as goal

pub returns-in-Single-clause-wrote : goal.returns-in-Single-clause-wrote
unfolding name_text
returns-in-Single-clause-wrote c =
    rw c.in-Single.is c.put_size.ensures.wrote

pub returns-in-Joined-clause-wrote : goal.returns-in-Joined-clause-wrote
unfolding name_text
returns-in-Joined-clause-wrote c =
    rw c.in-Joined.is c.put_pairing.ensures.wrote
