-- `resource_line::put_comma` meets its contract.
use Rattle.std.proofs.Common.{ne_eqb}
use Rattle.text.proofs.Laws.{nothing}
use Rattle.resource_line.specs.ResourceLine.{comma}
use Rattle.resource_line.proofs.put_comma.Goals as goal

pub returns-then-i-eq0-clause-wrote : goal.returns-then-i-eq0-clause-wrote
unfolding comma
returns-then-i-eq0-clause-wrote c =
    rw c.if-i-eq0.true (nothing _ _)

pub returns-clause-wrote : goal.returns-clause-wrote
unfolding comma
returns-clause-wrote c = rw (ne_eqb _ _ c.if-i-eq0.false) c.put.ensures
