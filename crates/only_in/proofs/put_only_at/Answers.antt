-- `only_in::put_only_at` meets its contract.
use Rattle.std.proofs.Common.{eq-eqb, ne_eqb}
use Rattle.only_in.specs.Engine.{only_at}
use Rattle.only_in.proofs.put_only_at.Goals as goal

pub returns-then-kind-eq0-clause-wrote : goal.returns-then-kind-eq0-clause-wrote
unfolding only_at
returns-then-kind-eq0-clause-wrote c =
    let w_wrote = rw c.shape_in-others.ensures at c.put_only_pieces.ensures.wrote in
    rw (eq-eqb _ 0 c.if-kind-eq0.true) w_wrote

pub returns-clause-wrote : goal.returns-clause-wrote
unfolding only_at
returns-clause-wrote c = rw (ne_eqb _ 0 c.if-kind-eq0.false) c.put_only_larger.ensures.wrote
