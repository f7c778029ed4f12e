-- `only_in::shape_in` meets its contract.
use Rattle.std.proofs.Common.{◌∙◌, eq-eqb, ne_eqb}
use Rattle.only_in.specs.Engine.{shape_in}
use Rattle.only_in.proofs.shape_in.Goals as goal

pub returns-then-kind-eq0 : goal.returns-then-kind-eq0
unfolding shape_in
returns-then-kind-eq0 c = c.shape_of.ensures ∙ rw (eq-eqb _ 0 c.if-kind-eq0.true)

pub returns-else-kind-eq0 : goal.returns-else-kind-eq0
unfolding shape_in
returns-else-kind-eq0 c = rw (ne_eqb _ 0 c.if-kind-eq0.false)
