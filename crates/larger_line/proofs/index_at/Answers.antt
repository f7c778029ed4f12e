-- `larger_line::index_at` meets its contract.
use Rattle.std.proofs.Common.{arith, eq-eqb, ne_eqb}
use Rattle.larger_line.specs.Engine.{index_in}
use Rattle.larger_line.proofs.index_at.Goals as goal

pub returns-then-kind-eq1 : goal.returns-then-kind-eq1
unfolding index_in
returns-then-kind-eq1 c = (rw (eq-eqb c.args.kind 1 c.if-kind-eq1.true), omega (arith, c.requires))

pub returns : goal.returns
unfolding index_in
returns c = (rw (ne_eqb c.args.kind 1 c.if-kind-eq1.false) c.index_of.ensures.0, c.index_of.ensures.1)
