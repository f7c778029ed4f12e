--
use Rattle.compare.specs.Engine.{value_turn}
use Rattle.std.proofs.Common.{eq-eqb, ne_eqb}
use Rattle.text.proofs.Laws.{after, nothing}
use Rattle.compare.proofs.put_value_turn.Goals as goal

pub returns-then-x-y-clause-wrote : goal.returns-then-x-y-clause-wrote
unfolding value_turn
returns-then-x-y-clause-wrote c = rw (eq-eqb _ _ c.if-x-y.true) (nothing _ _)

pub returns-clause-wrote : goal.returns-clause-wrote
unfolding value_turn
returns-clause-wrote c = rw (ne_eqb _ _ c.if-x-y.false) (after c.put_value-a.ensures.wrote c.put_value.ensures.wrote)
