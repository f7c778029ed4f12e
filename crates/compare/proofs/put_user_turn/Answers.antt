--
use Rattle.std.proofs.Common.{sym, ◌∙◌}
use Rattle.text.proofs.Laws.{after, nothing}
use Rattle.compare.specs.Engine.{code_get}
use Rattle.compare.proofs.Groups.{turn_even, turn_odd}
use Rattle.compare.proofs.put_user_turn.Goals as goal

pub returns-then-eq-clause-wrote : goal.returns-then-eq-clause-wrote
unfolding code_get
returns-then-eq-clause-wrote c =
    let e = rw (c.get-x.ensures, c.get-y.ensures) at (sym c.if-eq.true ∙ c.eq.ensures) in
    rw (turn_even _ _ _ _ _ (sym e)) (nothing _ _)

pub returns-clause-wrote : goal.returns-clause-wrote
unfolding code_get
returns-clause-wrote c =
    let e = rw (c.get-x.ensures, c.get-y.ensures) at (sym c.if-eq.false ∙ c.eq.ensures) in
    let both = after c.put_user_if-a.ensures.wrote c.put_user_if.ensures.wrote in
    rw (← turn_odd _ _ _ _ _ (sym e)) (rw (c.get-x.ensures, c.get-y.ensures) at both)
