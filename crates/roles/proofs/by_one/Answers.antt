-- `roles::by_one` meets its contract.
use mathlib.Core.Path.{sym, ◌∙◌}
use native.Mathlib.Omega.{arith}
use Rattle.roles.proofs.Steps.{one_not, one_unnamed, one_over, one_told}
use Rattle.roles.proofs.by_one.Goals as goal

pub returns-then-e-eq0 : goal.returns-then-e-eq0
returns-then-e-eq0 c = one_not _ _ _ _ _ c.one_of-e.ensures _ c.not_told.ensures c.if-e-eq0.true

pub returns-then-not-is_named : goal.returns-then-not-is_named
returns-then-not-is_named c = one_unnamed _ _ _ _ _ c.one_of-e.ensures c.if-e-eq0.false _ c.not_told-then-not-is_named.ensures
    (sym c.is_named.ensures ∙ c.if-not-is_named.true)

pub returns-then-t-gt8 : goal.returns-then-t-gt8
returns-then-t-gt8 c = one_over _ _ _ _ _ c.one_of-e.ensures c.if-e-eq0.false _ c.over_eight.ensures
    (sym c.is_named.ensures ∙ c.if-not-is_named.false) c.if-t-gt8.true

pub returns : goal.returns
returns c = one_told _ _ _ _ _ c.one_of-e.ensures c.if-e-eq0.false _ c.bits_if.ensures
    (sym c.is_named.ensures ∙ c.if-not-is_named.false) (omega arith)
