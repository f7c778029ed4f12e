-- `plan::plan_of` meets its contract.
use Rattle.std.proofs.Common.{◌∙◌, arith}
use Rattle.plan.proofs.Value.{plan_laid, told_is}
use Rattle.plan.proofs.plan_of.Goals as goal

pub returns-then-told-lt65536-clause-laid : goal.returns-then-told-lt65536-clause-laid
returns-then-told-lt65536-clause-laid c =
    let g = c.plan_with.ensures ∙ told_is _ _ _ (c.tell-told.ensures.1 (omega arith)) in
    plan_laid _ _ g

pub returns-clause-value : goal.returns-clause-value
returns-clause-value c =
    let g = c.plan_with-2.ensures ∙ told_is _ _ _ c.seek-sought.ensures in
    g

pub returns-clause-laid : goal.returns-clause-laid
returns-clause-laid c =
    let g = c.plan_with-2.ensures ∙ told_is _ _ _ c.seek-sought.ensures in
    plan_laid _ _ g
