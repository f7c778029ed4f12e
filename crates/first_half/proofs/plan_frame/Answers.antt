-- `first_half::plan_frame` meets its contract.
use Rattle.std.proofs.Common.{◌∙◌}
use Rattle.plan.specs.Engine.{with_kinds}
use Rattle.halves.specs.Engine.{with_plan}
use Rattle.halves.proofs.Half.{lent_plan, lent_stops}
use Rattle.first_half.proofs.plan_frame.Goals as goal

pub returns-in-Err : goal.returns-in-Err
returns-in-Err c = c.refused.ensures ∙ lent_stops c.args.bw c.args.a.now c.args.b.now _ _ _ c.plan_row-plan.ensures _ c.in-Err.is

pub returns : goal.returns
unfolding with_plan with_kinds
returns c = lent_plan c.args.bw c.args.a.now c.args.b.now _ _ _ c.plan_row-plan.ensures c.in_default.is
