-- The kinds that are printed are those of the row's plan.
use Rattle.std.proofs.Common.{sym, ap, ◌∙◌}
use Rattle.plan.specs.declared.Plan.{Plan}
use Rattle.plan.specs.Engine.{passed_plan}
use Rattle.plan.proofs.Value.{plan_outcome_lem, plan_passed}
use Rattle.vectors.proofs.rows.print_row.Goals as goal

pub print_plan-requires : goal.print_plan-requires
unfolding passed_plan
print_plan-requires g c =
    let row = c.args.row.now in
    let e = c.plan_of-plan.ensures.value in
    let passed = sym (plan_outcome_lem row) ∙ sym (ap (λ (p : Plan). p.outcome) e) ∙ c.in_default.is in
    (c.requires, ap (λ (p : Plan). p.kinds) (e ∙ plan_passed row passed))
