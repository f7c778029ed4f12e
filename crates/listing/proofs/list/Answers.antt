-- `listing::list` meets its contract.
use Rattle.std.proofs.Common.{◌∙◌}
use Rattle.both_halves.proofs.Halves.{first_refuses, lent_code, handed}
use Rattle.listing.proofs.Outcome.{refused_by}
use Rattle.listing.proofs.list.Goals as goal

pub returns-in-Err-clause-value : goal.returns-in-Err-clause-value
returns-in-Err-clause-value c =
    c.into.ensures
    ∙ (refused_by c.args.bandwidth c.args.cc1.now c.args.cc2.now c.args.out.now _
    (first_refuses _ _ _ c.plan_row-plan.ensures _ c.in-Err.is)).0

pub returns-in-Err-clause-out_after : goal.returns-in-Err-clause-out_after
returns-in-Err-clause-out_after c =
    (refused_by c.args.bandwidth c.args.cc1.now c.args.cc2.now c.args.out.now _
    (first_refuses _ _ _ c.plan_row-plan.ensures _ c.in-Err.is)).1

pub positions_of-n-requires : goal.positions_of-n-requires
positions_of-n-requires c = lent_code _ _ _ c.plan_row-plan.ensures c.in_default.is

pub list_planned-requires : goal.list_planned-requires
list_planned-requires c = handed _ _ _ c.plan_row-plan.ensures c.in_default.is c.positions_of-n.ensures.value
