-- `both_halves::plan_accepted` meets its contract.
use Rattle.std.proofs.Common.{arith}
use Rattle.halves.proofs.Stages.{common_pass}
use Rattle.halves.proofs.Half.{planned_made}
use Rattle.both_halves.proofs.Halves.{stopped, both}
use Rattle.both_halves.proofs.plan_accepted.Goals as goal

pub returns-in-Err : goal.returns-in-Err
returns-in-Err c = stopped c.args.bw c.args.a.now c.args.b.now _ _ c.plan_frame-plan.ensures c.in-Err.is

pub check_users-outcome-requires : goal.check_users-outcome-requires
check_users-outcome-requires c =
    let m = planned_made c.args.bw c.args.a.now c.args.b.now _ c.plan_frame-plan.ensures c.in_default.is in
    ((common_pass c.args.bw c.args.a.now c.args.b.now m.common).short, omega (arith, m.most1, m.most2), m.most1, m.most2, m.count1, m.count2)

pub returns : goal.returns
returns c = both c.args.bw c.args.a.now c.args.b.now _ _ c.plan_frame-plan.ensures c.in_default.is c.check_users-outcome.ensures.value
