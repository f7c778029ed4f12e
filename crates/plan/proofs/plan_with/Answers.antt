-- `plan::plan_with` meets its contract.
use Rattle.plan.specs.Engine.{no_plan, with_kinds}
use Rattle.plan.proofs.plan_with.Goals as goal

pub returns-in-Err : goal.returns-in-Err
unfolding no_plan
returns-in-Err c = rw c.in-Err.is

pub returns : goal.returns
unfolding with_kinds
returns c = rw c.in_default.is
