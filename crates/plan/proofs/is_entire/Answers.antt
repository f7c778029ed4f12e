-- `plan::is_entire` meets its contract.
use Rattle.plan.proofs.Steps.{entire_not, entire_all}
use Rattle.std.proofs.Common.{arith, not, ap}
use Rattle.answer.proofs.Least.{least_start, least_step}
use Rattle.plan.proofs.is_entire.Goals as goal

pub loop-j-init : goal.loop-j-init
loop-j-init c = least_start _

pub returns-then-not-place_given : goal.returns-then-not-place_given
returns-then-not-place_given c = entire_not _ _ _ _ _ _ c.loop-j.invariant (omega arith) (rw (← c.place_given.ensures) (ap not c.if-not-place_given.true))

pub loop-j-preserved : goal.loop-j-preserved
loop-j-preserved c = least_step _ _ c.loop-j.invariant (rw (← c.place_given.ensures, c.if-not-place_given.false))

pub returns : goal.returns
returns c = entire_all _ _ _ _ _ _ c.loop-j.invariant (omega arith)
