-- `responding::put_outcome` meets its contract.
use Rattle.both_halves.proofs.Halves.{first_refuses, lent_code, handed}
use Rattle.listed.specs.Listing.{frame_text}
use Rattle.responding.proofs.put_outcome.Goals as goal

pub returns-in-Err : goal.returns-in-Err
unfolding frame_text
returns-in-Err c =
    rw (first_refuses c.args.bw c.args.a.now c.args.b.now c.plan_row-plan.ensures _ c.in-Err.is)
    (rw c.from-x.ensures at c.put_refusal.ensures.wrote)

pub positions_of-n-requires : goal.positions_of-n-requires
positions_of-n-requires c = lent_code _ _ _ c.plan_row-plan.ensures c.in_default.is

pub put_planned-requires : goal.put_planned-requires
put_planned-requires c = handed _ _ _ c.plan_row-plan.ensures c.in_default.is c.positions_of-n.ensures.value
