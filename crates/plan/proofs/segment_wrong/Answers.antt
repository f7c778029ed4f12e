-- `plan::segment_wrong` meets its contract.
use Rattle.std.proofs.Common.{arith}
use Rattle.plan.proofs.Narrow.{narrow_row, plain_unheld, plain_held}
use Rattle.plan.proofs.segment_wrong.Goals as goal

pub returns-then-p-row-clause-found : goal.returns-then-p-row-clause-found
returns-then-p-row-clause-found c = (omega arith, plain_unheld _ (narrow_row _ c.requires.2) _ c.first_wrong-p.ensures (omega arith))

pub returns-else-p-row-clause-none : goal.returns-else-p-row-clause-none
returns-else-p-row-clause-none c = plain_held _ (narrow_row _ c.requires.2) _ c.first_wrong-p.ensures (omega arith)
