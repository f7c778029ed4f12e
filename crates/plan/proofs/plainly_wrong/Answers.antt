-- `plan::plainly_wrong` meets its contract.
use Rattle.std.proofs.Common.{arith, sym, ◌∙◌}
use Rattle.plan.proofs.Narrow.{narrow_row, four_unheld}
use Rattle.plan.proofs.plainly_wrong.Goals as goal

pub returns-then-s-row : goal.returns-then-s-row
returns-then-s-row c =
    (omega arith, four_unheld c.args.row.now (narrow_row _ (sym c.requires.1 ∙ c.if-wide.false)) _ c.first_four_wrong-s.ensures (omega arith))
