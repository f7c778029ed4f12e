-- `plan::unheld_in` meets its contract.
use Rattle.std.proofs.Common.{arith, sym, ◌∙◌}
use Rattle.plan.proofs.Steps.{wider_some}
use Rattle.plan.proofs.unheld_in.Goals as goal

pub first_unheld-requires : goal.first_unheld-requires
first_unheld-requires c = (omega arith, wider_some _ (sym c.requires.1 ∙ c.if-wide.true), c.requires.2)
