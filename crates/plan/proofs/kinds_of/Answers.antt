-- `plan::kinds_of` meets its contract.
use Rattle.std.proofs.Common.{arith, sym, ◌∙◌}
use Rattle.plan.proofs.Steps.{wider_some}
use Rattle.plan.proofs.Narrow.{narrow_row, kinds_by_segment}
use Rattle.plan.proofs.kinds_of.Goals as goal

pub wide_kinds-requires : goal.wide_kinds-requires
wide_kinds-requires c = (omega arith, wider_some _ (sym c.requires.1 ∙ c.if-wide.true))

pub returns-else-wide : goal.returns-else-wide
returns-else-wide c =
    let narrow = narrow_row _ (sym c.requires.1 ∙ c.if-wide.false) in
    (c.kinds_of.ensures ∙ kinds_by_segment _ narrow, λ e. c.kinds_of.ensures)
