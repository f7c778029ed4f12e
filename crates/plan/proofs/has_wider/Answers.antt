-- `plan::has_wider` meets its contract.
use Rattle.std.proofs.Common.{rules, tests, ◌∙◌}
use Rattle.std.proofs.lemmas.Iterator.{YieldsList-from_slice}
use Rattle.std.proofs.lemmas.Iterator.Search.{any_from_yields_List}
use Rattle.plan.specs.Engine.{wider}
use Rattle.plan.proofs.Steps.{any_is}
use Rattle.plan.proofs.has_wider.Goals as goal

pub returns : goal.returns
returns c =
    any_from_yields_List wider _ _ _ c.any.ensures.ran (YieldsList-from_slice c.args.row.now cc) (λ x b q k. search (rules, tests))
    ∙ any_is c.args.row.now
