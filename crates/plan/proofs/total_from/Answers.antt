-- `plan::total_from` meets its contract.
use Rattle.segments.proofs.Found.{and_left, and_right}
use Rattle.kinds.proofs.Steps.{share_alone, total_alone, total_reused}
use Rattle.kinds.specs.Fields.{share}
use Rattle.std.proofs.Common.{eqb-true, ltb-true, eqb, ◌∙◌, ap}
use Rattle.plan.proofs.total_from.Goals as goal

pub returns-then-kind-eq0 : goal.returns-then-kind-eq0
returns-then-kind-eq0 c =
    c.own_fields.ensures
    ∙ share_alone c.args.p _
    ∙ ap (share 0 c.args.p) c.value_at.ensures
    ∙ total_alone _ _ _ c.if-kind-eq0.true

pub returns-then-kind-before : goal.returns-then-kind-before
returns-then-kind-before c =
    let same = eqb-true _ _ (and_left _ _ c.if-kind-before.true) in
    let later = ltb-true _ _ (and_right (eqb c.args.kind c.args.before) _ c.if-kind-before.true) in
    total_reused _ _ _ _ _ c.requires.0 c.requires.2 same (rw (← c.start_of.ensures.1) later)
