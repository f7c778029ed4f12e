-- `plan::is_right` meets its contract.
use Rattle.plan.proofs.Steps.{right_not, right_rest, entire_before}
use Rattle.segments.proofs.Found.{and_left, and_right}
use Rattle.std.proofs.Common.{eqb-true, ltb-true, refl, sym, ◌∙◌, eqb}
use Rattle.answer.specs.Lists.{at}
use Rattle.plan.proofs.is_right.Goals as goal

pub returns-then-not-fits : goal.returns-then-not-fits
returns-then-not-fits c = right_not _ _ _ _ _ _ _ refl c.value_at.ensures (sym c.fits.ensures ∙ c.if-not-fits.true)

pub returns-then-kind-before : goal.returns-then-kind-before
returns-then-kind-before c =
    let o = at c.args.kinds.now in
    let same = eqb-true _ _ (and_left _ _ c.if-kind-before.true) in
    let later = ltb-true _ _ (and_right (eqb (o c.args.p) c.args.before) _ c.if-kind-before.true) in
    entire_before o (at c.args.row.now) c.args.a c.args.e c.args.p (o c.args.p) c.args.before c.requires.2 same (rw (← c.start_of.ensures.1) later)
    c.requires.3
    ∙ right_rest _ _ _ _ _ _ _ refl c.value_at.ensures (sym c.fits.ensures ∙ c.if-not-fits.false)

pub returns-else-kind-before : goal.returns-else-kind-before
returns-else-kind-before c =
    c.is_entire.ensures
    ∙ right_rest _ _ _ _ _ _ _ refl c.value_at.ensures (sym c.fits.ensures ∙ c.if-not-fits.false)
