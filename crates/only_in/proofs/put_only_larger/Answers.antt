-- `only_in::put_only_larger` meets its contract.
use Rattle.std.proofs.Common.{arith, sym, ◌∙◌, eqb-true, eq-eqb, ne_eqb, length}
use Rattle.answer.specs.Lists.{at as value}
use Rattle.text.proofs.Laws.{nothing, after}
use Rattle.position_lines.proofs.Lines.{not_lowest, at_lowest, one_line}
use Rattle.only_in.specs.Engine.{only_larger}
use Rattle.only_in.proofs.Lines.{no_sided, one_sided}
use Rattle.only_in.proofs.put_only_larger.Goals as goal

pub returns-then-kind-other-clause-wrote : goal.returns-then-kind-other-clause-wrote
unfolding only_larger
returns-then-kind-other-clause-wrote c = rw (eq-eqb _ _ c.if-kind-other.true) (nothing _ _)

pub returns-then-not-is_lowest-clause-wrote : goal.returns-then-not-is_lowest-clause-wrote
unfolding only_larger
returns-then-not-is_lowest-clause-wrote c =
    let e = not_lowest c.args.kind (value c.args.row.now) c.args.p c.requires.5 (sym c.is_lowest.ensures ∙ c.if-not-is_lowest.true) in
    rw (ne_eqb _ _ c.if-kind-other.false, e, no_sided c.args.side (length c.args.row.now)) (nothing _ _)

pub returns-clause-wrote : goal.returns-clause-wrote
unfolding only_larger
returns-clause-wrote c =
    let lowest = eqb-true _ _ (sym c.is_lowest.ensures ∙ c.if-not-is_lowest.false) in
    let e = at_lowest c.args.kind (value c.args.row.now) c.args.p c.requires.5 lowest in
    let w_wrote = rw e at c.put_larger.ensures.wrote in
    rw (ne_eqb _ _ c.if-kind-other.false, e, one_sided c.args.side (length c.args.row.now)) (after c.put_side-a.ensures.wrote (rw one_line at w_wrote))

pub returns-clause-bounded : goal.returns-clause-bounded
unfolding only_larger
returns-clause-bounded c =
    let lowest = eqb-true _ _ (sym c.is_lowest.ensures ∙ c.if-not-is_lowest.false) in
    let e = at_lowest c.args.kind (value c.args.row.now) c.args.p c.requires.5 lowest in
    let w_bounded = rw e at c.put_larger.ensures.bounded in
    omega (arith, c.put_side-a.ensures.bounded, w_bounded)
