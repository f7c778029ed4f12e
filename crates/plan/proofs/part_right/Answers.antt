-- `plan::part_right` meets its contract.
use Rattle.std.proofs.Common.{◌≡◌, arith, sym, ◌∙◌, ◌+◌, ◌-◌, ◌*◌, ap, not}
use Rattle.plan.proofs.Steps.{wrong_is, part_not, part_all, before_first, before_next}
use Rattle.plan.proofs.Only.{part_known}
use Rattle.answer.specs.Lists.{at}
use Rattle.answer.proofs.Least.{least_start, least_step}
use Rattle.plan.proofs.part_right.Goals as goal

pub loop-p-init : goal.loop-p-init
loop-p-init c =
    let a = c.args.n * c.args.k in
    let z : a - a ≡ 0 = omega arith in
    (rw z (least_start _), before_first _ _ _ _)

pub is_right-requires : goal.is_right-requires
is_right-requires c =
    let p = c.loop-p.p in
    let f = c.requires.3.given_to p (omega arith) (omega (arith, c.min-e.ensures)) in
    (omega (arith, c.min-e.ensures), omega (arith, c.min-e.ensures), rw f (part_known c.args.n c.requires.1 (at c.args.row.now) p), c.loop-p.invariant.1)

pub returns-then-not-is_right : goal.returns-then-not-is_right
returns-then-not-is_right c =
    let o = at c.args.kinds.now in
    let wrong = wrong_is c.args.row.now c.args.n c.args.k o c.requires.3.given_to _ c.loop-p.p _ _ c.min-e.ensures (omega arith) (omega arith)
    c.is_right.ensures in
    part_not c.args.row.now c.args.n c.args.k o c.loop-p.p c.loop-p.invariant.0 (omega arith) (omega (arith, c.min-e.ensures))
    (wrong (ap not c.if-not-is_right.true))

pub loop-p-preserved : goal.loop-p-preserved
loop-p-preserved c =
    let o = at c.args.kinds.now in
    let a = c.args.n * c.args.k in
    let d : c.loop-p.p + 1 - a ≡ c.loop-p.p - a + 1 = omega arith in
    let wrong = wrong_is c.args.row.now c.args.n c.args.k o c.requires.3.given_to _ c.loop-p.p _ _ c.min-e.ensures (omega arith) (omega arith)
    c.is_right.ensures in
    let right = sym c.is_right.ensures ∙ c.if-not-is_right.false in (
      rw d (least_step _ _ c.loop-p.invariant.0 (wrong (ap not c.if-not-is_right.false))),
      before_next o (at c.args.row.now) _ _ c.loop-p.p (omega arith) right,
    )

pub returns : goal.returns
returns c = part_all c.args.row.now c.args.n c.args.k (at c.args.kinds.now) c.loop-p.p c.loop-p.invariant.0 (omega (arith, c.min-e.ensures))
