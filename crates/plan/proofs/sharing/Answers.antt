-- `plan::sharing` meets its contract.
use Rattle.plan.proofs.Value.{kind_held, bit_most, over_at_lem, shared_next, shared_lt}
use Rattle.std.proofs.Common.{◌^◌, ℕ, ◌+◌, ◌-◌, ◌≤◌, pow_mono, lt-ltb, le-ltb, ap, ◌≡◌, refl, sym, ◌∙◌, length, arith}
use Rattle.plan.specs.Engine.{only_plan, over_at, first_over, shared_to}
use Rattle.kinds.specs.Fields.{together}
use Rattle.answer.specs.Lists.{at}
use Rattle.answer.proofs.Least.{least_start, least_step, least_stop}
use Rattle.plan.proofs.sharing.Goals as goal

pub loop-p-init : goal.loop-p-init
unfolding shared_to
loop-p-init c = (least_start _, refl, λ h. absurd (omega arith))

pub returns-then-t-gt8-clause-over : goal.returns-then-t-gt8-clause-over
unfolding first_over
returns-then-t-gt8-clause-over c = (
  omega arith,
  sym (least_stop (over_at c.args.row.now) c.loop-p.p (length c.args.row.now) (omega arith) c.loop-p.invariant.0
      (over_at_lem c.args.row.now c.loop-p.p _ c.total_from-t.result (kind_held c.args.row.now _ c.loop-p.p (omega arith) c.requires.1).1 c.total_from-t.ensures
      ∙ lt-ltb _ _ c.if-t-gt8.true)),
)

pub total_from-t-requires : goal.total_from-t-requires
total_from-t-requires c = ((kind_held c.args.row.now _ c.loop-p.p (omega arith) c.requires.1).0, omega arith, c.loop-p.invariant.2)

pub overflow_add-shared : goal.overflow_add-shared
overflow_add-shared c =
    let u : 2 ^ c.loop-p.p ≤ 2 ^ 16 = pow_mono {i = c.loop-p.p} {j = 16} (omega arith) in
    let m = shared_lt c.args.row.now c.loop-p.p in
    let b = bit_most c.total_from-t.result (2 ^ c.loop-p.p) in
    omega (arith, c.loop-p.invariant.1, c.shared_bit-shared.ensures)

pub loop-p-preserved : goal.loop-p-preserved
loop-p-preserved c =
    let k = (kind_held c.args.row.now _ c.loop-p.p (omega arith) c.requires.1).1 in
    let e : c.total_from-t.result ≡ together (only_plan (at c.args.row.now) c.loop-p.p) (at c.args.row.now) c.loop-p.p =
    c.total_from-t.ensures ∙ ap (λ (x : ℕ). together x (at c.args.row.now) c.loop-p.p) k in
    let d : c.loop-p.p + 1 - 1 ≡ c.loop-p.p = omega arith in (
      least_step (over_at c.args.row.now) c.loop-p.p c.loop-p.invariant.0
          (over_at_lem c.args.row.now c.loop-p.p _ c.total_from-t.result k c.total_from-t.ensures ∙ le-ltb 8 c.total_from-t.result (omega arith)),
      cc (c.loop-p.invariant.1, c.shared_bit-shared.ensures) ∙ shared_next c.args.row.now c.loop-p.p c.total_from-t.result e,
      λ h. rw d c.total_from-t.ensures,
    )

pub returns-clause-shared : goal.returns-clause-shared
unfolding first_over
returns-clause-shared c =
    let e : c.loop-p.p ≡ length c.args.row.now = omega arith in (rw (← e) (sym c.loop-p.invariant.0), rw (← e) c.loop-p.invariant.1)
