-- `plan::glance` meets its contract.
use Rattle.std.proofs.Common.{ℕ, ◌+◌, ◌*◌, ◌/◌, ◌%◌, ◌^◌, ◌≤◌, ◌≡◌, refl, ◌∙◌, ap, arith, mod-eq_of_lt, length, replicate}
use lib.ListN.{length-replicate}
use Rattle.answer.specs.Lists.{at}
use Rattle.answer.proofs.Lists.{filled_start, filled_length}
use Rattle.roles.proofs.Steps.{settle_most}
use Rattle.plan.specs.Engine.{glance_kind, glance_marks, role_sum, glance_of, with_kinds}
use Rattle.plan.proofs.Roles.{sum_most, marks_most, shifted_most, next_marks, next_lower, next_sum, next_kinds, kinds_past}
use Rattle.plan.proofs.glance.Goals as goal

pub loop-s-init : goal.loop-s-init
unfolding glance_marks role_sum
loop-s-init c = (c.requires.2 ∙ filled_start _ _, refl, refl, refl)

pub overflow_add-fields1-in-loop-s : goal.overflow_add-fields1-in-loop-s
overflow_add-fields1-in-loop-s c = omega (
  arith,
  c.requires.1.low (4 * c.loop-s.s),
  c.requires.1.low (4 * c.loop-s.s + 2),
  c.loop-s.invariant.2,
  sum_most _ c.requires.1 0 c.loop-s.s,
)

pub overflow_add-fields2-in-loop-s : goal.overflow_add-fields2-in-loop-s
overflow_add-fields2-in-loop-s c = omega (
  arith,
  c.requires.1.low (4 * c.loop-s.s + 1),
  c.requires.1.low (4 * c.loop-s.s + 3),
  c.loop-s.invariant.3,
  sum_most _ c.requires.1 1 c.loop-s.s,
)

pub enter_kinds-requires : goal.enter_kinds-requires
enter_kinds-requires c =
    let n = filled_length (glance_kind (at c.args.roles.now)) (4 * c.loop-s.s) (replicate 16 0) (omega (arith, length-replicate {A = ℕ} 16 0)) in
    (ap length c.loop-s.invariant.0 ∙ n ∙ length-replicate {A = ℕ} 16 0, omega arith, kinds_past _ _ _ c.loop-s.invariant.0)

pub overflow_add-shared : goal.overflow_add-shared
overflow_add-shared c =
    let m : c.settle-x.result.marks ≤ 131072 = rw c.settle-x.ensures (settle_most _ _ _ _) in
    let k = shifted_most c.settle-x.result.marks (4 * c.loop-s.s) m (omega arith) in
    omega (arith, c.loop-s.invariant.1, marks_most _ c.requires.1 c.loop-s.s (omega arith), k)

pub loop-s-preserved : goal.loop-s-preserved
loop-s-preserved c =
    let s = c.loop-s.s in
    let m : c.settle-x.result.marks ≤ 131072 = rw c.settle-x.ensures (settle_most _ _ _ _) in
    let k = shifted_most c.settle-x.result.marks (4 * s) m (omega arith) in
    let z : c.settle-x.result.marks * 2 ^ (4 * s) % 4294967296 ≡ c.settle-x.result.marks * 2 ^ (4 * s) =
    mod-eq_of_lt (omega arith) in
    let next : 4 * (s + 1) ≡ 4 * s + 4 = omega arith in (
      rw next (next_kinds c.args.roles.now s _ _ _ c.settle-x.ensures (omega arith) c.loop-s.invariant.0 c.enter_kinds.ensures),
      rw z (next_marks c.args.roles.now s _ _ c.settle-x.ensures c.loop-s.invariant.1),
      next_lower c.args.roles.now s _ c.loop-s.invariant.2,
      next_sum c.args.roles.now s 1 _ c.loop-s.invariant.3,
    )

pub returns : goal.returns
unfolding glance_of with_kinds
returns c =
    let e : (c.args.n + 3) / 4 ≡ c.loop-s.s = omega arith in
    rw (e, c.loop-s.invariant.0, c.loop-s.invariant.1, c.loop-s.invariant.2, c.loop-s.invariant.3)
