--
use Rattle.compare.specs.Engine.{first_changed}
use Rattle.channel.specs.Layout.{user_at}
use Rattle.bits.specs.Bits.{field}
use Rattle.std.proofs.Common.{ℕ, eq-eqb, ne_eqb, eqb, not, ◌≡◌, sym, ap, ◌∙◌, arith}
use Rattle.answer.proofs.Least.{least_start, least_step, least_stop, least_end}
use Rattle.compare.proofs.first_changed.Goals as goal

pub loop-i-init : goal.loop-i-init
loop-i-init c = (omega arith, least_start _)

pub returns-then-field_at : goal.returns-then-field_at
unfolding first_changed
returns-then-field_at c =
    let x : c.field_at.result ≡ field c.args.s.now (user_at c.args.bw c.loop-i.i) 22 =
    c.field_at.ensures ∙ ap (λ (j : ℕ). field c.args.s.now j 22) c.user_bit-at.ensures in
    let y : c.field_at-in-loop-i.result ≡ field c.args.t.now (user_at c.args.bw c.loop-i.i) 22 =
    c.field_at-in-loop-i.ensures ∙ ap (λ (j : ℕ). field c.args.t.now j 22) c.user_bit-at.ensures in
    let f = ap not (ne_eqb _ _ (λ e. c.if-field_at.true (x ∙ e ∙ sym y))) in
    sym (least_stop (λ j. not (eqb (field c.args.s.now (user_at c.args.bw j) 22) (field c.args.t.now (user_at c.args.bw j) 22))) c.loop-i.i _ (omega arith)
    c.loop-i.invariant.1 f)

pub loop-i-preserved : goal.loop-i-preserved
loop-i-preserved c =
    let x : c.field_at.result ≡ field c.args.s.now (user_at c.args.bw c.loop-i.i) 22 =
    c.field_at.ensures ∙ ap (λ (j : ℕ). field c.args.s.now j 22) c.user_bit-at.ensures in
    let y : c.field_at-in-loop-i.result ≡ field c.args.t.now (user_at c.args.bw c.loop-i.i) 22 =
    c.field_at-in-loop-i.ensures ∙ ap (λ (j : ℕ). field c.args.t.now j 22) c.user_bit-at.ensures in
    let f = ap not (eq-eqb _ _ (sym x ∙ c.if-field_at.false ∙ y)) in (
      omega arith,
      least_step (λ j. not (eqb (field c.args.s.now (user_at c.args.bw j) 22) (field c.args.t.now (user_at c.args.bw j) 22))) c.loop-i.i
          c.loop-i.invariant.1 f,
    )

pub returns : goal.returns
unfolding first_changed
returns c =
    let e : c.loop-i.i ≡ c.args.n = omega arith in
    sym (least_end (λ j. not (eqb (field c.args.s.now (user_at c.args.bw j) 22) (field c.args.t.now (user_at c.args.bw j) 22))) c.loop-i.i c.args.n e
    c.loop-i.invariant.1 ∙ e)
