-- The digits passed and those to come make the number.
use Rattle.std.proofs.Common.{◌≡◌, refl, sym, ◌∙◌, arith, eq-eqb, ne_eqb, get_or}
use Rattle.vectors.specs.Text.{unread, with_digit, decimal_of}
use Rattle.vectors.proofs.Digits.{number_turn, number_stop, number_end}
use Rattle.vectors.proofs.line_words.number_of.Goals as goal

pub returns-then-s-eq0-clause-value : goal.returns-then-s-eq0-clause-value
unfolding decimal_of
returns-then-s-eq0-clause-value c = rw (eq-eqb _ 0 c.if-s-eq0.true)

pub loop-i-init : goal.loop-i-init
unfolding decimal_of
loop-i-init c = (omega arith, omega arith, rw (ne_eqb _ 0 c.if-s-eq0.false))

pub returns-in_err-v-clause-value : goal.returns-in_err-v-clause-value
returns-in_err-v-clause-value c =
    let s = c.args.s.now in
    let k = c.loop-i in
    let d : with_digit k.v (get_or s k.i 0) ≡ unread = sym c.in_err-v.ensures.value in
    rw c.from_residual.ensures (sym (number_stop s k.v k.i (get_or s k.i 0) (omega arith) refl d) ∙ k.invariant.2)

pub loop-i-preserved : goal.loop-i-preserved
loop-i-preserved c =
    let s = c.args.s.now in
    let k = c.loop-i in
    let e : c.in_ok-v.v ≡ with_digit k.v (get_or s k.i 0) = c.in_ok-v.ensures.value in
    let n : with_digit k.v (get_or s k.i 0) ≡ unread → ⊥ = λ q. omega (arith, q, e, c.in_ok-v.ensures.bounded) in (
      omega arith,
      c.in_ok-v.ensures.bounded,
      rw e (sym (number_turn s k.v k.i (get_or s k.i 0) (omega arith) refl n) ∙ k.invariant.2),
    )

pub returns-clause-value : goal.returns-clause-value
returns-clause-value c =
    let k = c.loop-i in
    sym (number_end c.args.s.now k.v k.i (omega arith)) ∙ k.invariant.2
