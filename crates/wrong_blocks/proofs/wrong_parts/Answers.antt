-- `wrong_blocks::wrong_parts` meets its contract.
use mathlib.Core.Path.{sym, ◌∙◌, ap, ap₂}
use mathlib.Core.Bool.{Bool, not}
use Prim.Native.Nat.{ℕ, ◌+◌}
use Rattle.answer.specs.Answer.{no, refuse_if}
use Rattle.answer.specs.declared.Refusal.TheVariants.{WrongCommonCheck}
use Rattle.std.specs.Prelude.{Err}
use Rattle.channel.specs.Layout.{second_at, second_bits}
use Rattle.wrong_blocks.proofs.Held.{wrong_first_lem, right_20, wrong_second_lem, wrong_first_2, wrong_second_2}
use Rattle.wrong_blocks.proofs.wrong_parts.Goals as goal

pub returns-then-not-is_first_right : goal.returns-then-not-is_first_right
returns-then-not-is_first_right c = let e = sym c.is_first_right.ensures ∙ c.if-not-is_first_right.true in
    ap (λ (n : ℕ). Err (WrongCommonCheck 1 n)) c.first_bits.ensures.value ∙ wrong_first_lem c.args.bw c.args.parts e

pub returns-then-bw-eq0 : goal.returns-then-bw-eq0
returns-then-bw-eq0 c = let f = sym c.is_first_right.ensures ∙ c.if-not-is_first_right.false in
    right_20 c.args.bw c.args.parts f c.if-bw-eq0.true

pub returns-then-not-is_second_right : goal.returns-then-not-is_second_right
returns-then-not-is_second_right c = let f = sym c.is_first_right.ensures ∙ c.if-not-is_first_right.false in
    let e = sym c.is_second_right.ensures ∙ c.if-not-is_second_right.true in
    ap (λ (n : ℕ). Err (WrongCommonCheck 1 n)) c.second_check.ensures.value ∙ wrong_second_lem c.args.bw c.args.parts f e

pub returns-then-not-is_first_right-2 : goal.returns-then-not-is_first_right-2
returns-then-not-is_first_right-2 c = let f = sym c.is_first_right.ensures ∙ c.if-not-is_first_right.false in
    let s = sym c.is_second_right.ensures ∙ c.if-not-is_second_right.false in
    let e = sym c.is_first_right-2.ensures ∙ c.if-not-is_first_right-2.true in
    ap (λ (n : ℕ). Err (WrongCommonCheck 2 n)) c.first_bits-then-not-is_first_right-2.ensures.value
    ∙ wrong_first_2 c.args.bw c.args.parts f s c.if-bw-eq0.false e

pub returns-then-is_second_right : goal.returns-then-is_second_right
returns-then-is_second_right c = let f = sym c.is_first_right.ensures ∙ c.if-not-is_first_right.false in
    let s = sym c.is_second_right.ensures ∙ c.if-not-is_second_right.false in
    let e = sym c.is_first_right-2.ensures ∙ c.if-not-is_first_right-2.false in
    let r = sym c.is_second_right-2.ensures ∙ c.if-is_second_right.true in
    ap (λ (t : Bool). refuse_if (not t) (WrongCommonCheck 2 (second_at c.args.bw + second_bits c.args.bw))) (sym r)
    ∙ wrong_second_2 c.args.bw c.args.parts f s c.if-bw-eq0.false e

pub returns : goal.returns
returns c = let f = sym c.is_first_right.ensures ∙ c.if-not-is_first_right.false in
    let s = sym c.is_second_right.ensures ∙ c.if-not-is_second_right.false in
    let e = sym c.is_first_right-2.ensures ∙ c.if-not-is_first_right-2.false in
    let r = sym c.is_second_right-2.ensures ∙ c.if-is_second_right.false in
    ap₂ (λ (t : Bool) (n : ℕ). refuse_if (not t) (WrongCommonCheck 2 n)) (sym r) c.second_check-2.ensures.value
    ∙ wrong_second_2 c.args.bw c.args.parts f s c.if-bw-eq0.false e
