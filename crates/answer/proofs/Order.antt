-- The laws of an outcome and of two checks in a row: what passing says, what a refusal says, and what may have written a
-- lent buffer.
use mathlib.Core.Path.{◌≡◌, refl, ◌∙◌, ap}
use mathlib.Core.Logic.{◌⊎◌, inl, inr}
use mathlib.Core.Bool.{Bool, true, false}
use Prim.Native.Nat.{ℕ}
use native.Mathlib.Omega.{arith}
use Rattle.answer.specs.Answer.{refuse_if, ◌or◌, answer_at, after, passes}
use Rattle.answer.specs.declared.Answer.{Answer}
use Rattle.answer.specs.Answer.{Outcome}
use Rattle.answer.specs.declared.Refusal.{Refusal}
use Rattle.std.specs.Prelude.{Ok, Err}

-- An outcome is no other than these two.
pub pass_or_refuse : (o : Outcome) → (o ≡ Ok tt) ⊎ ((x : Refusal) × (o ≡ Err x))
pass_or_refuse (Ok u) = inl refl
pass_or_refuse (Err x) = inr (x, refl)

pub pass_not_refuse : {o : Outcome} {x : Refusal} → o ≡ Ok tt → o ≡ Err x → ⊥
pass_not_refuse p q = let z : ◌≡◌ {A = ℕ} 0 1 = cc in omega arith

pub refuse_same : {o : Outcome} {x y : Refusal} → o ≡ Err x → o ≡ Err y → x ≡ y
refuse_same p q = cc

-- What passing says of each part, and back.
pub pass_left : (a b : Outcome) → a or b ≡ Ok tt → a ≡ Ok tt
pass_left (Ok u) b e = refl
pass_left (Err x) b e = e

pub pass_right : (a b : Outcome) → a or b ≡ Ok tt → b ≡ Ok tt
pass_right (Ok u) b e = e
pass_right (Err x) b e = absurd (pass_not_refuse e refl)

pub or_pass : (a b : Outcome) → a ≡ Ok tt → b ≡ Ok tt → a or b ≡ Ok tt
or_pass a b p q = rw p q

pub pass_if : (t : Bool) (x : Refusal) → refuse_if t x ≡ Ok tt → t ≡ false
pass_if true x e = absurd (pass_not_refuse e refl)
pass_if false x e = refl

pub if_pass : (t : Bool) (x : Refusal) → t ≡ false → refuse_if t x ≡ Ok tt
if_pass t x e = rw e

-- What a refusal says: the first that refuses gives the answer.
pub or_refuse : (a b : Outcome) (x : Refusal) → a ≡ Err x → a or b ≡ Err x
or_refuse a b x e = rw e

pub or_next : (a b : Outcome) → a ≡ Ok tt → a or b ≡ b
or_next a b e = rw e

pub or_cases : (a b : Outcome) (x : Refusal) → a or b ≡ Err x → (a ≡ Err x) ⊎ ((a ≡ Ok tt) × (b ≡ Err x))
or_cases (Ok u) b x e = inr (refl, e)
or_cases (Err y) b x e = inl e

pub refuse_if_lem : (t : Bool) (x y : Refusal) → refuse_if t x ≡ Err y → (t ≡ true) × (x ≡ y)
refuse_if_lem true x y e = (refl, cc)
refuse_if_lem false x y e = absurd (pass_not_refuse refl e)

-- The chain does not mind how it is bracketed, and Pass says nothing in it.
pub or_assoc : (a b c : Outcome) → a or b or c ≡ a or (b or c)
or_assoc (Ok u) b c = refl
or_assoc (Err x) b c = refl

pub pass_or : (b : Outcome) → (Ok tt) or b ≡ b
pass_or b = refl

pub or_end : (a : Outcome) → a or (Ok tt) ≡ a
or_end (Ok u) = refl
or_end (Err x) = refl

-- A lent buffer: only an answer 0 may have written it.
pub after_refused : {A : Type 0} (o : Outcome) (x : Refusal) (new old : A) → o ≡ Err x → after o new old ≡ old
after_refused o x new old e = rw e

pub after_passed : {A : Type 0} (o : Outcome) (new old : A) → o ≡ Ok tt → after o new old ≡ new
after_passed o new old e = rw e

pub after_kept : {A : Type 0} (o : Outcome) (n : ℕ) (new old : A) → ((answer_at o n).number ≡ 0 → ⊥) → after o new old ≡ old
after_kept (Ok u) n new old h = absurd (h refl)
after_kept (Err x) n new old h = refl

pub after_answered : {A : Type 0} (o : Outcome) (n : ℕ) (r : Answer) (new old : A) → r ≡ answer_at o n → (r.number ≡ 0 → ⊥) → after o new old ≡ old
after_answered o n r new old e h = after_kept o n new old (λ z. h (ap (λ (x : Answer). x.number) e ∙ z))

-- The test of an outcome.
pub passes_true : (o : Outcome) → passes o ≡ true → o ≡ Ok tt
passes_true (Ok u) e = refl
passes_true (Err x) e = absurd (let z : ◌≡◌ {A = ℕ} 0 1 = cc in omega arith)
