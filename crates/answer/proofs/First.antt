-- The laws of a list of checks in their order: it is the chain of them, passes exactly where each does, and refuses exactly
-- where one of them refuses and nothing earlier applies.
use mathlib.Core.Path.{◌≡◌, refl, sym, ◌∙◌}
use mathlib.Core.Logic.{⊎_elim}
use mathlib.Core.List.{List, [], ◌∷◌, ◌++◌}
use Prim.Native.Nat.{ℕ, zero, suc, ◌<◌}
use native.Mathlib.Omega.{arith}
use lib.ListN.{length, get_or}
use Rattle.answer.specs.Answer.{◌or◌}
use Rattle.answer.specs.declared.Answer.{Answer}
use Rattle.answer.specs.Answer.{Outcome}
use Rattle.std.specs.Prelude.{Ok, Err}
use Rattle.answer.specs.Order.{first_of, Applies}
use Rattle.answer.proofs.Order.{pass_not_refuse, pass_left, pass_right, or_pass, or_refuse, or_next, or_cases, or_assoc, pass_or, or_end}
use Rattle.answer.specs.declared.Refusal.{Refusal}

-- The list as a chain that is written out: o or o₁ or o₂ ..
abbrev pub chain : Outcome → List Outcome → Outcome
chain o [] = o
chain o (p ∷ os) = chain (o or p) os

pub first_chain : (o : Outcome) (os : List Outcome) → first_of (o ∷ os) ≡ chain o os
unfolding first_of
first_chain o [] = or_end o
first_chain o (p ∷ os) = sym (or_assoc o p (first_of os)) ∙ first_chain (o or p) os

pub first_append : (os ps : List Outcome) → first_of (os ++ ps) ≡ first_of os or first_of ps
unfolding first_of
first_append [] ps = sym (pass_or (first_of ps))
first_append (o ∷ os) ps = rw (first_append os ps) (sym (or_assoc o (first_of os) (first_of ps)))

-- It passes exactly where each check does.
pub first_pass : (os : List Outcome) → first_of os ≡ Ok tt → (k : ℕ) → get_or os k (Ok tt) ≡ Ok tt
unfolding first_of
first_pass [] e k = refl
first_pass (o ∷ os) e zero = pass_left o (first_of os) e
first_pass (o ∷ os) e (suc k) = first_pass os (pass_right o (first_of os) e) k

pub pass_first : (os : List Outcome) → ((k : ℕ) → k < length os → get_or os k (Ok tt) ≡ Ok tt) → first_of os ≡ Ok tt
unfolding first_of
pass_first [] h = refl
pass_first (o ∷ os) h = or_pass o (first_of os) (h 0 (omega arith)) (pass_first os (λ k l. h (suc k) (omega arith)))

pub applies_below : (os : List Outcome) (k : ℕ) (x : Refusal) → get_or os k (Ok tt) ≡ Err x → k < length os
applies_below [] k x e = absurd (pass_not_refuse refl e)
applies_below (o ∷ os) zero x e = omega arith
applies_below (o ∷ os) (suc k) x e = let h = applies_below os k x e in omega arith

-- The list refuses with x exactly where one of its checks does and nothing earlier applies.
pub first_applies : (os : List Outcome) (x : Refusal) → first_of os ≡ Err x → (k : ℕ) × Applies os k x
unfolding first_of
first_applies [] x e = absurd (pass_not_refuse refl e)
first_applies (o ∷ os) x e =
    ⊎_elim
    (λ (p : o ≡ Err x). (0, record { refuses = p; nothing_earlier = λ j l. absurd (omega arith) }))
    (λ (p : (o ≡ Ok tt) × (first_of os ≡ Err x)). later p.0 (first_applies os x p.1))
    (or_cases o (first_of os) x e)
  where
    before : (k : ℕ) → o ≡ Ok tt → ((j : ℕ) → j < k → get_or os j (Ok tt) ≡ Ok tt) → (j : ℕ) → j < suc k → get_or (o ∷ os) j (Ok tt) ≡ Ok tt
    before k p h zero l = p
    before k p h (suc j) l = h j (omega arith)

    later : o ≡ Ok tt → (k : ℕ) × Applies os k x → (k : ℕ) × Applies (o ∷ os) k x
    later p r = (suc r.0, record { refuses = r.1.refuses; nothing_earlier = before r.0 p r.1.nothing_earlier })

pub applies_first : (os : List Outcome) (k : ℕ) (x : Refusal) → Applies os k x → first_of os ≡ Err x
unfolding first_of
applies_first [] k x a = absurd (pass_not_refuse refl a.refuses)
applies_first (o ∷ os) zero x a = or_refuse o (first_of os) x a.refuses
applies_first (o ∷ os) (suc k) x a =
    or_next o (first_of os) (a.nothing_earlier 0 (omega arith))
    ∙ applies_first os k x (record { refuses = a.refuses; nothing_earlier = λ j l. a.nothing_earlier (suc j) (omega arith) })
