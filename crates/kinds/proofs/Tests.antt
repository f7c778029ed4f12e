-- Tests and what they decide.
use mathlib.Core.Path.{◌≡◌, refl}
use mathlib.Core.Logic.{◌⊎◌, inl, inr, ⊎_elim, ◌≢◌}
use mathlib.Core.Bool.{Bool, true, false, ◌&&◌, ◌||◌}
use Prim.Native.Nat.{ℕ, ◌<◌, zero, suc}
use native.Mathlib.Omega.{arith}
use lib.Dec.{ltb, eqb, T}
use borrow.Author.Tests.{ltb-true, ltb-false, eqb-true, eqb-false}
use Rattle.answer.specs.Decides.{Decides}
use Rattle.resource.proofs.Test.{below}

-- ---- tests as facts
pub holds : (t : Bool) → t ≡ true → T t
holds true e = tt
holds false e = let z : ◌≡◌ {A = ℕ} 0 1 = cc in absurd (omega arith)

pub is_true : (t : Bool) → T t → t ≡ true
is_true true h = refl
is_true false h = absurd h

pub both : (s t : Bool) → T s → T t → T (s && t)
both true t h i = i
both false t h i = h

pub either : (s t : Bool) → T (s || t) → T s ⊎ T t
either true t h = inl tt
either false t h = inr h

pub is_false : (t : Bool) → (t ≡ true → ⊥) → t ≡ false
is_false true h = absurd (h refl)
is_false false h = refl

pub by_test : {X : Type 0} (t : Bool) → (t ≡ true → X) → (t ≡ false → X) → X
by_test true f g = f refl
by_test false f g = g refl

pub not_both : {X : Type 0} (t : Bool) → t ≡ true → t ≡ false → X
not_both true e f = let z : ◌≡◌ {A = ℕ} 0 1 = cc in absurd (omega arith)
not_both false e f = let z : ◌≡◌ {A = ℕ} 0 1 = cc in absurd (omega arith)

pub equal_or : (a b : ℕ) → (a ≡ b) ⊎ (a ≢ b)
equal_or a b = by_test (eqb a b) (λ e. inl (eqb-true a b e)) (λ e. inr (eqb-false a b e))

pub all_of : (f : ℕ → Bool) (n : ℕ) → ((k : ℕ) → k < n → T (f k)) → T (below f n)
all_of f zero h = tt
all_of f (suc n) h = both (f n) (below f n) (h n (omega arith)) (all_of f n (λ k l. h k (omega arith)))

-- ---- what a test's outcome says
abbrev pub Tested : Bool → Type 0 → Type 0
Tested true A = A
Tested false A = A → ⊥

pub decides : (t : Bool) (A : Type 0) → Tested t A → Decides t A
decides true A d = record { yes = λ e. d; no = λ e. let z : ◌≡◌ {A = ℕ} 0 1 = cc in absurd (omega arith) }
decides false A d = record { yes = λ e. let z : ◌≡◌ {A = ℕ} 0 1 = cc in absurd (omega arith); no = λ e. d }

pub decided : (t : Bool) (A : Type 0) → Tested t A → A → t ≡ true
decided true A d h = refl
decided false A d h = absurd (d h)

pub refuted : (t : Bool) (A : Type 0) → Tested t A → (A → ⊥) → t ≡ false
refuted true A d h = absurd (h d)
refuted false A d h = refl

-- one test decides two facts that follow from one another
pub move : (t : Bool) (A B : Type 0) → (A → B) → (B → A) → Tested t A → Tested t B
move true A B f g d = f d
move false A B f g d = λ b. d (g b)

-- ---- the tests of numbers
pub eqb_decides : (a b : ℕ) → Tested (eqb a b) (a ≡ b)
eqb_decides a b = go (eqb a b) refl
  where
    go : (t : Bool) → eqb a b ≡ t → Tested t (a ≡ b)
    go true e = eqb-true a b e
    go false e = eqb-false a b e

pub ltb_decides : (a b : ℕ) → Tested (ltb a b) (a < b)
ltb_decides a b = go (ltb a b) refl
  where
    go : (t : Bool) → ltb a b ≡ t → Tested t (a < b)
    go true e = ltb-true a b e
    go false e = λ h. omega (arith, ltb-false)

-- ---- or, and
pub or_tested : (s t : Bool) (A B : Type 0) → Tested s A → Tested t B → Tested (s || t) (A ⊎ B)
or_tested true t A B p q = inl p
or_tested false true A B p q = inr q
or_tested false false A B p q = ⊎_elim p q

pub and_tested : (s t : Bool) (A B : Type 0) → Tested s A → Tested t B → Tested (s && t) (A × B)
and_tested true true A B p q = (p, q)
and_tested true false A B p q = λ h. q h.1
and_tested false t A B p q = λ h. p h.0
