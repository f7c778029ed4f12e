-- Counting the numbers below n that are such (`Counts`).
use mathlib.Core.Path.{◌≡◌, refl, sym, ap, subst}
use mathlib.Core.Logic.{⊎_elim}
use Prim.Native.Nat.{ℕ, suc, ◌≤◌, ◌<◌}
use native.Mathlib.Nat.{eq-or-lt_of_le, le_of_suc-le-suc}
use native.Mathlib.Omega.{arith}
use Rattle.resource.proofs.Test.{below_or}
use Rattle.records.specs.Owns.{Counts, none, one_more, no_more}

module _ (P : ℕ → Type 0) where
  -- they have one number
  pub counts_once : (n m m' : ℕ) → Counts P n m → Counts P n m' → m ≡ m'
  counts_once n m m' none none = refl
  counts_once n m m' (one_more p a) (one_more q b) = ap suc (counts_once _ _ _ a b)
  counts_once n m m' (one_more p a) (no_more q b) = absurd (q p)
  counts_once n m m' (no_more p a) (one_more q b) = absurd (p q)
  counts_once n m m' (no_more p a) (no_more q b) = counts_once _ _ _ a b

  -- below a smaller number there are no more, and fewer where that number is such
  pub counts_below : (e k j : ℕ) → j < e → Counts P e k → (t : ℕ) × Counts P j t × (t ≤ k) × (P j → t < k)
  counts_below e k j h none = absurd (omega arith)
  counts_below e k j h (one_more {n} {m} p c) =
      ⊎_elim
      (λ (f : j ≡ n). (m, subst (λ (x : ℕ). Counts P x m) (sym f) c, omega arith, λ q. omega arith))
      (λ (g : j < n). let w = counts_below n m j g c in (w.0, w.1, omega (arith, w.2), λ q. omega (arith, w.2)))
      (eq-or-lt_of_le (le_of_suc-le-suc h))
  counts_below e k j h (no_more {n} {m} p c) =
      ⊎_elim
      (λ (f : j ≡ n). (m, subst (λ (x : ℕ). Counts P x m) (sym f) c, omega arith, λ q. absurd (p (subst P f q))))
      (λ (g : j < n). counts_below n m j g c)
      (eq-or-lt_of_le (le_of_suc-le-suc h))

  -- each number below theirs is that of one of them
  pub counts_each : (e k t : ℕ) → t < k → Counts P e k → (j : ℕ) × (j < e) × P j × Counts P j t
  counts_each e k t h none = absurd (omega arith)
  counts_each e k t h (one_more {n} {m} p c) =
      ⊎_elim
      (λ (f : t ≡ m). (n, omega arith, p, subst (Counts P n) (sym f) c))
      (λ (g : t < m). let w = counts_each n m t g c in (w.0, omega (arith, w.1), w.2, w.3))
      (eq-or-lt_of_le (le_of_suc-le-suc h))
  counts_each e k t h (no_more {n} {m} p c) = let w = counts_each n m t h c in (w.0, omega (arith, w.1), w.2, w.3)

  -- of two that are such the later has more before it
  pub counts_rise : (j j' t t' : ℕ) → P j → j < j' → Counts P j t → Counts P j' t' → t < t'
  counts_rise j j' t t' p h a b =
      let w = counts_below j' t' j h b in
      let e = counts_once j t w.0 a w.1 in
      omega (arith, w.3 p)

  pub counts_before : (j j' t t' : ℕ) → P j → P j' → t < t' → Counts P j t → Counts P j' t' → j < j'
  counts_before j j' t t' p q h a b =
      ⊎_elim
      (λ g. g)
      (λ (g : j' ≤ j). ⊎_elim
      (λ (e : j' ≡ j). absurd (omega (arith, counts_once j t t' a (subst (λ (x : ℕ). Counts P x t') e b))))
      (λ (f : j' < j). absurd (omega (arith, counts_rise j' j t' t q f b a)))
      (eq-or-lt_of_le g))
      (below_or j j')

  pub counts_same : (j j' t : ℕ) → P j → P j' → Counts P j t → Counts P j' t → j ≡ j'
  counts_same j j' t p q a b =
      ⊎_elim
      (λ (g : j < j'). absurd (omega (arith, counts_rise j j' t t p g a b)))
      (λ (g : j' ≤ j). ⊎_elim
      (λ (e : j' ≡ j). sym e)
      (λ (f : j' < j). absurd (omega (arith, counts_rise j' j t t q f b a)))
      (eq-or-lt_of_le g))
      (below_or j j')
