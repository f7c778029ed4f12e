-- A resource wider than a segment has a longer line and longer names than one position may add. What is too much at its lowest place is owed, and
-- paid at the next place, which is its own too and lists nothing.
use mathlib.Core.Path.{◌≡◌, refl}
use mathlib.Core.Logic.{◌⊎◌, inl, inr, ⊎_elim}
use mathlib.Core.Bool.{Bool, true, false, cond, ◌&&◌}
use Prim.Native.Nat.{ℕ, zero, suc, ◌+◌, ◌/◌, ◌%◌, ◌^◌, ◌≤◌, ◌<◌}
use native.Mathlib.Omega.{arith}
use lib.Dec.{T, ltb, eqb}
use borrow.Author.Tests.{ltb-true, lt-ltb, eqb-true, eq-eqb}
use Rattle.answer.specs.Least.{least}
use Rattle.resource.specs.Values.{divides}
use Rattle.resource.proofs.Test.{below_or, both_left, both_right, wherever, met, below, every_below}
use Rattle.kinds.specs.Kinds.{kinds, kind_at, span, mask, takes}
use Rattle.kinds.specs.Signals.{Signals, Place}
use Rattle.kinds.proofs.Tests.{holds, is_true}
use Rattle.kinds.proofs.Fitting.{known}
use Rattle.kinds.proofs.Table.{wide_span}
use Rattle.records.specs.Records.{lead}
use Rattle.records.proofs.Owners.{divided_itself}
use Rattle.compare_size.proofs.ResourceLengths.{spare}

-- ---- the place after the lowest
abbrev next_test : ℕ → Bool
next_test c = wherever (ltb 6 c) (ltb (lead c + 1) (span c) && takes c (lead c + 1))

nexts_tested : T (below next_test 36)
unfolding lead least span mask takes kind_at kinds
nexts_tested = tt

module _ (c : ℕ) (h : c < 36) (l : 7 ≤ c) where
  next_tested : T (ltb (lead c + 1) (span c) && takes c (lead c + 1))
  next_tested =
      met (ltb 6 c) _ (every_below next_test 36 nexts_tested c h) (holds (ltb 6 c) (lt-ltb 6 c (omega arith)))

  next_low : lead c + 1 < span c
  next_low = ltb-true _ _ (is_true _ (both_left (ltb (lead c + 1) (span c)) _ next_tested))

  next_place : (q : ℕ) → q % span c ≡ lead c → (suc q % span c ≡ lead c + 1) × Place c q (suc q)
  next_place q e =
      let m = one_more (span c) q (lead c) (wide_span c h l) e next_low in
      (m.0, (m.1, rw m.0 (is_true _ (both_right (ltb (lead c + 1) (span c)) _ next_tested))))
    where
      one_more : (s q j : ℕ) → (s ≡ 8) ⊎ (s ≡ 16) → q % s ≡ j → j + 1 < s → (suc q % s ≡ j + 1) × (suc q / s ≡ q / s)
      one_more s q j (inl f) e k = let e8 = rw f at e in rw f (omega arith, omega arith)
      one_more s q j (inr f) e k = let e16 = rw f at e in rw f (omega arith, omega arith)

-- ---- what the positions below p owe
module _ (o : ℕ → ℕ) where
  abbrev pub debt : ℕ → ℕ
  debt zero = 0
  debt (suc q) = cond (eqb (q % span (o q)) (lead (o q))) (spare (o q)) 0

  pub debt_most : (p : ℕ) → debt p ≤ 64
  debt_most zero = omega arith
  debt_most (suc q) = go (eqb (q % span (o q)) (lead (o q))) (ltb (o q) 7)
    where
      go : (s t : Bool) → cond s (cond t 0 64) 0 ≤ 64
      go true true = omega arith
      go true false = omega arith
      go false t = omega arith

  pub debt_after : (p : ℕ) → p % span (o p) ≡ lead (o p) → debt (suc p) ≡ spare (o p)
  debt_after p e = rw (eq-eqb (p % span (o p)) (lead (o p)) e)

-- p is the place after the lowest of a wider one
record Owing (b : ℕ) (o : ℕ → ℕ) (p : ℕ) : Type 0 where
  inside : p < 2 ^ b
  wide : 7 ≤ o p
  after : p % span (o p) ≡ lead (o p) + 1

module _ (b : ℕ) (o row : ℕ → ℕ) (g : Signals o row 0 (2 ^ b)) where
  owes : (p : ℕ) → p ≤ 2 ^ b → (debt o p ≡ 0) ⊎ Owing b o p
  owes zero l = inl refl
  owes (suc q) l = go (eqb (q % span (o q)) (lead (o q))) refl
    where
      wider : 7 ≤ o q → q % span (o q) ≡ lead (o q) → Owing b o (suc q)
      wider k e =
          let n = next_place (o q) (known (o q) q (row q) (g.fits q (omega arith) (omega arith))) k q e in
          let i = g.entire q (suc q) (omega arith) (omega arith) n.1 in
          record { inside = i.1; wide = rw i.2 k; after = rw i.2 n.0 }

      go : (t : Bool) → eqb (q % span (o q)) (lead (o q)) ≡ t → (cond t (spare (o q)) 0 ≡ 0) ⊎ Owing b o (suc q)
      go true e =
          ⊎_elim (λ (k : o q < 7). inl (rw (lt-ltb (o q) 7 k))) (λ (k : 7 ≤ o q). inr (wider k (eqb-true _ _ e))) (below_or (o q) 7)
      go false e = inl refl

  -- nobody owes past the last position, where a value divides its position, or where a resource is listed
  pub debt_end : debt o (2 ^ b) ≡ 0
  debt_end = ⊎_elim (λ e. e) (λ (w : Owing b o (2 ^ b)). absurd (omega (arith, w.inside))) (owes (2 ^ b) (omega arith))

  pub debt_divided : (p : ℕ) → p < 2 ^ b → divides (row p) ≡ true → debt o p ≡ 0
  debt_divided p l d =
      ⊎_elim (λ e. e) (λ (w : Owing b o p). absurd (omega (arith, w.wide, divided_itself (o p) p (row p) d (g.fits p (omega arith) l))))
      (owes p (omega arith))

  pub debt_lead : (p : ℕ) → p < 2 ^ b → p % span (o p) ≡ lead (o p) → debt o p ≡ 0
  debt_lead p l e = ⊎_elim (λ f. f) (λ (w : Owing b o p). absurd (omega (arith, w.after))) (owes p (omega arith))
