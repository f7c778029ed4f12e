-- Every place of a resource lies below n exactly where the test of the mask says so.
use mathlib.Core.Path.{◌≡◌, refl, sym, ◌∙◌}
use mathlib.Core.Logic.{⊎_elim}
use mathlib.Core.Bool.{Bool, true, false, cond}
use Prim.Native.Nat.{ℕ, ◌+◌, ◌-◌, ◌*◌, ◌/◌, ◌%◌, ◌^◌, ◌≤◌, ◌<◌}
use native.Mathlib.Omega.{arith}
use lib.Dec.{T, ltb, eqb}
use lib.Pow.{pow_mono}
use borrow.Author.Tests.{ltb-true, lt-ltb}
use Rattle.resource.proofs.Test.{below_or, wherever, met, below, every_below}
use Rattle.kinds.specs.Kinds.{kinds, kind_at, span, mask, takes}
use Rattle.kinds.specs.Signals.{Place}
use Rattle.kinds.proofs.Tests.{holds, is_true, all_of}
use Rattle.kinds.proofs.Table.{span_some, place_inside}
use Rattle.kinds.proofs.Places.{at_span, at_place, place_low, place_at}
use Rattle.segments.specs.Engine.{within}

-- the mask is below the d-th power of 2 where no place from d on is the kind's
abbrev lower : ℕ → ℕ → ℕ → Bool
lower c d j = wherever (takes c j) (ltb j d)

abbrev within_test : ℕ → ℕ → Bool
within_test c d = eqb (cond (ltb (mask c) (2 ^ d)) 1 0) (cond (below (lower c d) 16) 1 0)

withins_tested : T (below (λ c. below (within_test c) 17) 36)
unfolding mask takes kind_at kinds
withins_tested = tt

module _ (c p n : ℕ) (h : c < 36) (l : p < n) where
  abbrev start : ℕ
  start = span c * (p / span c)

  same_tests : (d : ℕ) → d < 17 → ltb (mask c) (2 ^ d) ≡ below (lower c d) 16
  same_tests d m =
      go (ltb (mask c) (2 ^ d)) (below (lower c d) 16)
      (every_below (within_test c) 17 (every_below (λ c. below (within_test c) 17) 36 withins_tested c h) d m)
    where
      go : (s t : Bool) → T (eqb (cond s 1 0) (cond t 1 0)) → s ≡ t
      go true true e = refl
      go true false e = absurd e
      go false true e = absurd e
      go false false e = refl

  lowered : (d : ℕ) → d < 17 → ((j : ℕ) → j < 16 → takes c j ≡ true → j < d) → mask c < 2 ^ d
  lowered d m f = ltb-true _ _ (same_tests d m ∙ is_true _ (all_of (lower c d) 16 (λ j k. go j k (takes c j) refl)))
    where
      go : (j : ℕ) → j < 16 → (t : Bool) → takes c j ≡ t → T (wherever t (ltb j d))
      go j k true e = holds _ (lt-ltb j d (f j k e))
      go j k false e = tt

  pub within_yes : within c p n ≡ true → (q : ℕ) → Place c p q → q < n
  unfolding within
  within_yes e q w = ⊎_elim small (λ (k : 17 ≤ n - start). omega (arith, place_at c p q w, m)) (below_or (n - start) 17)
    where
      m : q % span c < 16
      m = place_low c q h

      small : n - start < 17 → q < n
      small k =
          let t : T (below (lower c (n - start)) 16) = holds _ (sym (same_tests (n - start) k) ∙ e) in
          let u = met (takes c (q % span c)) _ (every_below (lower c (n - start)) 16 t (q % span c) m) (holds _ w.1) in
          let z : q % span c < n - start = ltb-true _ _ (is_true _ u) in
          omega (arith, place_at c p q w)

  pub yes_within : ((q : ℕ) → Place c p q → q < n) → within c p n ≡ true
  unfolding within
  yes_within f = ⊎_elim small large (below_or (n - start) 17)
    where
      there : (j : ℕ) → j < 16 → takes c j ≡ true → j < n - start
      there j m t =
          let k = place_inside c h j m t in
          let z = f (start + j) (at_span (span c) (span_some c h) p j k, rw (at_place (span c) (span_some c h) p j k) t) in
          omega arith

      small : n - start < 17 → ltb (mask c) (2 ^ (n - start)) ≡ true
      small k = lt-ltb _ _ (lowered (n - start) k there)

      large : 17 ≤ n - start → ltb (mask c) (2 ^ (n - start)) ≡ true
      large k =
          let u : 2 ^ 16 ≤ 2 ^ (n - start) = pow_mono {i = 16} {j = n - start} (omega arith) in
          let m : mask c < 2 ^ 16 = lowered 16 (omega arith) (λ j k e. k) in
          lt-ltb (mask c) (2 ^ (n - start)) (omega arith)
