-- The fields that a loop has met, by their owners: how many each resource has so far, and which of them the next one is.
use mathlib.Core.Path.{◌≡◌, refl, sym, ◌∙◌, ap}
use mathlib.Core.Logic.{⊎_elim, ◌≢◌}
use mathlib.Core.List.{List}
use Prim.Native.Nat.{ℕ, ◌+◌, ◌≤◌, ◌<◌}
use native.Mathlib.Numerals.{add-one}
use native.Mathlib.Omega.{arith}
use borrow.Author.Tests.{eq-eqb, ne_eqb}
use lib.Dec.{eqb}
use lib.ListN.{length, replicate, set, length-set}
use lib.Seq.{get_or-set_same, get_or-set_other}
use Rattle.answer.specs.Lists.{at, build}
use Rattle.answer.proofs.Lists.{length_build, get_d_build, build_is}
use Rattle.answer.proofs.Tally.{tally_le}
use Rattle.kinds.proofs.Tests.{equal_or}
use Rattle.turns.specs.Engine.{having}

module _ (owner : ℕ → ℕ) where
  -- before any is met
  pub met_none : replicate 144 0 ≡ build (λ i. having owner i 0) 144
  unfolding build
  met_none = refl

  -- a resource has one more where it owns the next
  one_more : (i x : ℕ) → owner x ≡ i → having owner i x + 1 ≡ having owner i (x + 1)
  one_more i x e = rw (add-one x, eq-eqb (owner x) i e)

  no_more : (i x : ℕ) → i ≢ owner x → having owner i x ≡ having owner i (x + 1)
  no_more i x d = rw (add-one x, ne_eqb (owner x) i (λ e. d (sym e))) (omega arith)

  pub met_more : (x : ℕ) (t : ℕ) → owner x < 144 → t ≡ having owner (owner x) x
      → set (build (λ i. having owner i x) 144) (owner x) (t + 1) ≡ build (λ i. having owner i (x + 1)) 144
  met_more x t h e =
      let wide : length (build (λ i. having owner i x) 144) ≡ 144 = length_build (λ i. having owner i x) 144 in
      build_is (λ i. having owner i (x + 1)) 0 _ 144 (simp length-set wide)
      (λ i l. ⊎_elim
      (λ (f : i ≡ owner x).
      rw f (get_or-set_same (build (λ i. having owner i x) 144) (owner x) (t + 1) 0 (omega (arith, wide)) ∙ ap (λ (y : ℕ). y + 1) e ∙ one_more (owner x) x
      refl))
      (λ (f : i ≢ owner x).
      get_or-set_other (build (λ i. having owner i x) 144) (owner x) i (t + 1) 0 f ∙ get_d_build (λ i. having owner i x) 144 i 0 l ∙ no_more i x f)
      (equal_or i (owner x)))

  -- how many of x were met is no more than x
  pub met_few : (i x : ℕ) → having owner i x ≤ x
  met_few i x = tally_le (λ y. eqb (owner y) i) x

  -- the number that the next one's owner has is which of its fields it is
  pub met_is : (x : ℕ) (met : List ℕ) (i : ℕ) → met ≡ build (λ i. having owner i x) 144 → i ≡ owner x → owner x < 144 → at met i ≡ having owner (owner x) x
  met_is x met i e f h = rw (e, f) (get_d_build (λ i. having owner i x) 144 (owner x) 0 h)

  pub met_next : (x : ℕ) (met : List ℕ) (i t : ℕ) → met ≡ build (λ i. having owner i x) 144 → i ≡ owner x → owner x < 144 → t ≡ having owner (owner x) x
      → set met i (t + 1) ≡ build (λ i. having owner i (x + 1)) 144
  met_next x met i t e f h g = rw (e, f) (met_more x t h g)
