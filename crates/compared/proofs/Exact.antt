-- The differences of any two readings are exact (02, T-06): `specs/Exact.antt`, `Exact`.
use mathlib.Core.Path.{◌≡◌, refl, sym, ◌∙◌, ap}
use mathlib.Core.Bool.{Bool, true, false, cond, not, false≢true, true≢false}
use mathlib.Core.List.{List, [], ◌∷◌, Memᴰ}
use Prim.Native.Nat.{ℕ}
use native.Mathlib.Decide.{ℕ_discrete}
use lib.Dec.{eqb}
use borrow.Author.Tests.{eq-eqb, ne_eqb, not-true}
use Rattle.compared.specs.Reading.{Item, bandwidth_is, Reading, tells}
use Rattle.compared.specs.Differences.{by, other_than, differs, keep, all_said, differences}
use Rattle.compared.specs.Exact.{Picked, no_more, kept, left_out, whose, OnlyOne, Alike, Exact}
use Rattle.compared.proofs.Keep.{Each, each_cons, each_nil, kept_each, passing_kept}
use Rattle.compared.proofs.Said.{said_each, said_1, said_2, lists_tells, tells_lists, alike_tells}
use Rattle.compared.proofs.Exchanged.{exchanged_1, exchanged_2}

-- what passes a test that tells whether it is such is picked
picked : {A : Type 0} (P : A → Type 0) (t : A → Bool) (xs : List A) → Each (λ d. (t d ≡ true → P d) × (t d ≡ false → P d → ⊥)) xs
    → Picked P xs (keep t xs)
unfolding keep
picked P t [] h = no_more
picked P t (x ∷ xs) h = go (t x) refl (picked P t xs (λ d m. h d (Memᴰ.tail m)))
  where
    go : (b : Bool) → t x ≡ b → Picked P xs (keep t xs) → Picked P (x ∷ xs) (cond b (x ∷ keep t xs) (keep t xs))
    go true e below = kept ((h x (Memᴰ.head refl)).0 e) below
    go false e below = left_out ((h x (Memᴰ.head refl)).1 e) below

module _ (x y : Reading) where
  -- all that is said is true of the frame that says it
  said_true : Each (λ d. tells (whose d.frame x y) d.what ≡ true) (all_said x y)
  said_true = said_each x y (λ d. tells (whose d.frame x y) d.what ≡ true) (λ i l. lists_tells x i l) (λ i l. lists_tells y i l)

  -- of one bandwidth the differences are what is said and differs
  module _ (e : x.bandwidth ≡ y.bandwidth) where
    pub one_bandwidth : differences x y ≡ keep (differs x y) (all_said x y)
    unfolding differences
    one_bandwidth = rw (eq-eqb x.bandwidth y.bandwidth e)

    said_and_differs : Each (OnlyOne x y) (keep (differs x y) (all_said x y))
    unfolding differs
    said_and_differs d m =
        let p = kept_each (differs x y) (all_said x y) d m in
        (said_true d p.0, not-true (tells (other_than d.frame x y) d.what) p.1)

    in_order : Picked (OnlyOne x y) (all_said x y) (differences x y)
    unfolding differs
    in_order =
        rw one_bandwidth
        (picked (OnlyOne x y) (differs x y) (all_said x y) (λ d m. (
          λ f. (said_true d m, not-true (tells (other_than d.frame x y) d.what) f),
          λ f p. true≢false (ap not (sym p.1) ∙ f),
        )))

    -- no bandwidth is said by one alone
    not_bandwidth_1 : (i : Item) → tells x i ≡ true → tells y i ≡ false → (b : ℕ) → i ≡ bandwidth_is b → ⊥
    unfolding tells
    not_bandwidth_1 i p q b f =
        let u : eqb x.bandwidth b ≡ true = ap (tells x) (sym f) ∙ p in
        let v : eqb y.bandwidth b ≡ false = ap (tells y) (sym f) ∙ q in
        false≢true (sym v ∙ ap (λ (w : ℕ). eqb w b) (sym e) ∙ u)

    not_bandwidth_2 : (i : Item) → tells y i ≡ true → tells x i ≡ false → (b : ℕ) → i ≡ bandwidth_is b → ⊥
    unfolding tells
    not_bandwidth_2 i p q b f =
        let u : eqb y.bandwidth b ≡ true = ap (tells y) (sym f) ∙ p in
        let v : eqb x.bandwidth b ≡ false = ap (tells x) (sym f) ∙ q in
        false≢true (sym v ∙ ap (λ (w : ℕ). eqb w b) e ∙ u)

    has_line_1 : (i : Item) → tells x i ≡ true → tells y i ≡ false → (j : Item) × Alike i j × Memᴰ (by 1 j) (differences x y)
    unfolding differs
    has_line_1 i p q =
        let w = tells_lists x i (not_bandwidth_1 i p q) p in
        let f : tells y w.0 ≡ false = sym (alike_tells y i w.0 w.1) ∙ q in
        (w.0, w.1, rw one_bandwidth (passing_kept (differs x y) (by 1 w.0) (all_said x y) (said_1 x y w.0 w.2) (ap not f)))

    has_line_2 : (i : Item) → tells y i ≡ true → tells x i ≡ false → (j : Item) × Alike i j × Memᴰ (by 2 j) (differences x y)
    unfolding differs
    has_line_2 i p q =
        let w = tells_lists y i (not_bandwidth_2 i p q) p in
        let f : tells x w.0 ≡ false = sym (alike_tells x i w.0 w.1) ∙ q in
        (w.0, w.1, rw one_bandwidth (passing_kept (differs x y) (by 2 w.0) (all_said x y) (said_2 x y w.0 w.2) (ap not f)))

  -- a differing bandwidth
  bandwidths_differ : (x.bandwidth ≡ y.bandwidth → ⊥) → Each (OnlyOne x y) (by 1 (bandwidth_is x.bandwidth) ∷ by 2 (bandwidth_is y.bandwidth) ∷ [])
  unfolding tells
  bandwidths_differ n =
      each_cons (OnlyOne x y) (by 1 (bandwidth_is x.bandwidth)) _
      (eq-eqb x.bandwidth x.bandwidth refl, ne_eqb y.bandwidth x.bandwidth (λ e. n (sym e)))
      (each_cons (OnlyOne x y) (by 2 (bandwidth_is y.bandwidth)) []
      (eq-eqb y.bandwidth y.bandwidth refl, ne_eqb x.bandwidth y.bandwidth n)
      (each_nil (OnlyOne x y)))

  true_of_one : Each (OnlyOne x y) (differences x y)
  true_of_one = go (ℕ_discrete x.bandwidth y.bandwidth)
    where
      go : Dec (x.bandwidth ≡ y.bandwidth) → Each (OnlyOne x y) (differences x y)
      go (yes e) = rw (one_bandwidth e) (said_and_differs e)
      go (no n) = unfold differences in rw (ne_eqb x.bandwidth y.bandwidth n) (bandwidths_differ n)

  pub exact : Exact x y
  exact = record {
    true_of_one = true_of_one;
    in_order = in_order;
    has_line_1 = has_line_1;
    has_line_2 = has_line_2;
    exchanged_1 = exchanged_1 x y;
    exchanged_2 = exchanged_2 x y;
  }
