-- Lists in which each stands to each later one as a relation says.
use mathlib.Core.Path.{refl}
use mathlib.Core.Bool.{Bool, true, false, cond}
use mathlib.Core.List.{List, [], ◌∷◌, ◌++◌, map, Memᴰ}
use Prim.Native.Nat.{ℕ, zero, suc, ◌<◌}
use native.Mathlib.Omega.{arith}
use lib.ListN.{length, get_or}
use Rattle.compared.specs.Differences.{keep}
use Rattle.compared.proofs.Keep.{Each, each_append, each_cons, each_nil, each_map, kept_each}

abbrev pub Pairwise : {A : Type 0} → (A → A → Type 0) → List A → Type 0
Pairwise R [] = Unit {0}
Pairwise R (d ∷ ds) = Each (R d) ds × Pairwise R ds

-- each of ds to each of es
abbrev pub Across : {A : Type 0} → (A → A → Type 0) → List A → List A → Type 0
Across R ds es = Each (λ d. Each (R d) es) ds

member : {A : Type 0} (xs : List A) (i : ℕ) (d : A) → i < length xs → Memᴰ (get_or xs i d) xs
member [] i d l = absurd (omega arith)
member (x ∷ xs) zero d l = Memᴰ.head refl
member (x ∷ xs) (suc i) d l = Memᴰ.tail (member xs i d (omega arith))

each_at : {A : Type 0} (P : A → Type 0) (d : A) (xs : List A) → ((k : ℕ) → k < length xs → P (get_or xs k d)) → Each P xs
each_at P d [] p = each_nil P
each_at P d (x ∷ xs) p = each_cons P x xs (p 0 (omega arith)) (each_at P d xs (λ k l. p (suc k) (omega arith)))

module _ {A : Type 0} (R : A → A → Type 0) where
  pub pairwise_keep : (t : A → Bool) (ds : List A) → Pairwise R ds → Pairwise R (keep t ds)
  unfolding keep
  pairwise_keep t [] p = tt
  pairwise_keep t (d ∷ ds) p = go (t d) (pairwise_keep t ds p.1)
    where
      go : (b : Bool) → Pairwise R (keep t ds) → Pairwise R (cond b (d ∷ keep t ds) (keep t ds))
      go true q = (λ e m. p.0 e (kept_each t ds e m).0, q)
      go false q = q

  pub pairwise_append : (ds es : List A) → Pairwise R ds → Pairwise R es → Across R ds es → Pairwise R (ds ++ es)
  pairwise_append [] es p q c = q
  pairwise_append (d ∷ ds) es p q c = (
    each_append (R d) ds es p.0 (c d (Memᴰ.head refl)),
    pairwise_append ds es p.1 q (λ f m. c f (Memᴰ.tail m)),
  )

  pub pairwise_at : (ds : List A) → Pairwise R ds → (i j : ℕ) (d : A) → i < j → j < length ds → R (get_or ds i d) (get_or ds j d)
  pairwise_at [] p i j d l m = absurd (omega arith)
  pairwise_at (x ∷ ds) p i zero d l m = absurd (omega arith)
  pairwise_at (x ∷ ds) p zero (suc j) d l m = p.0 (get_or ds j d) (member ds j d (omega arith))
  pairwise_at (x ∷ ds) p (suc i) (suc j) d l m = pairwise_at ds p.1 i j d (omega arith) (omega arith)

  -- of the images of a list, by their places in it
  pub pairwise_map : {B : Type 0} (f : B → A) (z : B) (rs : List B)
      → ((i j : ℕ) → i < j → j < length rs → R (f (get_or rs i z)) (f (get_or rs j z))) → Pairwise R (map f rs)
  pairwise_map f z [] h = tt
  pairwise_map f z (r ∷ rs) h = (
    each_map (R (f r)) f rs (each_at (λ w. R (f r) (f w)) z rs (λ k l. h 0 (suc k) (omega arith) (omega arith))),
    pairwise_map f z rs (λ i j l m. h (suc i) (suc j) (omega arith) (omega arith)),
  )
