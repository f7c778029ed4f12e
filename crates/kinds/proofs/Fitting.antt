-- What a value that fits a kind is like: the kind is one of the table's, and the value tells which.
use mathlib.Core.Path.{◌≡◌, refl, sym, ◌∙◌}
use mathlib.Core.Logic.{◌⊎◌, inl, inr, ⊎_elim}
use mathlib.Core.Bool.{Bool, true, false, cond, not, ◌&&◌, ◌||◌}
use Prim.Native.Nat.{ℕ, ◌+◌, ◌/◌, ◌%◌, ◌≤◌, ◌<◌}
use native.Mathlib.Omega.{arith}
use lib.Dec.{leb, eqb}
use borrow.Author.Tests.{leb-true, eqb-true}
use Rattle.resource.specs.Values.{smaller_at}
use Rattle.kinds.specs.Kinds.{family, span, takes, takes_block, blank_at}
use Rattle.kinds.specs.Signals.{Fits, own, blank, smaller}
use Rattle.kinds.proofs.Tests.{not_both}
use Rattle.kinds.proofs.Places.{place_mod}
use Rattle.kinds.proofs.Table.{takes_known, family_high, one_kind, plain_family, full, plain_blank}

-- a kind that a value fits is one of the table's
pub known : (c p v : ℕ) → Fits c p v → c < 36
known c p v (own t e) = takes_known c _ t
known c p v (blank t e) = takes_known c _ t
known c p v (smaller h) = omega arith

-- v holds smaller pieces or none, in ranges
pub smaller_view : (j v : ℕ) → smaller_at j v ≡ true → (v ≤ 27) ⊎ ((v ≡ 48) ⊎ (v ≡ 50))
unfolding smaller_at
smaller_view j v e = go (leb v 27) (eqb v 48) (eqb v 50) refl refl refl e
  where
    go : (a b d : Bool) → leb v 27 ≡ a → eqb v 48 ≡ b → eqb v 50 ≡ d → (a || b && not (eqb j 3) || d && not (eqb j 2)) ≡ true → (v ≤ 27) ⊎ ((v ≡ 48) ⊎ (v ≡ 50))
    go true b d f g i e = inl (leb-true v 27 f)
    go false true d f g i e = inr (inl (eqb-true v 48 g))
    go false false true f g i e = inr (inr (eqb-true v 50 i))
    go false false false f g i e = not_both false e refl

pub blank_most : (c j : ℕ) → blank_at c j ≤ 30
unfolding blank_at
blank_most c j = go (takes_block c 4 j) (takes_block c 2 j)
  where
    go : (s t : Bool) → cond s 30 (cond t 29 28) ≤ 30
    go true t = omega arith
    go false true = omega arith
    go false false = omega arith

pub blank_least : (c j : ℕ) → 28 ≤ blank_at c j
unfolding blank_at
blank_least c j = go (takes_block c 4 j) (takes_block c 2 j)
  where
    go : (s t : Bool) → 28 ≤ cond s 30 (cond t 29 28)
    go true t = omega arith
    go false true = omega arith
    go false false = omega arith

-- a value from 64 on is of the family of the kind that it fits, at a place of it
pub high_own : (c p v : ℕ) → Fits c p v → 64 ≤ v → (takes c (p % span c) ≡ true) × (v / 8 ≡ family c)
high_own c p v (own t e) l = (t, e)
high_own c p v (blank t e) l = absurd (omega (arith, blank_most c (p % span c)))
high_own c p v (smaller e) l = absurd (⊎_elim (λ h. omega arith) (⊎_elim (λ h. omega arith) (λ h. omega arith)) (smaller_view (p % 4) v e.1))

pub fits_takes : (c p v : ℕ) → Fits c p v → takes c (p % span c) ≡ true
fits_takes c p v (own t e) = t
fits_takes c p v (blank t e) = t
fits_takes c p v (smaller e) = rw e.0 (full 0 (omega arith) (p % span 0) (place_mod 0 p (omega arith)))

-- a value that names one of 01's joined ones fits it alone
pub names_fits : (c d p v : ℕ) → c < 7 → 3 ≤ c → v / 8 ≡ family c → Fits d p v → d ≡ c
names_fits c d p v h l e f =
    let m = family_high c (omega arith) l in
    let w = high_own d p v f (omega arith) in
    one_kind d c (known d p v f) h (sym w.1 ∙ e)

-- one of the first three is told by its value
abbrev pub Leaf : ℕ → ℕ → Type 0
Leaf c v = ((v ≡ 28 + c) ⊎ (v / 8 ≡ 8 + c)) ⊎ ((c ≡ 0) × ((v ≤ 27) ⊎ ((v ≡ 48) ⊎ (v ≡ 50))))

pub leaf : (c p v : ℕ) → c < 3 → Fits c p v → Leaf c v
leaf c p v h (own t e) = inl (inr (e ∙ plain_family c h))
leaf c p v h (blank t e) = inl (inl (e ∙ plain_blank c h (p % span c) (place_mod c p (omega arith))))
leaf c p v h (smaller e) = inr (e.0, smaller_view (p % 4) v e.1)
