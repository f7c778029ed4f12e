-- Where the owner of a field is listed, in every plan that signals the row.
use mathlib.Core.Path.{◌≡◌, refl, ◌∙◌, ap}
use mathlib.Core.Logic.{⊎_elim}
use mathlib.Core.Bool.{Bool, true, false, cond}
use Prim.Native.Nat.{ℕ, ◌/◌, ◌≤◌, ◌<◌}
use native.Mathlib.Omega.{arith}
use lib.ListN.{length}
use Rattle.kinds.specs.Kinds.{family}
use Rattle.kinds.specs.Signals.{Fits, Signals}
use Rattle.kinds.proofs.Tests.{equal_or}
use Rattle.kinds.proofs.Table.{plain_family}
use Rattle.kinds.proofs.Fitting.{known, high_own}
use Rattle.resource.specs.Values.{fields_of, divides}
use Rattle.resource.proofs.Test.{below_or}
use Rattle.resource.proofs.Starts.{own_whole}
use Rattle.records.specs.Records.{list_at, records_from}
use Rattle.records.specs.Owns.{ComesFrom, number}
use Rattle.records.specs.Engine.{lowest, owner_at, owner_of}
use Rattle.records.proofs.Lead.{lowest_place, itself_lowest}
use Rattle.records.proofs.Listing.{Located, records_rise, own_length, larger_one}
use Rattle.records.proofs.Owners.{search_comes, divided_itself}
use Rattle.records.proofs.Gives.{whole_low, divided_own}

-- The owner of the k-th field of position p is listed there as the k-th, if the position's value divides it (t), or else at the lowest position of
-- its resource.
abbrev pub home : (ℕ → ℕ) → ℕ → Bool → ℕ
home o p t = cond t p (lowest (o p) p)

abbrev pub nth : ℕ → Bool → ℕ
nth k t = cond t k 0

-- what is listed at a position is one of the plan's resources
pub located_below : (o row : ℕ → ℕ) (n i p m : ℕ) → Located o row n i p m → i < length (records_from o row n)
located_below o row n i p m w = omega (arith, w.place, w.numbered, records_rise o row p n w.inside)

module _ (o row : ℕ → ℕ) (n : ℕ) (s : Signals o row 0 n) where
  pub fit : (p : ℕ) → p < n → Fits (o p) p (row p)
  fit p h = s.fits p (omega arith) h

  pub kind : (p : ℕ) → p < n → o p < 36
  kind p h = known (o p) p (row p) (fit p h)

  -- where a field's owner is listed
  pub home_piece : (p k : ℕ) → p < n → k < fields_of (row p) → divides (row p) ≡ true → Located o row n (number o row p k) p k
  home_piece p k h l e =
      let f = divided_itself (o p) p (row p) e (fit p h) in
      record { inside = h; place = omega (arith, own_length (o p) row p f, divided_own (row p) e); numbered = refl }

  pub home_entire : (p : ℕ) → p < n → (lowest (o p) p < n) × (o (lowest (o p) p) ≡ o p)
  home_entire p h =
      let w = s.entire p (lowest (o p) p) (omega arith) h (lowest_place (o p) p (kind p h)).0 in
      (w.1, w.2)

  pub home_whole : (p : ℕ) → p < n → 0 < fields_of (row p) → divides (row p) ≡ false → Located o row n (number o row (lowest (o p) p) 0) (lowest (o p) p) 0
  home_whole p h l e =
      let w = home_entire p h in
      record { inside = w.0; place = rw w.1 some; numbered = refl }
    where
      large : 64 ≤ row p
      large = ⊎_elim (λ (k : row p < 64). absurd (omega (arith, whole_low (row p) e k))) (λ k. k) (below_or (row p) 64)

      alone : o p ≡ 0 → 0 < length (list_at (o p) row (lowest (o p) p))
      alone g =
          let f : row p / 8 ≡ 8 = (high_own (o p) p (row p) (fit p h) large).1 ∙ ap family g ∙ plain_family 0 (omega arith) in
          let z : lowest (o p) p ≡ p = ap (λ (x : ℕ). lowest x p) g ∙ itself_lowest p in
          rw z (omega (arith, own_length (o p) row p g, own_whole (row p) large (omega arith)))

      some : 0 < length (list_at (o p) row (lowest (o p) p))
      some =
          ⊎_elim alone
          (λ y. omega (arith, larger_one (o p) row (lowest (o p) p) y (lowest_place (o p) p (kind p h)).1))
          (equal_or (o p) 0)

  pub owner_home : (c j p k : ℕ) → ComesFrom row n c j p k → Located o row n (owner_of o row c n j) (home o p (divides (row p))) (nth k (divides (row p)))
  unfolding owner_at
  owner_home c j p k w = go (divides (row p)) refl (search_comes o row n c j p k w)
    where
      go : (t : Bool) → divides (row p) ≡ t → owner_of o row c n j ≡ cond t (number o row p k) (number o row (lowest (o p) p) 0)
          → Located o row n (owner_of o row c n j) (home o p t) (nth k t)
      go true e f = rw f (home_piece p k w.inside w.kth e)
      go false e f = rw f (home_whole p w.inside (omega (arith, w.kth)) e)
