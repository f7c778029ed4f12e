-- The resources of a plan that are the same as one whose lowest position is p are among those whose lowest position is p.
use mathlib.Core.Path.{◌≡◌, refl, sym, ap, ap₂, ◌∙◌}
use mathlib.Core.Logic.{◌≢◌, ◌⊎◌, inl, inr, ⊎_elim}
use mathlib.Core.Bool.{Bool, true, false, ◌||◌}
use mathlib.Core.List.{List, [], ◌∷◌, ◌++◌}
use Prim.Native.Nat.{ℕ, zero, suc, ◌+◌, ◌*◌, ◌%◌, ◌≤◌, ◌<◌}
use native.Mathlib.Omega.{arith}
use native.Mathlib.Nat.{eq-or-lt_of_le, le_of_suc-le-suc}
use lib.ListN.{length, get_or}
use Rattle.resource.specs.Values.{own_pieces}
use Rattle.resource.specs.Engine.{piece_at}
use Rattle.resource.proofs.Pieces.{own_piece}
use Rattle.kinds.specs.Kinds.{span}
use Rattle.kinds.proofs.Table.{powers}
use Rattle.kinds.proofs.Tests.{equal_or}
use Rattle.records.specs.declared.Record.{Record}
use Rattle.records.specs.Records.{list_at, records_from, blank}
use Rattle.records.proofs.Listing.{record_at, list_at_lem, own_length, own_record, larger_record_lem, once_lead}
use Rattle.compared.specs.Reading.{same_resource, has_same}
use Rattle.compared.proofs.Same.{same_says}
use Rattle.only_in.proofs.Sets.{Own}
use Rattle.only_in.proofs.Larger.{place_in, piece_place, larger_place}

-- ---- the lowest position of a resource
abbrev pub home : Record → ℕ
home z = 4 * z.segment + place_in z.resource

pub own_here : (v k : ℕ) → k < length (own_pieces v) → Own (piece_at v k)
own_here v k l = let w = own_piece v k l in record { there = w.0; single = omega (arith, w.1) }

within_segment : (p s : ℕ) → (s ≡ 1) ⊎ ((s ≡ 2) ⊎ ((s ≡ 4) ⊎ ((s ≡ 8) ⊎ (s ≡ 16)))) → p % 4 % s ≡ p % s % 4
within_segment p s (inl e) = rw e (omega arith)
within_segment p s (inr (inl e)) = rw e (omega arith)
within_segment p s (inr (inr (inl e))) = rw e (omega arith)
within_segment p s (inr (inr (inr (inl e)))) = rw e (omega arith)
within_segment p s (inr (inr (inr (inr e)))) = rw e (omega arith)

module _ (c : ℕ) (row : ℕ → ℕ) (p k : ℕ) (h : c < 36) (l : k < length (list_at c row p)) where
  own_home : c ≡ 0 → home (record_at c row p k) ≡ p
  own_home e =
      let f = piece_place (p % 4) (piece_at (row p) k) (omega arith) (own_here (row p) k (omega (arith, own_length c row p e))) in
      rw (own_record c row p k e, f) (omega arith)

  larger_home : c ≢ 0 → home (record_at c row p k) ≡ p
  larger_home n =
      let f = larger_place c (p % 4) h n (omega arith) (within_segment p (span c) (powers c h) ∙ ap (λ (x : ℕ). x % 4) (once_lead c row p k l)) in
      rw (larger_record_lem c row p k n, f) (omega arith)

  pub listed_home : home (get_or (list_at c row p) k blank) ≡ p
  listed_home = ap home (list_at_lem c row p k l) ∙ ⊎_elim own_home larger_home (equal_or c 0)

-- ---- whether a list has the same resource
pub has_append : (z : Record) (xs ys : List Record) → has_same z (xs ++ ys) ≡ has_same z xs || has_same z ys
unfolding has_same
has_append z [] ys = refl
has_append z (x ∷ xs) ys = go (same_resource z x) (has_append z xs ys)
  where
    go : (t : Bool) → has_same z (xs ++ ys) ≡ has_same z xs || has_same z ys → t || has_same z (xs ++ ys) ≡ (t || has_same z xs) || has_same z ys
    go true e = refl
    go false e = e

pub has_none : (z : Record) (ws : List Record) → ((k : ℕ) → k < length ws → same_resource z (get_or ws k blank) ≡ true → ⊥) → has_same z ws ≡ false
unfolding has_same
has_none z [] h = refl
has_none z (w ∷ ws) h = go (same_resource z w) refl (has_none z ws (λ k l. h (suc k) (omega arith)))
  where
    go : (t : Bool) → same_resource z w ≡ t → has_same z ws ≡ false → t || has_same z ws ≡ false
    go true e f = absurd (h 0 (omega arith) e)
    go false e f = f

-- ---- in a plan o
module _ (o row : ℕ → ℕ) (known : (q : ℕ) → o q < 36) (z : Record) where
  elsewhere : (q : ℕ) → q ≢ home z → has_same z (list_at (o q) row q) ≡ false
  elsewhere q n =
      has_none z (list_at (o q) row q)
      (λ k l e.
      let w = same_says z (get_or (list_at (o q) row q) k blank) e in
      let f : home z ≡ home (get_or (list_at (o q) row q) k blank) = rw (w.0, w.1) in
      n (sym (listed_home (o q) row q k (known q) l) ∙ sym f))

  lower : (n : ℕ) → n ≤ home z → has_same z (records_from o row n) ≡ false
  unfolding has_same
  lower zero l = refl
  lower (suc n) l =
      has_append z (records_from o row n) (list_at (o n) row n) ∙ ap₂ ◌||◌ (lower n (omega arith)) (elsewhere n (λ e. omega arith))

  pub has_here : (n : ℕ) → home z < n → has_same z (records_from o row n) ≡ has_same z (list_at (o (home z)) row (home z))
  has_here zero l = absurd (omega arith)
  has_here (suc n) l =
      has_append z (records_from o row n) (list_at (o n) row n)
      ∙ ⊎_elim
      (λ (e : home z ≡ n). rw (← e) (ap (λ (t : Bool). t || has_same z (list_at (o (home z)) row (home z))) (lower (home z) (omega arith))))
      (λ (m : home z < n). ap₂ ◌||◌ (has_here n m) (elsewhere n (λ e. omega arith)) ∙ or_false _)
      (eq-or-lt_of_le (le_of_suc-le-suc l))
    where
      or_false : (t : Bool) → t || false ≡ t
      or_false true = refl
      or_false false = refl
