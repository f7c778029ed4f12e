-- Every resource that a plan of 20, 40 or 80 MHz holds is one of its bandwidth's, and so has a value.
use mathlib.Core.Path.{◌≡◌, refl, ap, subst}
use mathlib.Core.Logic.{⊎_elim}
use mathlib.Core.Bool.{Bool, true, false, not, ◌&&◌, ◌||◌}
use mathlib.Core.List.{List, [], ◌∷◌}
use Prim.Native.Nat.{ℕ, zero, suc, ◌%◌, ◌^◌, ◌≤◌, ◌<◌}
use native.Mathlib.Omega.{arith}
use native.Mathlib.Nat.{pow-le-pow_right}
use borrow.Author.Tests.{ne_eqb}
use lib.Dec.{T, ltb, leb, eqb, lt→ltb, le→leb}
use lib.ListN.{length, get_or}
use lib.Pow.{pow_pos}
use Rattle.resource.specs.declared.Piece.{Piece}
use Rattle.resource.specs.Values.{pieces, own_pieces, smaller_at}
use Rattle.resource.specs.Index.{index_of, position_of, place_of, from_positions, is_piece, exists, resource_at}
use Rattle.resource.specs.Engine.{no_piece, piece_at}
use Rattle.resource.proofs.Apart.{no_pieces}
use Rattle.resource.proofs.Pieces.{own_piece}
use Rattle.resource.proofs.Test.{below_or, both_left, both_right, wherever, met, below, every_below}
use Rattle.kinds.specs.Kinds.{kinds, kind_at, span, family}
use Rattle.kinds.specs.Signals.{Signals, Fits, own, blank, smaller}
use Rattle.kinds.proofs.Tests.{equal_or}
use Rattle.kinds.proofs.Fitting.{known, blank_most}
use Rattle.records.specs.Records as R
use Rattle.records.specs.Records.{resource_column, larger, list_at, records_from}
use Rattle.records.proofs.Listing.{record_at, Somewhere, located, located_record, own_length, own_record, larger_record_lem}
use Rattle.records.proofs.Larger.{is_there}
use Rattle.records.proofs.Subcarriers.{whole_span}
use Rattle.trigger_values.specs.Values.{allowed_at, ResourceOf, piece}
use Rattle.trigger_values.proofs.OneToOne.{there, there_is}

-- ---- pieces of a position that is given to itself
abbrev all_of : (Piece → Bool) → List Piece → Bool
all_of f [] = true
all_of f (x ∷ xs) = f x && all_of f xs

each_of : (f : Piece → Bool) (d : Piece) (xs : List Piece) (k : ℕ) → T (all_of f xs) → k < length xs → T (f (get_or xs k d))
each_of f d [] k t l = absurd (omega arith)
each_of f d (x ∷ xs) zero t l = both_left (f x) (all_of f xs) t
each_of f d (x ∷ xs) (suc k) t l = each_of f d xs k (both_right (f x) (all_of f xs) t) (omega arith)

-- 48 and 50 stand only where they are allowed
abbrev stands : ℕ → ℕ → Bool
stands p v = not (eqb v 48) && not (eqb v 50) || smaller_at p v

abbrev allowed_test : ℕ → ℕ → Bool
allowed_test p v = wherever (stands p v) (all_of (allowed_at p) (own_pieces v))

all_allowed : T (below (λ p. below (allowed_test p) 72) 4)
unfolding allowed_at smaller_at pieces own_pieces
all_allowed = tt

neither_stands : (p v : ℕ) → (v ≡ 48 → ⊥) → (v ≡ 50 → ⊥) → T (stands p v)
neither_stands p v m n = rw (ne_eqb v 48 m, ne_eqb v 50 n) tt

or_right : (a b : Bool) → T b → T (a || b)
or_right true b t = tt
or_right false b t = t

family_0 : family 0 ≡ 8
unfolding family kind_at kinds
family_0 = refl

fits_stands : (p v : ℕ) → Fits 0 p v → T (stands (p % 4) v)
fits_stands p v (own t e) = neither_stands (p % 4) v (λ f. omega (arith, e, f, family_0)) (λ f. omega (arith, e, f, family_0))
fits_stands p v (blank t e) =
    let m = blank_most 0 (p % span 0) in
    neither_stands (p % 4) v (λ f. omega (arith, e, f, m)) (λ f. omega (arith, e, f, m))
fits_stands p v (smaller t) = or_right (not (eqb v 48) && not (eqb v 50)) (smaller_at (p % 4) v) (rw t.1 tt)

-- ---- larger resources
abbrev larger_test : ℕ → ℕ → ℕ → Bool
larger_test b c q = wherever (leb (span c) (2 ^ b)) (wherever (ltb q (2 ^ b)) (there (2 ^ b) (larger c q)))

all_larger : T (below (λ b. below (λ c. below (larger_test b c) 4) 36) 3)
unfolding span kind_at kinds larger resource_column allowed_at smaller_at exists resource_at is_piece index_of from_positions position_of place_of
all_larger = tt

four : (b : ℕ) → b ≤ 2 → 2 ^ b ≤ 4
four b h = pow-le-pow_right {n = 2} (omega arith) h

one : (b : ℕ) → 1 ≤ 2 ^ b
one b = pow_pos b

module _ (o row : ℕ → ℕ) (b : ℕ) (h : b ≤ 2) (s : Signals o row 0 (2 ^ b)) where
  own_there : (p m : ℕ) → p < 2 ^ b → o p ≡ 0 → m < length (list_at (o p) row p) → ResourceOf (2 ^ b) (record_at (o p) row p m).resource
  own_there p m l e k =
      let j : m < length (own_pieces (row p)) = omega (arith, own_length (o p) row p e) in
      let w = own_piece (row p) m j in
      let low : row p < 72 = ⊎_elim (λ (i : row p < 72). i) (λ (i : 72 ≤ row p). absurd (none (row p) m i j)) (below_or (row p) 72) in
      let q = p % 4 in
      let x = piece_at (row p) m in
      let t = every_below (allowed_test q) 72 (every_below (λ p. below (allowed_test p) 72) 4 all_allowed q (omega arith)) (row p) low in
      let a = each_of (allowed_at q) no_piece (own_pieces (row p)) m
      (met (stands q (row p)) _ t (fits_stands p (row p) (subst (λ (c : ℕ). Fits c p (row p)) e (s.fits p (omega arith) l)))) j in
      rw (own_record (o p) row p m e)
      (piece q x (is_there (2 ^ b) 0 q x (omega arith) (omega (arith, four b h)) (omega (arith, one b, w.1)) w.0) a)
    where
      none : (v m : ℕ) → 72 ≤ v → m < length (own_pieces v) → ⊥
      none v m i j = let z : length (own_pieces v) ≡ 0 = ap length (no_pieces v i) in omega arith

  larger_there : (p m : ℕ) → p < 2 ^ b → (o p ≡ 0 → ⊥) → ResourceOf (2 ^ b) (record_at (o p) row p m).resource
  larger_there p m l n =
      let c = o p in
      let q = p % 4 in
      let u = known c p (row p) (s.fits p (omega arith) l) in
      let w = whole_span o row b (omega arith) s p l in
      let t = every_below (larger_test b c) 4
      (every_below (λ c. below (larger_test b c) 4) 36 (every_below (λ b. below (λ c. below (larger_test b c) 4) 36) 3 all_larger b (omega arith)) c u) q
      (omega arith) in
      rw (larger_record_lem c row p m n)
      (there_is (2 ^ b) (larger c q)
      (met (ltb q (2 ^ b)) _ (met (leb (span c) (2 ^ b)) _ t (le→leb (span c) (2 ^ b) (omega (arith, w)))) (lt→ltb q (2 ^ b) (omega (arith, four b h)))))

  -- of each resource of the plan
  pub of_plan : (i : ℕ) → i < length (records_from o row (2 ^ b)) → ResourceOf (2 ^ b) (get_or (records_from o row (2 ^ b)) i R.blank).resource
  of_plan i k = go (located o row (2 ^ b) i k)
    where
      go : Somewhere o row (2 ^ b) i → ResourceOf (2 ^ b) (get_or (records_from o row (2 ^ b)) i R.blank).resource
      go (p, m, w) =
          rw (located_record o row (2 ^ b) i p m w)
          (⊎_elim (λ e. own_there p m w.inside e w.place) (λ n. larger_there p m w.inside n) (equal_or (o p) 0))
