-- Size and index determine the position in the segment and the place there; no 26 has the index 19.
use mathlib.Core.Path.{◌≡◌}
use mathlib.Core.Bool.{Bool, true, ◌&&◌, not}
use Prim.Native.Nat.{ℕ, ◌+◌, ◌-◌, ◌*◌, ◌/◌, ◌%◌, ◌<◌}
use lib.Dec.{T, T_not, eqb, eqb→eq}
use Rattle.resource.specs.declared.Size.{Size}
use Rattle.resource.specs.declared.Size.TheVariants.{S26, S52, S106, S242, S484, S996, S2x996}
use Rattle.resource.specs.declared.Piece.{Piece}
use Rattle.resource.specs.declared.Piece.TheVariants.{Part, With26}
use Rattle.resource.specs.Index.{index_of, is_piece, position_of, place_of}
use Rattle.resource.proofs.Test.{both_left, both_right, below, every_below}
use Rattle.resource.proofs.Everywhere.{every_piece, at_piece}

-- the lowest position, in its segment, of what a single resource of this size takes at position p
abbrev pub start_of : ℕ → Size → ℕ
start_of p S26 = p
start_of p S52 = p
start_of p S106 = p
start_of p S242 = p
start_of p S484 = 2 * (p / 2)
start_of p S996 = 0
start_of p S2x996 = 0

abbrev back_test : ℕ → Piece → Bool
back_test p (Part s i) = eqb (position_of s (index_of p s i)) (start_of p s) && eqb (place_of s (index_of p s i)) (i - 1)
back_test p (With26 i) = eqb ((2 * p + i - 1) / 2) p && eqb ((2 * p + i - 1) % 2) (i - 1)

backs : T (below (λ p. every_piece (back_test p)) 4)
unfolding index_of is_piece position_of place_of
backs = tt

tested : (p : ℕ) (x : Piece) → p < 4 → T (is_piece x) → T (back_test p x)
tested p x h t = at_piece (back_test p) x (every_below (λ p. every_piece (back_test p)) 4 backs p h) t

module _ (p : ℕ) (s : Size) (i : ℕ) (h : p < 4) (t : T (is_piece (Part s i))) where
  pub position_back : position_of s (index_of p s i) ≡ start_of p s
  position_back = eqb→eq _ _ (both_left (eqb (position_of s (index_of p s i)) (start_of p s)) (eqb (place_of s (index_of p s i)) (i - 1))
      (tested p (Part s i) h t))

  pub place_back : place_of s (index_of p s i) ≡ i - 1
  place_back = eqb→eq _ _ (both_right (eqb (position_of s (index_of p s i)) (start_of p s)) (eqb (place_of s (index_of p s i)) (i - 1))
      (tested p (Part s i) h t))

module _ (p i : ℕ) (h : p < 4) (t : T (is_piece (With26 i))) where
  pub position_back_26 : (2 * p + i - 1) / 2 ≡ p
  position_back_26 = eqb→eq _ _ (both_left (eqb ((2 * p + i - 1) / 2) p) (eqb ((2 * p + i - 1) % 2) (i - 1)) (tested p (With26 i) h t))

  pub place_back_26 : (2 * p + i - 1) % 2 ≡ i - 1
  place_back_26 = eqb→eq _ _ (both_right (eqb ((2 * p + i - 1) / 2) p) (eqb ((2 * p + i - 1) % 2) (i - 1)) (tested p (With26 i) h t))

-- "19 doesn't exist"
abbrev not_19 : ℕ → Piece → Bool
not_19 p (Part S26 i) = not (eqb (index_of p S26 i) 19)
not_19 p (Part S52 i) = true
not_19 p (Part S106 i) = true
not_19 p (Part S242 i) = true
not_19 p (Part S484 i) = true
not_19 p (Part S996 i) = true
not_19 p (Part S2x996 i) = true
not_19 p (With26 i) = true

no_19s : T (below (λ p. every_piece (not_19 p)) 4)
unfolding index_of is_piece
no_19s = tt

pub no_19 : (p i : ℕ) → p < 4 → T (is_piece (Part S26 i)) → index_of p S26 i ≡ 19 → ⊥
no_19 p i h t e =
    T_not (eqb (index_of p S26 i) 19) (at_piece (not_19 p) (Part S26 i) (every_below (λ p. every_piece (not_19 p)) 4 no_19s p h) t)
    (rw e tt)
