-- The pieces of a value: they exist at every position, and a piece's place and position find the subcarriers that its index does.
use mathlib.Core.Path.{◌≡◌, refl, sym, ap, ◌∙◌}
use mathlib.Core.Logic.{⊎_elim, ◌≢◌}
use mathlib.Core.Bool.{Bool, true, false, cond, not, ◌&&◌, false≢true}
use mathlib.Core.List.{List, [], ◌∷◌}
use Prim.Native.Nat.{ℕ, zero, suc, ◌+◌, ◌-◌, ◌*◌, ◌/◌, ◌%◌, ◌≤◌, ◌<◌}
use native.Mathlib.Omega.{arith}
use borrow.Author.Tests.{lt-ltb, ne_eqb, eqb-true}
use lib.Dec.{T, leb, leb→le, eqb, eqb→eq}
use lib.ListN.{length, get_or}
use Rattle.resource.specs.declared.Size.TheVariants.{S26, S52, S106, S242, S484, S996, S2x996}
use Rattle.resource.specs.declared.Piece.{Piece}
use Rattle.resource.specs.declared.Piece.TheVariants.{Part, With26}
use Rattle.resource.specs.declared.Run.{Run}
use Rattle.resource.specs.Values.{pieces, fields_of, divides, own_pieces}
use Rattle.resource.specs.Index.{resource_at, is_piece, from_positions}
use Rattle.resource.specs.Engine.{no_piece, piece_at, numbered_of}
use Rattle.resource.specs.Engine.{narrow, narrow_with26, wide, wide_with26, runs_of}
use Rattle.resource.proofs.Test.{below_or, both_left, both_right, below, every_below}
use Rattle.resource.proofs.Apart.{not_divided, no_pieces}
use Rattle.resource.proofs.Index.{position_back, place_back, position_back_26, place_back_26}

-- ---- the pieces of a value exist at every position
abbrev whole_list : List Piece → Bool
whole_list [] = true
whole_list (x ∷ xs) = is_piece x && eqb (from_positions x) 1 && whole_list xs

in_list : (xs : List Piece) (k : ℕ) → T (whole_list xs) → k < length xs → T (is_piece (get_or xs k no_piece)) × (from_positions (get_or xs k no_piece) ≡ 1)
in_list [] k t h = absurd (omega arith)
in_list (x ∷ xs) zero t h =
    let u = both_left (is_piece x && eqb (from_positions x) 1) (whole_list xs) t in
    (both_left (is_piece x) (eqb (from_positions x) 1) u, eqb→eq (from_positions x) 1 (both_right (is_piece x) (eqb (from_positions x) 1) u))
in_list (x ∷ xs) (suc k) t h = in_list xs k (both_right (is_piece x && eqb (from_positions x) 1) (whole_list xs) t) (omega arith)

all_lists : T (below (λ v. whole_list (own_pieces v)) 72)
unfolding own_pieces pieces is_piece from_positions
all_lists = tt

own_list : (v : ℕ) → T (whole_list (own_pieces v))
own_list v =
    ⊎_elim (λ h. every_below (λ v. whole_list (own_pieces v)) 72 all_lists v h) (λ (h : 72 ≤ v). rw (no_pieces v h) tt) (below_or v 72)

pub own_piece : (v k : ℕ) → k < length (own_pieces v) → T (is_piece (piece_at v k)) × (from_positions (piece_at v k) ≡ 1)
own_piece v k h = in_list (own_pieces v) k (own_list v) h

-- their places are counted from 1
pub piece_from_one : (x : Piece) → T (is_piece x) → 1 ≤ numbered_of x
unfolding is_piece
piece_from_one (Part S26 i) e = leb→le 1 i (both_left (leb 1 i) (leb i 9) e)
piece_from_one (Part S52 i) e = leb→le 1 i (both_left (leb 1 i) (leb i 4) e)
piece_from_one (Part S106 i) e = leb→le 1 i (both_left (leb 1 i) (leb i 2) e)
piece_from_one (Part S242 i) e = let f = eqb→eq i 1 e in omega arith
piece_from_one (Part S484 i) e = let f = eqb→eq i 1 e in omega arith
piece_from_one (Part S996 i) e = let f = eqb→eq i 1 e in omega arith
piece_from_one (Part S2x996 i) e = let f = eqb→eq i 1 e in omega arith
piece_from_one (With26 i) e = leb→le 1 i (both_left (leb 1 i) (leb i 2) e)

-- ---- the runs of the piece x at position p of a channel of n
abbrev pub runs_at : ℕ → ℕ → Piece → List Run
runs_at n p (Part s i) = cond (eqb n 1) (narrow s (i - 1)) (wide p s (i - 1))
runs_at n p (With26 i) = cond (eqb n 1) (narrow_with26 (i - 1)) (wide_with26 p (i - 1))

pub piece_runs : (n p : ℕ) (x : Piece) → T (is_piece x) → from_positions x ≡ 1 → runs_of n (p / 4) (resource_at (p % 4) x) ≡ runs_at n p x
unfolding runs_of resource_at from_positions
piece_runs n p (Part S26 i) t f =
    let e : 4 * (p / 4) + p % 4 ≡ p = omega arith in
    rw (position_back (p % 4) S26 i (omega arith) t, place_back (p % 4) S26 i (omega arith) t, e)
piece_runs n p (Part S52 i) t f =
    let e : 4 * (p / 4) + p % 4 ≡ p = omega arith in
    rw (position_back (p % 4) S52 i (omega arith) t, place_back (p % 4) S52 i (omega arith) t, e)
piece_runs n p (Part S106 i) t f =
    let e : 4 * (p / 4) + p % 4 ≡ p = omega arith in
    rw (position_back (p % 4) S106 i (omega arith) t, place_back (p % 4) S106 i (omega arith) t, e)
piece_runs n p (Part S242 i) t f =
    let e : 4 * (p / 4) + p % 4 ≡ p = omega arith in
    rw (position_back (p % 4) S242 i (omega arith) t, place_back (p % 4) S242 i (omega arith) t, e)
piece_runs n p (Part S484 i) t f = absurd (omega (arith, f))
piece_runs n p (Part S996 i) t f = absurd (omega (arith, f))
piece_runs n p (Part S2x996 i) t f = absurd (omega (arith, f))
piece_runs n p (With26 i) t f =
    let e : 4 * (p / 4) + p % 4 ≡ p = omega arith in
    rw (position_back_26 (p % 4) i (omega arith) t, place_back_26 (p % 4) i (omega arith) t, e)

-- ---- a value that divides its position
pub divided_low : (v : ℕ) → divides v ≡ true → v < 51
unfolding divides
divided_low v e = ⊎_elim (λ h. h) (λ (h : 51 ≤ v). absurd (false≢true (rw (not_divided v h) at e))) (below_or v 51)

pub divided_fields : (v : ℕ) → divides v ≡ true → fields_of v ≡ length (pieces v)
unfolding fields_of
divided_fields v e = rw (lt-ltb v 64 (omega (arith, divided_low v e)))

pub divided_not : (v m : ℕ) → divides m ≡ false → divides v ≡ true → v ≢ m
divided_not v m f e g = false≢true (sym f ∙ ap divides (sym g) ∙ e)

pub some_pieces : (v k : ℕ) → k < length (pieces v) → divides v ≡ true
unfolding divides
some_pieces v k h = rw (ne_eqb (length (pieces v)) 0 (λ e. omega arith))

pub no_pieces_left : (v : ℕ) → length (pieces v) ≡ 0 → divides v ≡ false
unfolding divides
no_pieces_left v h = rw h

pub none_left : (v : ℕ) → divides v ≡ false → length (pieces v) ≡ 0
unfolding divides
none_left v h = go (eqb (length (pieces v)) 0) refl h
  where
    go : (t : Bool) → eqb (length (pieces v)) 0 ≡ t → not t ≡ false → length (pieces v) ≡ 0
    go true e f = eqb-true (length (pieces v)) 0 e
    go false e f = absurd (false≢true (sym f))
