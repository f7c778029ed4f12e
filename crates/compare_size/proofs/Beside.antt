-- What the values of two plans make of a position: which pieces both have, and how much text the others and the User fields are, a
-- test that the checker computes over pairs of values. A piece that both have is one resource, and has no line.
use mathlib.Core.Path.{◌≡◌, refl, sym, ap₂, ◌∙◌}
use mathlib.Core.Bool.{Bool, true, false, cond, ◌&&◌, ◌||◌, false≢true}
use mathlib.Core.List.{List, [], ◌∷◌, Memᴰ}
use mathlib.Core.Logic.{⊎_elim}
use Prim.Native.Nat.{ℕ, zero, suc, ◌+◌, ◌*◌, ◌≤◌, ◌<◌}
use native.Mathlib.Omega.{arith}
use native.Mathlib.Nat.{eq-or-lt_of_le, le_of_suc-le-suc}
use lib.Dec.{T, leb, eqb, leb→le, eqb→eq}
use lib.ListN.{length}
use borrow.Author.Tests.{eqb-true}
use Rattle.resource.specs.declared.Size.TheVariants.{S26, S52, S106, S242, S484, S996, S2x996}
use Rattle.resource.specs.declared.Piece.{Piece}
use Rattle.resource.specs.declared.Piece.TheVariants.{Part, With26}
use Rattle.resource.specs.Names.{size_of}
use Rattle.resource.specs.Values.{carried, pieces, fields_of, divides, own_pieces}
use Rattle.resource.specs.Engine.{numbered_of}
use Rattle.resource.proofs.Test.{both_left, both_right, wherever, met, below, every_below}
use Rattle.resource.proofs.Pieces.{divided_low}
use Rattle.records.specs.declared.Record.{Record}
use Rattle.records.specs.Records.{piece_record, list_at, records_from}
use Rattle.records.proofs.Listing.{own_list}
use Rattle.compared.specs.Reading.{has_same}
use Rattle.compared.proofs.Same.{of_both, says_same, has_same_left, member_has}
use Rattle.compared.proofs.Keep.{map_member}
use Rattle.compare_size.proofs.ResourceLengths.{piece_most}

-- ---- a piece is known by its size and its number
abbrev size_in : Piece → ℕ
size_in (Part s i) = size_of s
size_in (With26 i) = 132

abbrev piece_of : ℕ → ℕ → Piece
piece_of s i =
    cond (eqb s 26) (Part S26 i)
    (cond (eqb s 52) (Part S52 i)
    (cond (eqb s 106) (Part S106 i)
    (cond (eqb s 242) (Part S242 i)
    (cond (eqb s 484) (Part S484 i) (cond (eqb s 996) (Part S996 i) (cond (eqb s 1992) (Part S2x996 i) (With26 i)))))))

piece_back : (x : Piece) → piece_of (size_in x) (numbered_of x) ≡ x
piece_back (Part S26 i) = refl
piece_back (Part S52 i) = refl
piece_back (Part S106 i) = refl
piece_back (Part S242 i) = refl
piece_back (Part S484 i) = refl
piece_back (Part S996 i) = refl
piece_back (Part S2x996 i) = refl
piece_back (With26 i) = refl

abbrev same_piece : Piece → Piece → Bool
same_piece x y = eqb (size_in x) (size_in y) && eqb (numbered_of x) (numbered_of y)

same_piece_lem : (x y : Piece) → same_piece x y ≡ true → x ≡ y
same_piece_lem x y e =
    let p = of_both (eqb (size_in x) (size_in y)) _ e in
    sym (piece_back x) ∙ ap₂ piece_of (eqb-true (size_in x) (size_in y) p.0) (eqb-true (numbered_of x) (numbered_of y) p.1) ∙ piece_back y

abbrev pub among : Piece → List Piece → Bool
among x [] = false
among x (y ∷ ys) = same_piece x y || among x ys

among_member : (x : Piece) (ys : List Piece) → among x ys ≡ true → Memᴰ x ys
among_member x [] e = absurd (false≢true e)
among_member x (y ∷ ys) e = go (same_piece x y) refl e (among_member x ys)
  where
    go : (t : Bool) → same_piece x y ≡ t → t || among x ys ≡ true → (among x ys ≡ true → Memᴰ x ys) → Memᴰ x (y ∷ ys)
    go true f g rest = mathlib.Core.List.Memᴰ.head (same_piece_lem x y f)
    go false f g rest = mathlib.Core.List.Memᴰ.tail (rest g)

-- ---- computed
-- the lines of those of xs that are not among ys
abbrev pub only_of : List Piece → List Piece → ℕ
only_of [] ys = 0
only_of (x ∷ xs) ys = cond (among x ys) 0 (8 + piece_most x) + only_of xs ys

-- what two values that divide their position add
abbrev pub beside_of : ℕ → ℕ → ℕ
beside_of v w = only_of (own_pieces v) (own_pieces w) + only_of (own_pieces w) (own_pieces v) + 67 * (fields_of v + fields_of w)

abbrev beside_test : ℕ → ℕ → Bool
beside_test v w = wherever (divides w) (leb (beside_of v w) 1758)

abbrev value_test : ℕ → Bool
value_test v = leb (only_of (own_pieces v) []) 531 && (eqb (fields_of v) (length (own_pieces v)) && below (beside_test v) 51)

tested : T (below (λ v. wherever (divides v) (value_test v)) 51)
unfolding carried pieces fields_of own_pieces divides
tested = tt

module _ (v : ℕ) (d : divides v ≡ true) where
  value_tested : T (value_test v)
  value_tested =
      met (divides v) (value_test v) (every_below (λ v. wherever (divides v) (value_test v)) 51 tested v (divided_low v d)) (rw d tt)

  -- nine 26s
  pub alone_most : only_of (own_pieces v) [] ≤ 531
  alone_most = leb→le (only_of (own_pieces v) []) 531 (both_left (leb (only_of (own_pieces v) []) 531) _ value_tested)

  rest_tested : T (eqb (fields_of v) (length (own_pieces v)) && below (beside_test v) 51)
  rest_tested = both_right (leb (only_of (own_pieces v) []) 531) _ value_tested

  -- a field for each piece
  pub field_each : fields_of v ≡ length (own_pieces v)
  field_each = eqb→eq _ _ (both_left (eqb (fields_of v) (length (own_pieces v))) _ rest_tested)

  pub beside_most : (w : ℕ) → divides w ≡ true → beside_of v w ≤ 1758
  beside_most w e =
      leb→le (beside_of v w) 1758
      (met (divides w) (leb (beside_of v w) 1758)
      (every_below (beside_test v) 51 (both_right (eqb (fields_of v) (length (own_pieces v))) _ rest_tested) w (divided_low w e))
      (rw e tt))

-- ---- what is listed at a position is in the plan
listed_there : (o row : ℕ → ℕ) (p m : ℕ) (z : Record) → p < m → Memᴰ z (list_at (o p) row p)
    → Memᴰ z (records_from o row m)
listed_there o row p zero z l k = absurd (omega arith)
listed_there o row p (suc m) z l k =
    ⊎_elim
    (λ (e : p ≡ m). mathlib.Core.List.Memᴰ.append_right (records_from o row m) (rw (← e) k))
    (λ (h : p < m). mathlib.Core.List.Memᴰ.append_left (list_at (o m) row m) (listed_there o row p m z h k))
    (eq-or-lt_of_le (le_of_suc-le-suc l))

-- so that a piece which the other plan too makes of the position is one of its resources
pub piece_there : (row o' row' : ℕ → ℕ) (p m : ℕ) (x : Piece) → p < m → o' p ≡ 0 → among x (own_pieces (row' p)) ≡ true
    → has_same (piece_record row p x) (records_from o' row' m) ≡ true
piece_there row o' row' p m x l e a =
    let z = piece_record row p x in
    let w = piece_record row' p x in
    let ws = records_from o' row' m in
    let xs = own_pieces (row' p) in
    let i : Memᴰ w (list_at (o' p) row' p) =
    rw (own_list (o' p) row' p e) (map_member (piece_record row' p) xs (among_member x xs a)) in
    has_same_left z w (says_same z w refl refl) ws ∙ member_has w ws (listed_there o' row' p m w l i)
