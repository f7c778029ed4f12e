-- The program's way to the k-th piece finds 01's.
use mathlib.Core.Path.{◌≡◌, refl, sym, ◌∙◌, ap}
use mathlib.Core.Logic.{⊎_elim}
use mathlib.Core.Bool.{Bool, true, false, cond, ◌&&◌, ◌||◌}
use Prim.Native.Nat.{ℕ, zero, suc, ◌+◌, ◌-◌, ◌/◌, ◌%◌, ◌≤◌, ◌<◌}
use native.Mathlib.Omega.{arith}
use borrow.Author.Tests.{ne_eqb}
use mir.Facts.{or_yes}
use lib.Dec.{T, leb, leb→le, eqb, eqb→eq}
use lib.ListN.{length, get_or-eq_default}
use Rattle.resource.specs.declared.Size.{Size}
use Rattle.resource.specs.declared.Size.TheVariants.{S26, S52, S106, S242, S484, S996, S2x996}
use Rattle.resource.specs.declared.Piece.{Piece}
use Rattle.resource.specs.declared.Piece.TheVariants.{Part, With26}
use Rattle.resource.specs.Values.{carried, pieces, fields_of, own_pieces}
use Rattle.resource.specs.Engine.{no_piece, piece_at, numbered_of, starts, nth_from, piece_from}
use Rattle.resource.proofs.Test.{both_left, both_right, below, every_below, every_between, below_or}
use Rattle.resource.proofs.Apart.{no_pieces}

-- below 64, but for 28, a position has a piece for each field; 28 and 64 to 71 are whole
fields_test : ℕ → Bool
fields_test v = eqb v 28 || eqb (length (own_pieces v)) (fields_of v)

whole_test : ℕ → Bool
whole_test v = eqb (length (own_pieces v)) 1

module _ (v : ℕ) where
  pub own_fields : v < 64 → (v ≡ 28 → ⊥) → length (own_pieces v) ≡ fields_of v
  unfolding fields_test fields_of carried own_pieces pieces
  own_fields h n =
      ⊎_elim (λ e. absurd (n (eqb→eq v 28 e))) (λ e. eqb→eq (length (own_pieces v)) (fields_of v) e)
      (or_yes (eqb v 28) (eqb (length (own_pieces v)) (fields_of v)) (every_below fields_test 64 tt v h))

  pub own_whole : 64 ≤ v → v < 72 → length (own_pieces v) ≡ 1
  unfolding whole_test own_pieces pieces
  own_whole h l = eqb→eq (length (own_pieces v)) 1 (every_between whole_test 64 72 v tt h l)

  pub starts_high : 72 ≤ v → starts v ≡ 0
  unfolding starts
  starts_high h = rw (no_pieces v h)

-- ---- the bits are sought from the lowest on
module _ (m k s : ℕ) (h : s < 9) where
  abbrev more : 9 - s ≡ suc (9 - (s + 1))
  more = omega arith

  pub found : m % 2 ≡ 1 → k ≡ 0 → nth_from m k s (9 - s) ≡ s
  unfolding nth_from
  found e f = rw (more, e, f)

  pub passed : m % 2 ≡ 1 → (k ≡ 0 → ⊥) → nth_from m k s (9 - s) ≡ nth_from (m / 2) (k - 1) (s + 1) (9 - (s + 1))
  unfolding nth_from
  passed e f = rw (more, e, ne_eqb k 0 f)

  pub skipped : (m % 2 ≡ 1 → ⊥) → nth_from m k s (9 - s) ≡ nth_from (m / 2) k (s + 1) (9 - (s + 1))
  unfolding nth_from
  skipped e = rw (more, ne_eqb (m % 2) 1 e)

pub ended : (m k s : ℕ) → s ≡ 9 → nth_from m k s (9 - s) ≡ 9
unfolding nth_from
ended m k s e = rw e

-- with no bit set, and past the last of them, none is found
choose : (t : Bool) (a b c : ℕ) → a ≡ c → b ≡ c → cond t a b ≡ c
choose true a b c e f = e
choose false a b c e f = f

pub all_passed : (n m k s : ℕ) → n ≤ k → nth_from m k s n ≡ s + n
unfolding nth_from
all_passed zero m k s h = omega arith
all_passed (suc n) m k s h =
    let f : nth_from (m / 2) (k - 1) (s + 1) n ≡ s + suc n = all_passed n (m / 2) (k - 1) (s + 1) (omega arith) ∙ omega arith in
    let g : nth_from (m / 2) k (s + 1) n ≡ s + suc n = all_passed n (m / 2) k (s + 1) (omega arith) ∙ omega arith in
    choose (eqb (m % 2) 1) (cond (eqb k 0) s (nth_from (m / 2) (k - 1) (s + 1) n)) (nth_from (m / 2) k (s + 1) n) (s + suc n)
    (rw (ne_eqb k 0 (λ e. omega arith)) f) g

pub none_set : (n k s : ℕ) → nth_from 0 k s n ≡ s + n
unfolding nth_from
none_set zero k s = omega arith
none_set (suc n) k s = none_set n k (s + 1) ∙ omega arith

-- ---- pieces that are equal by computation
kind_no : Size → ℕ
kind_no S26 = 0
kind_no S52 = 1
kind_no S106 = 2
kind_no S242 = 3
kind_no S484 = 4
kind_no S996 = 5
kind_no S2x996 = 6

kind_at : ℕ → Size
kind_at zero = S26
kind_at (suc zero) = S52
kind_at (suc (suc zero)) = S106
kind_at (suc (suc (suc zero))) = S242
kind_at (suc (suc (suc (suc zero)))) = S484
kind_at (suc (suc (suc (suc (suc zero))))) = S996
kind_at (suc (suc (suc (suc (suc (suc k)))))) = S2x996

kind_back : (a : Size) → kind_at (kind_no a) ≡ a
unfolding kind_no kind_at
kind_back S26 = refl
kind_back S52 = refl
kind_back S106 = refl
kind_back S242 = refl
kind_back S484 = refl
kind_back S996 = refl
kind_back S2x996 = refl

same_piece : Piece → Piece → Bool
same_piece (Part a i) (Part b j) = eqb (kind_no a) (kind_no b) && eqb i j
same_piece (Part a i) (With26 j) = false
same_piece (With26 i) (Part b j) = false
same_piece (With26 i) (With26 j) = eqb i j

piece_eq : (x y : Piece) → T (same_piece x y) → x ≡ y
unfolding same_piece
piece_eq (Part a i) (Part b j) t =
    let e = ap kind_at (eqb→eq (kind_no a) (kind_no b) (both_left (eqb (kind_no a) (kind_no b)) (eqb i j) t)) in
    let f = eqb→eq i j (both_right (eqb (kind_no a) (kind_no b)) (eqb i j) t) in
    let g : a ≡ b = sym (kind_back a) ∙ e ∙ kind_back b in
    cc
piece_eq (Part a i) (With26 j) t = absurd t
piece_eq (With26 i) (Part b j) t = absurd t
piece_eq (With26 i) (With26 j) t = ap With26 (eqb→eq i j t)

-- ---- the k-th piece
abbrev found_at : ℕ → ℕ → Piece
found_at v k = piece_from (nth_from (starts v) k 0 9) (nth_from (starts v) (k + 1) 0 9 - nth_from (starts v) k 0 9)

piece_test : ℕ → ℕ → Bool
piece_test v k = same_piece (found_at v k) (piece_at v k)

pieces_test : ℕ → Bool
pieces_test v = leb (length (own_pieces v)) 9 && below (piece_test v) 9

tested : T (below pieces_test 72)
unfolding pieces_test piece_test same_piece kind_no starts nth_from piece_from own_pieces pieces
tested = tt

pub own_most : (v : ℕ) → length (own_pieces v) ≤ 9
unfolding pieces_test
own_most v =
    ⊎_elim
    (λ h. leb→le (length (own_pieces v)) 9 (both_left (leb (length (own_pieces v)) 9) (below (piece_test v) 9) (every_below pieces_test 72 tested v h)))
    (λ h. rw (no_pieces v h) (omega arith))
    (below_or v 72)

-- nothing starts where nothing is found twice
nowhere : (v k : ℕ) → nth_from (starts v) k 0 9 ≡ 9 → nth_from (starts v) (k + 1) 0 9 ≡ 9 → found_at v k ≡ no_piece
unfolding piece_from
nowhere v k e f = rw (e, f)

pub found_right : (v k : ℕ) → found_at v k ≡ piece_at v k
unfolding piece_test pieces_test
found_right v k = ⊎_elim low (λ h. nowhere v k (high h k) (high h (k + 1)) ∙ rw (no_pieces v h)) (below_or v 72)
  where
    high : 72 ≤ v → (i : ℕ) → nth_from (starts v) i 0 9 ≡ 9
    high h i = rw (starts_high v h) (none_set 9 i 0)

    low : v < 72 → found_at v k ≡ piece_at v k
    low h =
        ⊎_elim
        (λ l. piece_eq (found_at v k) (piece_at v k)
        (every_below (piece_test v) 9
        (both_right (leb (length (own_pieces v)) 9) (below (piece_test v) 9) (every_below pieces_test 72 tested v h)) k l))
        (λ l. nowhere v k (all_passed 9 (starts v) k 0 l) (all_passed 9 (starts v) (k + 1) 0 (omega arith))
        ∙ sym (get_or-eq_default (own_pieces v) no_piece (omega (arith, own_most v))))
        (below_or k 9)

-- a place is at most nine
place_test : ℕ → ℕ → Bool
place_test v k = leb (numbered_of (piece_at v k)) 9

places : T (below (λ v. below (place_test v) 9) 72)
unfolding place_test own_pieces pieces
places = tt

pub place_most : (v k : ℕ) → numbered_of (piece_at v k) ≤ 9
unfolding place_test
place_most v k = ⊎_elim low (λ h. rw (no_pieces v h) (omega arith)) (below_or v 72)
  where
    low : v < 72 → numbered_of (piece_at v k) ≤ 9
    low h =
        ⊎_elim
        (λ l. leb→le (numbered_of (piece_at v k)) 9 (every_below (place_test v) 9 (every_below (λ v. below (place_test v) 9) 72 places v h) k l))
        (λ l. rw (get_or-eq_default (own_pieces v) no_piece {n = k} (omega (arith, own_most v))) (omega arith))
        (below_or k 9)
