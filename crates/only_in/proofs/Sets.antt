-- The pieces of a position as a set, a bit for each: a piece is one of them where the set has its number.
use mathlib.Core.Path.{◌≡◌, refl, sym}
use mathlib.Core.Logic.{⊎_elim}
use mathlib.Core.Bool.{Bool, true, false, cond, not, ◌&&◌, ◌||◌}
use mathlib.Core.List.{List, [], ◌∷◌}
use Prim.Native.Nat.{ℕ, ◌*◌, ◌%◌, ◌^◌, ◌≤◌, ◌<◌}
use native.Mathlib.Nat.{pow-le-pow_right}
use native.Mathlib.Omega.{arith}
use lib.Dec.{T, eqb, leb, le→leb}
use lib.ListN.{length}
use Rattle.bits.proofs.Fields.{shl_one}
use Rattle.resource.specs.declared.Piece.{Piece}
use Rattle.resource.specs.declared.Resource.{Resource}
use Rattle.resource.specs.Names.{name_of, number_of}
use Rattle.resource.specs.Values.{set_at, pieces, own_pieces}
use Rattle.resource.specs.Index.{index_of, resource_at, is_piece, from_positions}
use Rattle.resource.proofs.Test.{below_or, wherever, met, below, every_below}
use Rattle.resource.proofs.Everywhere.{every_piece, at_piece}
use Rattle.resource.proofs.Apart.{no_pieces}
use Rattle.only_in.specs.Engine.{part_number, piece_number, shape_of}

-- ---- two tests that agree
abbrev pub agree : Bool → Bool → Bool
agree s t = cond s t (not t)

pub agreed_tests : (s t : Bool) → T (agree s t) → s ≡ t
agreed_tests true true h = refl
agreed_tests true false h = absurd h
agreed_tests false true h = absurd h
agreed_tests false false h = refl

pub is_false : (t : Bool) → T (not t) → t ≡ false
is_false true h = absurd h
is_false false h = refl

-- ---- a piece of a position that is given to itself
pub record Own (x : Piece) : Type 0 where
  pub there : T (is_piece x)
  pub single : from_positions x ≤ 1

-- a rule of each of them, computed over all
abbrev pub every_own : (Piece → Bool) → Bool
every_own f = every_piece (λ x. wherever (leb (from_positions x) 1) (f x))

pub at_own : (f : Piece → Bool) (x : Piece) → T (every_own f) → Own x → T (f x)
at_own f x t h =
    met (leb (from_positions x) 1) (f x) (at_piece (λ x. wherever (leb (from_positions x) 1) (f x)) x t h.there) (le→leb (from_positions x) 1 h.single)

-- ---- at one position of a segment the name tells the piece
-- two resources of one size and index
abbrev pub alike : Resource → Resource → Bool
alike r s = eqb (name_of r) (name_of s) && eqb (number_of r) (number_of s)

abbrev number_test : ℕ → Piece → Piece → Bool
number_test q x y = agree (alike (resource_at q x) (resource_at q y)) (eqb (piece_number x) (piece_number y))

numbers_tested : T (below (λ q. every_own (λ x. every_own (number_test q x))) 4)
unfolding resource_at index_of is_piece from_positions part_number piece_number
numbers_tested = tt

pub piece_alike : (q : ℕ) (x y : Piece) → q < 4 → Own x → Own y → alike (resource_at q x) (resource_at q y) ≡ eqb (piece_number x) (piece_number y)
piece_alike q x y l h k =
    let f = every_below (λ q. every_own (λ x. every_own (number_test q x))) 4 numbers_tested q l in
    agreed_tests _ _ (at_own (number_test q x) y (at_own (λ x. every_own (number_test q x)) x f h) k)

-- ---- the set of a value's pieces has their numbers, and no other
abbrev pub has_number : ℕ → List Piece → Bool
has_number m [] = false
has_number m (y ∷ ys) = eqb m (piece_number y) || has_number m ys

abbrev set_test : ℕ → Piece → Bool
set_test v x = agree (has_number (piece_number x) (own_pieces v)) (set_at (piece_number x) (shape_of v (length (own_pieces v))))

sets_tested : T (below (λ v. every_own (set_test v)) 72)
unfolding own_pieces pieces is_piece from_positions part_number piece_number
sets_tested = tt

none_set_test : T (every_own (λ x. not (set_at (piece_number x) 0)))
unfolding is_piece from_positions part_number piece_number
none_set_test = tt

module _ (x : Piece) (h : Own x) where
  pub none_set : set_at (piece_number x) 0 ≡ false
  none_set = is_false _ (at_own (λ x. not (set_at (piece_number x) 0)) x none_set_test h)

  pub in_set : (v : ℕ) → has_number (piece_number x) (own_pieces v) ≡ set_at (piece_number x) (shape_of v (length (own_pieces v)))
  in_set v = ⊎_elim low (λ (l : 72 ≤ v). rw (no_pieces v l) (sym none_set)) (below_or v 72)
    where
      low : v < 72 → has_number (piece_number x) (own_pieces v) ≡ set_at (piece_number x) (shape_of v (length (own_pieces v)))
      low l = agreed_tests _ _ (at_own (set_test v) x (every_below (λ v. every_own (set_test v)) 72 sets_tested v l) h)

-- ---- the code's bit for a number
pub one_bit : (n : ℕ) → n ≤ 25 → 1 * 2 ^ n % 4294967296 ≡ 2 ^ n
one_bit n l = shl_one n (omega arith)

pub bit_most : (n : ℕ) → n ≤ 25 → 1 * 2 ^ n % 4294967296 ≤ 33554432
bit_most n l = rw (one_bit n l) (let m : 2 ^ n ≤ 2 ^ 25 = pow-le-pow_right (omega arith) l in m)
