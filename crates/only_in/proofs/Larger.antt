-- Resources of larger kinds at one position, and where the lowest position of a resource is: its name tells both.
use mathlib.Core.Path.{◌≡◌}
use mathlib.Core.Logic.{◌≢◌}
use mathlib.Core.Bool.{Bool, false, cond, not, ◌&&◌, ◌||◌}
use Prim.Native.Nat.{ℕ, ◌-◌, ◌/◌, ◌%◌, ◌<◌}
use borrow.Author.Tests.{eq-eqb, ne_eqb}
use lib.Dec.{T, eqb, eqb→eq}
use Rattle.answer.specs.Least.{least}
use Rattle.resource.specs.declared.Pairing.TheVariants.{P106And26, P484And242, P996And484, P3x996, P2x996And484, P3x996And484}
use Rattle.resource.specs.declared.Piece.{Piece}
use Rattle.resource.specs.declared.Resource.{Resource}
use Rattle.resource.specs.declared.Resource.TheVariants.{Single, Joined}
use Rattle.resource.specs.Index.{index_of, resource_at, is_piece, from_positions, position_of}
use Rattle.resource.proofs.Test.{both_left, both_right, wherever, met, below, every_below}
use Rattle.kinds.specs.Kinds.{kinds, kind_at, span, mask, takes}
use Rattle.kinds.proofs.Tests.{holds}
use Rattle.records.specs.Records.{lead, resource_column, larger}
use Rattle.only_in.proofs.Sets.{agree, agreed_tests, is_false, Own, every_own, at_own, alike}

-- a test of each larger kind at each position of a segment
abbrev each_larger : (ℕ → ℕ → Bool) → Bool
each_larger f = below (λ c. wherever (not (eqb c 0)) (below (f c) 4)) 36

other_than : (c : ℕ) → c ≢ 0 → T (not (eqb c 0))
other_than c n = holds (not (eqb c 0)) (rw (ne_eqb c 0 n))

at_larger : (f : ℕ → ℕ → Bool) (c q : ℕ) → T (each_larger f) → c < 36 → c ≢ 0 → q < 4 → T (f c q)
at_larger f c q t h n l =
    every_below (f c) 4
    (met (not (eqb c 0)) (below (f c) 4) (every_below (λ c. wherever (not (eqb c 0)) (below (f c) 4)) 36 t c h) (other_than c n)) q l

-- ---- no piece of a position is a larger resource, nor the other way round
abbrev apart_test : ℕ → ℕ → Bool
apart_test c q = every_own (λ x. not (alike (resource_at q x) (larger c q)) && not (alike (larger c q) (resource_at q x)))

aparts_tested : T (each_larger apart_test)
unfolding resource_at index_of is_piece from_positions larger resource_column
aparts_tested = tt

-- ---- larger ones of two kinds differ
abbrev kind_test : ℕ → ℕ → ℕ → Bool
kind_test d c q = agree (alike (larger c q) (larger d q)) (eqb c d)

kinds_tested : T (below (λ d. wherever (not (eqb d 0)) (each_larger (kind_test d))) 36)
unfolding resource_at index_of larger resource_column
kinds_tested = tt

-- ---- the lowest position of a resource in the segment where it is listed
abbrev pub place_in : Resource → ℕ
place_in (Single s i) = position_of s i
place_in (Joined P106And26 i) = (i - 1) / 2
place_in (Joined P484And242 i) = cond (eqb i 1) 1 0
place_in (Joined P996And484 i) = cond (eqb i 1) 2 0
place_in (Joined P3x996 i) = 0
place_in (Joined P2x996And484 i) = cond (eqb i 1 || eqb i 7) 2 0
place_in (Joined P3x996And484 i) = cond (eqb i 1) 2 0

place_tested : T (below (λ q. every_own (λ x. eqb (place_in (resource_at q x)) q)) 4)
unfolding resource_at index_of is_piece from_positions position_of
place_tested = tt

abbrev lowest_test : ℕ → ℕ → Bool
lowest_test c q = wherever (eqb (q % span c) (lead c % 4)) (eqb (place_in (larger c q)) q)

lowests_tested : T (each_larger lowest_test)
unfolding resource_at index_of larger resource_column position_of lead least span mask takes kind_at kinds
lowests_tested = tt

module _ (c q : ℕ) (h : c < 36) (n : c ≢ 0) (l : q < 4) where
  pub larger_place : q % span c ≡ lead c % 4 → place_in (larger c q) ≡ q
  larger_place e =
      eqb→eq _ _
      (met (eqb (q % span c) (lead c % 4)) _ (at_larger lowest_test c q lowests_tested h n l) (holds _ (eq-eqb (q % span c) (lead c % 4) e)))

  pub larger_alike : (d : ℕ) → d < 36 → d ≢ 0 → alike (larger c q) (larger d q) ≡ eqb c d
  larger_alike d i m =
      let f = every_below (λ d. wherever (not (eqb d 0)) (each_larger (kind_test d))) 36 kinds_tested d i in
      agreed_tests _ _ (at_larger (kind_test d) c q (met (not (eqb d 0)) (each_larger (kind_test d)) f (other_than d m)) h n l)

  module _ (x : Piece) (o : Own x) where
    apart : T (not (alike (resource_at q x) (larger c q)) && not (alike (larger c q) (resource_at q x)))
    apart =
        at_own (λ x. not (alike (resource_at q x) (larger c q)) && not (alike (larger c q) (resource_at q x))) x
        (at_larger apart_test c q aparts_tested h n l) o

    pub piece_not_larger : alike (resource_at q x) (larger c q) ≡ false
    piece_not_larger = is_false _ (both_left (not (alike (resource_at q x) (larger c q))) _ apart)

    pub larger_not_piece : alike (larger c q) (resource_at q x) ≡ false
    larger_not_piece = is_false _ (both_right (not (alike (resource_at q x) (larger c q))) _ apart)

pub piece_place : (q : ℕ) (x : Piece) → q < 4 → Own x → place_in (resource_at q x) ≡ q
piece_place q x l o =
    eqb→eq _ _
    (at_own (λ x. eqb (place_in (resource_at q x)) q) x (every_below (λ q. every_own (λ x. eqb (place_in (resource_at q x)) q)) 4 place_tested q l) o)
