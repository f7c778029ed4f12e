-- The kinds of resource that a position can be given to (01, "What a plan is"; 02, T-07), as data.
use Rattle.std.specs.Prelude.{List, [], ◌∷◌, Bool, cond, not, ◌||◌, ℕ, ◌-◌, ◌*◌, ◌/◌, ◌%◌, ◌^◌, ltb, eqb, get_or}
use Rattle.resource.specs.Places.{all, single, pair, segment}

-- A kind: its own family of values, v / 8; its span, how many positions it lies among, which begin at a multiple of their
-- number; and which of these, counted from 0, are its places: a number that has the bit j where place j is its own.
pub data Kind : Type 0 where
  kind : (family span mask : ℕ) → Kind

-- The table. A kind is known by its line, from 0.
-- 01's: line 0 is the position itself, "64 to 71: 242"; "72 to 79: 484" "on the lower or upper pair"; "80 to 87: 996" "on all four";
-- "96 to 103, 104 to 111, 112 to 119, 120 to 127: 484+242 leaving out the first, second, third, fourth position", "on three of four".
-- Then those wider than a segment (02, T-07), "the published values from 88 up with their published meaning" (000, RU Allocation table).
unfoldable pub kinds : List Kind
kinds =
    kind 8 1 (all 1)
    ∷ kind 9 2 (all 2)
    ∷ kind 10 4 (all 4)
    ∷ kind 12 4 (all 4 - single 0)
    ∷ kind 13 4 (all 4 - single 1)
    ∷ kind 14 4 (all 4 - single 2)
    ∷ kind 15 4 (all 4 - single 3)
    -- 88 to 95: 2x996
    ∷ kind 11 8 (all 8)
    -- 128 to 159: 996+484, leaving out a pair
    ∷ kind 16 8 (all 8 - pair 0)
    ∷ kind 17 8 (all 8 - pair 1)
    ∷ kind 18 8 (all 8 - pair 2)
    ∷ kind 19 8 (all 8 - pair 3)
    -- 160 to 191: 3x996, leaving out a segment
    ∷ kind 20 16 (all 16 - segment 0)
    ∷ kind 21 16 (all 16 - segment 1)
    ∷ kind 22 16 (all 16 - segment 2)
    ∷ kind 23 16 (all 16 - segment 3)
    -- 192 to 255: 3x996+484, leaving out a pair
    ∷ kind 24 16 (all 16 - pair 0)
    ∷ kind 25 16 (all 16 - pair 1)
    ∷ kind 26 16 (all 16 - pair 2)
    ∷ kind 27 16 (all 16 - pair 3)
    ∷ kind 28 16 (all 16 - pair 4)
    ∷ kind 29 16 (all 16 - pair 5)
    ∷ kind 30 16 (all 16 - pair 6)
    ∷ kind 31 16 (all 16 - pair 7)
    -- 256 to 303: 2x996+484, in the lower three segments, leaving out a pair of these
    ∷ kind 32 16 (all 16 - segment 3 - pair 0)
    ∷ kind 33 16 (all 16 - segment 3 - pair 1)
    ∷ kind 34 16 (all 16 - segment 3 - pair 2)
    ∷ kind 35 16 (all 16 - segment 3 - pair 3)
    ∷ kind 36 16 (all 16 - segment 3 - pair 4)
    ∷ kind 37 16 (all 16 - segment 3 - pair 5)
    -- and, by the same values, in the upper three
    ∷ kind 32 16 (all 16 - segment 0 - pair 2)
    ∷ kind 33 16 (all 16 - segment 0 - pair 3)
    ∷ kind 34 16 (all 16 - segment 0 - pair 4)
    ∷ kind 35 16 (all 16 - segment 0 - pair 5)
    ∷ kind 36 16 (all 16 - segment 0 - pair 6)
    ∷ kind 37 16 (all 16 - segment 0 - pair 7)
    ∷ []

-- the position itself; and from here on a number is no kind: it has no place, and fits no value
abbrev pub itself : ℕ
itself = 0

abbrev pub none : ℕ
none = 36

unfoldable pub kind_at : ℕ → Kind
kind_at c = get_or kinds c (kind 0 0 0)

abbrev pub family_in : Kind → ℕ
family_in (kind f s m) = f

abbrev pub span_in : Kind → ℕ
span_in (kind f s m) = s

abbrev pub mask_in : Kind → ℕ
mask_in (kind f s m) = m

unfoldable pub family : ℕ → ℕ
family c = family_in (kind_at c)

unfoldable pub span : ℕ → ℕ
span c = span_in (kind_at c)

unfoldable pub mask : ℕ → ℕ
mask c = mask_in (kind_at c)

-- place j, of the positions that c lies among, is its own
unfoldable pub takes : ℕ → ℕ → Bool
takes c j = eqb (mask c / 2 ^ j % 2) 1

-- the aligned block of n places around place j is all its own
unfoldable pub takes_block : ℕ → ℕ → ℕ → Bool
takes_block c n j = eqb (mask c / 2 ^ (n * (j / n)) % 2 ^ n) (2 ^ n - 1)

-- the value at place j "with no field", one rule for every kind: around the place the largest aligned block of 4, 2 or 1
-- places that are all the resource's, 30, 29 or 28. So 28 for the position's own 242, "29 or 72 to 79", "30 or 80 to 87", of a
-- 484+242 "29 on its whole pair and 28 on its single position" (`proofs/Ranges.antt`: these sentences), and of a wider one "30 in a
-- segment wholly its own, 29 on a pair, 28 on a single position".
unfoldable pub blank_at : ℕ → ℕ → ℕ
blank_at c j = cond (takes_block c 4 j) 30 (cond (takes_block c 2 j) 29 28)

-- "with at least one place in its own family": asked of a resource that leaves out a place of its span; and "A resource wider than a
-- segment .. has at least one place with its own value" (02, T-07)
unfoldable pub must_name : ℕ → Bool
must_name c = ltb 4 (span c) || not (eqb (mask c) (all (span c)))
