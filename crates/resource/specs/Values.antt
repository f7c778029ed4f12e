-- What each value of the RU Allocation subfield says (01, "Values of the RU Allocation subfield").
use Rattle.std.specs.Prelude.{Bool, true, false, cond, not, ◌&&◌, ◌||◌, List, [], ◌∷◌, ◌++◌, ℕ, ◌+◌, ◌/◌, ◌%◌, ◌^◌, ltb, leb, eqb, length}
use Rattle.resource.specs.declared.Size.TheVariants.{S26, S52, S106, S242}
use Rattle.resource.specs.declared.Piece.{Piece}
use Rattle.resource.specs.declared.Piece.TheVariants.{Part, With26}

abbrev pub between : ℕ → ℕ → ℕ → Bool
between a b v = leb a v && leb v b

-- the values that 01 lists, and "the published values from 88 up" (02, T-07): 88 to 95 and 128 to 303; "All else isn't carried"
unfoldable pub carried : ℕ → Bool
carried v = leb v 30 || eqb v 48 || eqb v 50 || between 64 303 v

-- bit k of a value is set
abbrev pub set_at : ℕ → ℕ → Bool
set_at k v = eqb (v / 2 ^ k % 2) 1

-- "the four quarter slots (1 and 2, 3 and 4, 6 and 7, 8 and 9 of nine 26s) each are two 26s or one 52": slot s, from 1, whose 26s
-- are the i-th and the one after
abbrev pub slot : ℕ → ℕ → Bool → List Piece
slot s i true = Part S52 s ∷ []
slot s i false = Part S26 i ∷ Part S26 (i + 1) ∷ []

abbrev pub first : Bool → List Piece
first t = slot 1 1 t

abbrev pub second : Bool → List Piece
second t = slot 2 3 t

abbrev pub middle : List Piece
middle = Part S26 5 ∷ []

abbrev pub third : Bool → List Piece
third t = slot 3 6 t

abbrev pub fourth : Bool → List Piece
fourth t = slot 4 8 t

abbrev pub lower106 : List Piece
lower106 = Part S106 1 ∷ []

abbrev pub upper106 : List Piece
upper106 = Part S106 2 ∷ []

-- the pieces of the values that "give one field to each of their pieces, in rising frequency": 0 to 25, 48 and 50
unfoldable pub pieces : ℕ → List Piece
pieces v =
    -- "0 to 15: .. bit 3 set makes the first slot 52, bit 2 the second, bit 1 the third, bit 0 the fourth; the middle 26 is always there"
    cond (ltb v 16) (first (set_at 3 v) ++ second (set_at 2 v) ++ middle ++ third (set_at 1 v) ++ fourth (set_at 0 v))
    -- "16 to 19: the lower half as two slots (bit 1 first, bit 0 second), the middle 26, then 106"
    (cond (ltb v 20) (first (set_at 1 v) ++ second (set_at 0 v) ++ middle ++ upper106)
    -- "20 to 23: 106, middle 26, then two slots (bit 1 first, bit 0 second)"
    (cond (ltb v 24) (lower106 ++ middle ++ third (set_at 1 v) ++ fourth (set_at 0 v))
    -- "24: 52 52 52 52, middle unused"
    (cond (eqb v 24) (first true ++ second true ++ third true ++ fourth true)
    -- "25: 106 26 106"
    (cond (eqb v 25) (lower106 ++ middle ++ upper106)
    -- "48: 106+26 (lower), 106. 50: 106, 106+26 (upper)"
    (cond (eqb v 48) (With26 1 ∷ upper106) (cond (eqb v 50) (lower106 ++ (With26 2 ∷ [])) []))))))

-- how many User fields a value gives its channel: one to each of its pieces; from 64 up "1 to 8 fields", by the lowest three bits; a
-- punctured (26) or unassigned (27) position and a place with no field here (28, 29, 30) none
unfoldable pub fields_of : ℕ → ℕ
fields_of v = cond (ltb v 64) (length (pieces v)) (cond (carried v) (v % 8 + 1) 0)

-- the value divides its position into smaller pieces
unfoldable pub divides : ℕ → Bool
divides v = not (eqb (length (pieces v)) 0)

-- the fields of each piece of a position that is given to itself: "Values 0 to 25, 48 and 50 give one field to each of their pieces"; a
-- whole 242 has all of its value's, 28 none
unfoldable pub piece_fields : ℕ → ℕ
piece_fields v = cond (divides v) 1 (fields_of v)

-- the pieces of a position that is given to itself: 28 and 64 to 71 leave it whole, a 242
unfoldable pub own_pieces : ℕ → List Piece
own_pieces v = cond (eqb v 28 || between 64 71 v) (Part S242 1 ∷ []) (pieces v)

-- the values of a position "to itself" that do not leave it whole, and of one of which nothing is used: those up to 27, 48 and 50.
-- "48 isn't allowed in a fourth position nor 50 in a third": v at place j of its segment
unfoldable pub smaller_at : ℕ → ℕ → Bool
smaller_at j v = leb v 27 || eqb v 48 && not (eqb j 3) || eqb v 50 && not (eqb j 2)

-- the family of a value, eight values each: "64 to 71", "72 to 79", ..
abbrev pub family_of : ℕ → ℕ
family_of v = v / 8
