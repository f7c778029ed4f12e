-- Engine: what the roles of a segment's four values tell. The contracts of the code cite it; nobody has to believe it: `proofs/Told.antt`
-- shows that what they tell is a plan of the segment, and how many fields its resources have.
use Rattle.std.specs.Prelude.{◌≡◌, Bool, true, cond, ◌||◌, ◌&&◌, List, [], ◌∷◌, ℕ, ◌+◌, ◌*◌, ◌/◌, ◌%◌, ◌^◌, ◌≤◌, ◌<◌, ltb, leb, eqb, get_or}
use Rattle.std.specs.Int.Bits.{bit_and, bit_or}
use Rattle.kinds.specs.Kinds.{family, span, takes, must_name}
use Rattle.kinds.specs.Signals.{Place}
use Rattle.kinds.specs.Fields.{share, together}
use Rattle.segments.specs.Engine.{fitting}
use Rattle.roles.specs.declared.Settled.{Settled}

-- bit k of r
abbrev pub bit : ℕ → ℕ → ℕ
bit k r = r / 2 ^ k % 2

-- to what place j is given in a segment of which kind c has every place but those that it leaves out
unfoldable pub place_of : ℕ → ℕ → ℕ
place_of c j = cond (takes c (j % span c)) c 0

-- what a role r tells of the value v with f fields, where it says that the value may stand at place j with kind c
pub record Tells (v f r c j : ℕ) : Type 0 where
  pub fits : fitting (place_of c j) j v ≡ true
  -- the fields that it gives to a resource larger than its position
  pub wide : r / 2 ^ 56 ≡ cond (eqb c 0) 0 (share c j v)
  pub many : bit (8 + j) r ≡ cond (eqb (place_of c j) 0 && leb 2 (share 0 j v)) 1 0
  pub fields : r % 256 ≡ f
  pub names : 3 ≤ c → bit (9 + c) r ≡ 1 → (takes c j ≡ true) × (v / 8 ≡ family c)

pub record Role (v f r : ℕ) : Type 0 where
  pub tells : (c j : ℕ) → c < 7 → j < 4 → bit (16 + 8 * j + c) r ≡ 1 → Tells v f r c j
  pub low : r % 2 ^ 56 < 2 ^ 48
  pub most : r < 2 ^ 60

-- past the row: a role without fields, that may stand where it is given to itself
abbrev pub no_role : ℕ
no_role = 71610275528704

-- ---- the code's steps
unfoldable pub own_bits : ℕ → ℕ → ℕ → ℕ → ℕ
own_bits r0 r1 r2 r3 = bit 8 r0 + 2 * bit 9 r1 + 4 * bit 10 r2 + 8 * bit 11 r3

abbrev pub pair_table : List ℕ
pair_table = 0 ∷ 0 ∷ 0 ∷ 0 ∷ 0 ∷ 0 ∷ 17 ∷ 0 ∷ 0 ∷ 4352 ∷ 4369 ∷ []

unfoldable pub pair_kinds : ℕ → ℕ
pair_kinds i = get_or pair_table i 0

abbrev pub one_table : List ℕ
one_table = 0 ∷ 991778 ∷ 930608 ∷ 0 ∷ 869380 ∷ 0 ∷ 0 ∷ 0 ∷ 741461 ∷ 0 ∷ 0 ∷ 0 ∷ 0 ∷ 0 ∷ 0 ∷ 0 ∷ 460390 ∷ []

unfoldable pub one_kinds : ℕ → ℕ
one_kinds i = get_or one_table i 0

abbrev pub unsettled : Settled
unsettled = record { kinds = 0; marks = 65536 }

-- a plan with a resource over eight
abbrev pub over : ℕ → Settled
over k = record { kinds = k; marks = 131072 }

unfoldable pub by_pairs : ℕ → ℕ → ℕ → ℕ → Settled
by_pairs k own t u =
    cond (ltb 8 t || ltb 8 u) (over k) (record { kinds = k; marks = own + cond (leb 2 t) 3 0 + cond (leb 2 u) 12 0 })

-- it is no 484+242, or the one that is named
unfoldable pub named : ℕ → ℕ → Bool
named all names = eqb (all / 4 % 2) 1 || eqb (names / 4096 % 16) (all / 8 % 16)

unfoldable pub by_one : ℕ → ℕ → ℕ → ℕ → Settled
by_one all names own t =
    cond (eqb (one_kinds (all / 4 % 32)) 0) unsettled
    (cond (named all names)
    (cond (ltb 8 t) (over (one_kinds (all / 4 % 32) % 65536))
    (record { kinds = one_kinds (all / 4 % 32) % 65536; marks = own + cond (leb 2 t) (one_kinds (all / 4 % 32) / 65536) 0 })) unsettled)

-- what agrees in a pair: the roles x of its first place and y of its second, from their digits for these places on
abbrev pub lower_pair : ℕ → ℕ → ℕ
lower_pair x y = bit_and (x / 2 ^ 16) (y / 2 ^ 24)

abbrev pub upper_pair : ℕ → ℕ → ℕ
upper_pair x y = bit_and (x / 2 ^ 32) (y / 2 ^ 40)

abbrev pub all_four : ℕ → ℕ → ℕ → ℕ → ℕ
all_four r0 r1 r2 r3 = bit_and (lower_pair r0 r1) (upper_pair r2 r3)

unfoldable pub settle_of : ℕ → ℕ → ℕ → ℕ → Settled
settle_of r0 r1 r2 r3 =
    cond (eqb (all_four r0 r1 r2 r3 % 2) 1) (record { kinds = 0; marks = own_bits r0 r1 r2 r3 })
    (cond (eqb (pair_kinds (lower_pair r0 r1 % 4 + 4 * (upper_pair r2 r3 % 4))) 0)
    (by_one (all_four r0 r1 r2 r3) (bit_or (bit_or (bit_or r0 r1) r2) r3) (own_bits r0 r1 r2 r3) ((r0 + r1) / 2 ^ 56 + (r2 + r3) / 2 ^ 56))
    (by_pairs (pair_kinds (lower_pair r0 r1 % 4 + 4 * (upper_pair r2 r3 % 4))) (own_bits r0 r1 r2 r3) ((r0 + r1) / 2 ^ 56) ((r2 + r3) / 2 ^ 56)))

-- ---- what they come to: four values v by their places, given to the kinds k, with the marks m
abbrev pub kind_in : ℕ → ℕ → ℕ
kind_in k j = k / 16 ^ j % 16

-- the fields of the resource of place j
abbrev pub total_in : ℕ → (ℕ → ℕ) → ℕ → ℕ
total_in k v j = together (kind_in k j) v j

-- the mark of a resource of t fields: "two or more fields over both channels together"
abbrev pub mark : ℕ → ℕ
mark t = cond (leb 2 t) 1 0

-- a plan, with any number of fields
pub record Given (v : ℕ → ℕ) (k : ℕ) : Type 0 where
  pub fit : (j : ℕ) → j < 4 → fitting (kind_in k j) j (v j) ≡ true
  pub low : (j : ℕ) → j < 4 → kind_in k j < 7
  pub entire : (j i : ℕ) → j < 4 → i < 4 → Place (kind_in k j) j i → kind_in k i ≡ kind_in k j
  pub named : (j : ℕ) → j < 4 → must_name (kind_in k j) ≡ true
      → (i : ℕ) × (i < 4) × Place (kind_in k j) j i × (v i / 8 ≡ family (kind_in k j))

-- with at most eight on each resource, and the marks
pub record Segment (v : ℕ → ℕ) (k m : ℕ) : Type 0 where
  pub given : Given v k
  pub eight : (j : ℕ) → j < 4 → total_in k v j ≤ 8
  pub marks : m ≡ mark (total_in k v 0) + 2 * mark (total_in k v 1) + 4 * mark (total_in k v 2) + 8 * mark (total_in k v 3)

-- with over eight on one
pub record Past (v : ℕ → ℕ) (k : ℕ) : Type 0 where
  pub given : Given v k
  pub past : (j : ℕ) × (j < 4) × (8 < total_in k v j)
