-- The User fields of a resource, and "at most eight User fields on each resource".
use Rattle.std.specs.Prelude.{Bool, cond, ◌&&◌, ℕ, zero, suc, ◌+◌, ◌*◌, ◌/◌, ◌%◌, ◌≤◌, ◌<◌, eqb, leb}
use Rattle.resource.specs.Values.{fields_of}
use Rattle.kinds.specs.Kinds.{family, span, takes}

-- position p is a place of the resource of kind c, and v is of the resource's own family
unfoldable pub gives : ℕ → ℕ → ℕ → Bool
gives c p v = takes c (p % span c) && eqb (v / 8) (family c)

-- the fields that the value v at position p gives to the resource: "each with 1 to 8 fields"
unfoldable pub share : ℕ → ℕ → ℕ → ℕ
share c p v = cond (gives c p v) (fields_of v) 0

-- "Content channel 1 holds the even positions, channel 2 the odd ones"
abbrev pub channel_share : ℕ → ℕ → ℕ → ℕ → ℕ
channel_share x c p v = cond (eqb (p % 2 + 1) x) (share c p v) 0

-- channel x's over the first n positions from b on
abbrev pub shares : ℕ → ℕ → (ℕ → ℕ) → ℕ → ℕ → ℕ
shares x c row b zero = 0
shares x c row b (suc n) = shares x c row b n + channel_share x c (b + n) (row (b + n))

-- "A resource's fields are those of all its places": channel x's, of the resource of kind c that lies at p
unfoldable pub fields_in : ℕ → ℕ → (ℕ → ℕ) → ℕ → ℕ
fields_in x c row p = shares x c row (span c * (p / span c)) (span c)

-- over both channels together. The pieces of a position, with one field each, are not counted here.
abbrev pub together : ℕ → (ℕ → ℕ) → ℕ → ℕ
together c row p = fields_in 1 c row p + fields_in 2 c row p

abbrev pub Eight : (ℕ → ℕ) → (ℕ → ℕ) → ℕ → ℕ → Type 0
Eight o row a b = (p : ℕ) → a ≤ p → p < b → together (o p) row p ≤ 8

-- "Where the resource has two or more fields over both channels together": position p's fields share their resource
abbrev pub shared : (ℕ → ℕ) → (ℕ → ℕ) → ℕ → Bool
shared o row p = leb 2 (together (o p) row p)

-- "A channel's User fields follow its values in rising position": how many channel c has of the first n positions
abbrev pub fields_to : ℕ → (ℕ → ℕ) → ℕ → ℕ
fields_to c row zero = 0
fields_to c row (suc n) = fields_to c row n + cond (eqb (n % 2 + 1) c) (fields_of (row n)) 0
