-- The list of a plan's resources (01, "What a plan is"), for any plan o.
use Rattle.std.specs.Prelude.{cond, List, [], ◌∷◌, ◌++◌, map, ℕ, zero, suc, ◌+◌, ◌/◌, ◌%◌, eqb, ℤ, length, get_or}
use Rattle.answer.specs.Least.{least}
use Rattle.answer.specs.Lists.{at}
use Rattle.resource.specs.declared.Size.TheVariants.{S26, S242, S484, S996, S2x996}
use Rattle.resource.specs.declared.Piece.{Piece}
use Rattle.resource.specs.declared.Piece.TheVariants.{Part}
use Rattle.resource.specs.declared.Resource.{Resource}
use Rattle.resource.specs.declared.Resource.TheVariants.{Single}
use Rattle.resource.specs.Values.{piece_fields, own_pieces}
use Rattle.resource.specs.Index.{resource_at, leaving_out, the996_and484, the3x996, the2x996_and484, the3x996_and484}
use Rattle.resource.specs.Tones.{tones_of, Among, RightSpans}
use Rattle.kinds.specs.Kinds.{itself, span, takes}
use Rattle.kinds.specs.Fields.{fields_in}
use Rattle.records.specs.declared.Record.{Record}

-- "Content channel 1 holds the even positions, channel 2 the odd ones": f where position p is channel c's
abbrev pub in_channel : ℕ → ℕ → ℕ → ℕ
in_channel c p f = cond (eqb (p % 2 + 1) c) f 0

-- ---- a position that is given to itself
abbrev pub piece_record : (ℕ → ℕ) → ℕ → Piece → Record
piece_record row p x = record {
  resource = resource_at (p % 4) x;
  segment = p / 4;
  position = p;
  fields1 = in_channel 1 p (piece_fields (row p));
  fields2 = in_channel 2 p (piece_fields (row p));
}

-- ---- a larger resource
-- the lowest of its places among its span
unfoldable pub lead : ℕ → ℕ
lead c = least (takes c) (span c)

-- one column more of the table of kinds, by line: the resource at position q of its segment, with its index; of one wider than a
-- segment (02, T-07), in its own span
unfoldable pub resource_column : ℕ → List Resource
resource_column q =
    resource_at q (Part S242 1)
    ∷ resource_at q (Part S484 1)
    ∷ resource_at q (Part S996 1)
    ∷ leaving_out 0
    ∷ leaving_out 1
    ∷ leaving_out 2
    ∷ leaving_out 3
    ∷ resource_at q (Part S2x996 1)
    ∷ the996_and484 0
    ∷ the996_and484 1
    ∷ the996_and484 2
    ∷ the996_and484 3
    ∷ the3x996 0
    ∷ the3x996 1
    ∷ the3x996 2
    ∷ the3x996 3
    ∷ the3x996_and484 0
    ∷ the3x996_and484 1
    ∷ the3x996_and484 2
    ∷ the3x996_and484 3
    ∷ the3x996_and484 4
    ∷ the3x996_and484 5
    ∷ the3x996_and484 6
    ∷ the3x996_and484 7
    ∷ the2x996_and484 0
    ∷ the2x996_and484 1
    ∷ the2x996_and484 2
    ∷ the2x996_and484 3
    ∷ the2x996_and484 4
    ∷ the2x996_and484 5
    ∷ the2x996_and484 6
    ∷ the2x996_and484 7
    ∷ the2x996_and484 8
    ∷ the2x996_and484 9
    ∷ the2x996_and484 10
    ∷ the2x996_and484 11
    ∷ []

-- that of kind c
unfoldable pub larger : ℕ → ℕ → Resource
larger c q = get_or (resource_column q) c (Single S26 0)

-- "A resource's fields are those of all its places"
abbrev pub larger_record : ℕ → (ℕ → ℕ) → ℕ → Record
larger_record c row p = record {
  resource = larger c (p % 4);
  segment = p / 4;
  position = p;
  fields1 = fields_in 1 c row p;
  fields2 = fields_in 2 c row p;
}

-- listed at its lowest position alone
abbrev pub once : ℕ → (ℕ → ℕ) → ℕ → List Record
once c row p = cond (eqb (p % span c) (lead c)) (larger_record c row p ∷ []) []

-- ---- "A plan lists resources by lowest position, then frequency; 26 and 27 are none; 28 by itself is a 242 with no field"
-- the resources whose lowest position is p, which is given to c
unfoldable pub list_at : ℕ → (ℕ → ℕ) → ℕ → List Record
list_at c row p = cond (eqb c itself) (map (piece_record row p) (own_pieces (row p))) (once c row p)

-- those of the first n positions
abbrev pub records_from : (ℕ → ℕ) → (ℕ → ℕ) → ℕ → List Record
records_from o row zero = []
records_from o row (suc n) = records_from o row n ++ list_at (o n) row n

abbrev pub records_of : (ℕ → ℕ) → List ℕ → List Record
records_of o row = records_from o (at row) (length row)

-- k is one of the resource's subcarriers, in a channel of n positions
abbrev pub HasTone : ℕ → Record → ℤ → Type 0
HasTone n r k = Among k (tones_of n r.segment r.resource)

-- the 242 at position q
abbrev pub the242 : ℕ → Resource
the242 q = resource_at (q % 4) (Part S242 1)

abbrev pub In242 : ℕ → ℕ → ℤ → Type 0
In242 n q k = Among k (tones_of n (q / 4) (the242 q))

-- "A punctured position takes its 242's subcarriers"
abbrev pub Punctured : ℕ → ℕ → ℤ → Type 0
Punctured n q k = In242 n q k

-- what stands past the last resource
abbrev pub blank : Record
blank = record { resource = Single S26 0; segment = 0; position = 0; fields1 = 0; fields2 = 0 }

-- its subcarriers are as many as its name says, in rising maximal runs
abbrev pub RightRecord : ℕ → Record → Type 0
RightRecord n r = RightSpans r.resource (tones_of n r.segment r.resource)
