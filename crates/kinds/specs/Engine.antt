-- Engine: which kind a value names. The contracts of the code cite it; nobody has to believe it: `proofs/Table.antt`.
use Rattle.std.specs.Prelude.{Bool, true, false, cond, not, ◌&&◌, ◌||◌, ℕ, ◌+◌, ◌-◌, ◌*◌, ◌/◌, ◌%◌, ◌^◌, ltb, leb, eqb}
use Rattle.answer.specs.Least.{least}
use Rattle.resource.specs.Values.{fields_of}
use Rattle.kinds.specs.Kinds.{none, family, span, takes, must_name}

-- among how many positions the name of a resource of kind c is sought; 0 where it needs none
unfoldable pub sought : ℕ → ℕ
sought c = cond (must_name c) (span c) 0

-- the first kind that has the family f
unfoldable pub kind_of : ℕ → ℕ
kind_of f = least (λ c. eqb (family c) f) none

-- the kind, of those sought among n positions, that the value names
unfoldable pub name_of : ℕ → ℕ → ℕ
name_of n v = cond (eqb (sought (kind_of (v / 8))) n) (kind_of (v / 8)) none

-- Kinds 24 to 29 and 30 to 35, the 2x996+484, have their families in common. Of the two with one family, one leaves out a
-- pair of a segment that the other has whole: the first place of that pair.
unfoldable pub tell_tale : ℕ → ℕ
tell_tale c = cond (ltb c 26) (2 * (c - 24) + 4) (2 * (c - 24))

-- a place of c, in a segment wholly its own, may hold v
unfoldable pub whole_or : ℕ → ℕ → Bool
whole_or c v = eqb v 30 || eqb (v / 8) (family c)

abbrev pub alike : Bool → Bool → Bool
alike true t = t
alike false t = not t

-- the kind c or the other of its family, whichever has the telltale place as the row shows; v is the value there
unfoldable pub sided : ℕ → ℕ → ℕ
sided c v = cond (alike (whole_or c v) (takes c (tell_tale c))) c (c + 6)

-- which kind is meant where one of the positions from b on names c
unfoldable pub settled : (ℕ → ℕ) → ℕ → ℕ → ℕ
settled row b c = cond (leb 24 c && ltb c 30) (sided c (row (b + tell_tale c))) c

-- the fields that the value v at place j gives to a resource with these places and this family
unfoldable pub place_share : ℕ → ℕ → ℕ → ℕ → ℕ
place_share places own j v = cond (eqb (places / 2 ^ j % 2) 1 && eqb (v / 8) own) (fields_of v) 0
