-- Engine: how the code numbers the resources of a plan and finds the owner of a field. The contracts of the code cite it; nobody has to believe
-- it: `proofs/Tables.antt`, `proofs/Owners.antt`.
use Rattle.std.specs.Prelude.{cond, List, ℕ, zero, suc, ◌+◌, ◌-◌, ◌*◌, ◌/◌, ◌%◌, ◌^◌, ltb, leb, eqb, length, replicate}
use Rattle.answer.specs.Lists.{filled, at}
use Rattle.resource.specs.declared.Run.{Run}
use Rattle.resource.specs.Values.{divides, own_pieces}
use Rattle.resource.specs.Engine.{places_runs, spread_runs}
use Rattle.kinds.specs.Kinds.{span, itself, mask}
use Rattle.plan.specs.Engine.{only_plan}
use Rattle.records.specs.Records.{lead, records_from}
use Rattle.records.specs.Owns.{fields_before, number}

-- ---- how the program finds the owner: `proofs/Owners.antt` shows that it is the one that owns the field
-- the lowest place of the resource of kind c that lies at p
unfoldable pub lowest : ℕ → ℕ → ℕ
lowest c p = span c * (p / span c) + lead c

-- the owner of the k-th field of position p
unfoldable pub owner_at : (ℕ → ℕ) → (ℕ → ℕ) → ℕ → ℕ → ℕ
owner_at o row p k = cond (divides (row p)) (number o row p k) (number o row (lowest (o p) p) 0)

-- the owner of field j of channel c, among the first n positions; 144 for none
unfoldable pub owner_of : (ℕ → ℕ) → (ℕ → ℕ) → ℕ → ℕ → ℕ → ℕ
owner_of o row c zero j = 144
owner_of o row c (suc n) j =
    cond (ltb j (fields_before c row n)) (owner_of o row c n j)
    (cond (ltb j (fields_before c row (suc n))) (owner_at o row n (j - fields_before c row n)) 144)

-- the places of one no wider than a segment among the four positions there, bit j for place j, where it lies at position p: those of its span,
-- from where that begins
unfoldable pub places_of : ℕ → ℕ → ℕ
places_of c p = mask c * 2 ^ (span c * (p / span c) % 4)

-- the runs of the larger resource of kind c that lies at position p: by its places in its segment, or in the segments of its span
unfoldable pub larger_runs : ℕ → ℕ → List Run
larger_runs c p =
    cond (leb (span c) 4) (places_runs (4 * (p / 4)) (places_of c p)) (spread_runs (span c * (p / span c)) (mask c) (span c / 4))

-- ---- how the program counts: `proofs/` shows that it is the list's
-- how many are listed at p
unfoldable pub listed : ℕ → ℕ → ℕ → ℕ
listed c p v = cond (eqb c itself) (length (own_pieces v)) (cond (eqb (p % span c) (lead c)) 1 0)

-- for each position of the row r, how many resources have a lower one for their lowest; then how many there are
unfoldable pub numbers_of : List ℕ → List ℕ
numbers_of r = filled (λ p. length (records_from (only_plan (at r)) (at r) p)) (length r + 1) (replicate 17 0)
