-- Of how many User fields of its resource each is one, and which (01, "What a plan is": "A resource's fields are those of all its places, channel
-- 1's first").
--
-- The fields of a row are taken in the order of their words, "one per User field, channel 1 first" (01, "What comes back"): x and y number them so.
use Rattle.std.specs.Prelude.{◌≡◌, cond, List, ℕ, ◌+◌, ◌-◌, eqb, ltb, length}
use Rattle.answer.specs.Lists.{at}
use Rattle.answer.specs.Tally.{tally}
use Rattle.records.specs.Records.{records_of}
use Rattle.records.specs.Owns.{fields_before}
use Rattle.records.specs.Demand.{resource_in}
use Rattle.records.specs.FieldsOf.{fields_on, FieldOf, word_of}
use Rattle.records.specs.Worked.{the_owner}

-- how many fields the row gives channel c
abbrev pub fields_in : ℕ → List ℕ → ℕ
fields_in c row = fields_before c (at row) (length row)

-- the number of the resource that owns field x
unfoldable pub owner_in : List ℕ → ℕ → ℕ
owner_in row x = cond (ltb x (fields_in 1 row)) (the_owner row 1 x) (the_owner row 2 (x - fields_in 1 row))

-- how many of the first n fields resource i owns
abbrev pub owned_by : List ℕ → ℕ → ℕ → ℕ
owned_by row i n = tally (λ y. eqb (owner_in row y) i) n

-- how many fields the resource of field x has, "over both channels together"
unfoldable pub users_of : List ℕ → ℕ → ℕ
users_of row x = owned_by row (owner_in row x) (fields_in 1 row + fields_in 2 row)

-- which of them x is, from 0: as many come before it
unfoldable pub turn_of : List ℕ → ℕ → ℕ
turn_of row x = owned_by row (owner_in row x) x

-- In a plan o that signals the row: field j of channel c, which resource i owns, is that one of its fields (`FieldOf`), and the resource has as many
-- as its record says.
pub record TurnIs (o : ℕ → ℕ) (row : List ℕ) (i c j : ℕ) : Type 0 where
  pub turn : FieldOf o (at row) (length row) i (turn_of row (word_of (at row) (length row) c j)) c j
  pub users : users_of row (word_of (at row) (length row) c j) ≡ fields_on (resource_in (records_of o row) i)
