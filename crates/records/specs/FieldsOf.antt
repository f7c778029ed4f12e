-- The User fields of a resource, for any plan o: those that it owns (01, "What a plan is": "A resource's fields are those of all its places, channel
-- 1's first").
use Rattle.std.specs.Prelude.{◌≡◌, cond, List, ℕ, ◌+◌, ◌≤◌, ◌<◌, eqb, length}
use Rattle.kinds.specs.Fields.{Eight}
use Rattle.records.specs.declared.Record.{Record}
use Rattle.records.specs.Owns.{fields_before, Owns, Counts}
use Rattle.records.specs.Demand.{resource_in}

-- a resource's fields "over both channels together", as its record says
abbrev pub fields_on : Record → ℕ
fields_on x = x.fields1 + x.fields2

-- ---- how many: resource i owns m of channel 1's fields and m' of channel 2's
pub record OwnsMany (o row : ℕ → ℕ) (n i m m' : ℕ) : Type 0 where
  pub of_1 : Counts (Owns o row n i 1) (fields_before 1 row n) m
  pub of_2 : Counts (Owns o row n i 2) (fields_before 2 row n) m'

-- "at most eight User fields on each resource", over both channels: of those that it owns
abbrev pub EightOwned : (ℕ → ℕ) → (ℕ → ℕ) → ℕ → ℕ → Type 0
EightOwned o row n i = (m m' : ℕ) → OwnsMany o row n i m m' → m + m' ≤ 8

-- the count that 8 looks at, `Eight`, is that of the fields that each resource of the plan owns
pub record AtMostEight (o row : ℕ → ℕ) (n : ℕ) (rs : List Record) : Type 0 where
  pub owned : Eight o row 0 n → (i : ℕ) → i < length rs → EightOwned o row n i
  pub counted : ((i : ℕ) → i < length rs → EightOwned o row n i) → Eight o row 0 n

-- ---- which: field j of channel c is the t-th of resource i, from 0, if i owns it and owns t that come before it, "channel 1's first"
pub data FieldOf (o row : ℕ → ℕ) (n i t : ℕ) : ℕ → ℕ → Type 0 where
  in_1 : (j : ℕ) → Owns o row n i 1 j → Counts (Owns o row n i 1) j t → FieldOf o row n i t 1 j
  in_2 : (j m m' : ℕ) → Owns o row n i 2 j → Counts (Owns o row n i 1) (fields_before 1 row n) m → Counts (Owns o row n i 2) j m' → t ≡ m + m'
      → FieldOf o row n i t 2 j

-- the number, from 0, of its User word: "one per User field, channel 1 first"
abbrev pub word_of : (ℕ → ℕ) → ℕ → ℕ → ℕ → ℕ
word_of row n c j = cond (eqb c 1) j (fields_before 1 row n + j)

pub record Turns (o row : ℕ → ℕ) (n : ℕ) (rs : List Record) : Type 0 where
  -- a resource with so many fields has a t-th for each t below their number, and for no other
  pub each : (i t : ℕ) → i < length rs → t < fields_on (resource_in rs i) → (c : ℕ) × (j : ℕ) × FieldOf o row n i t c j
  pub within : (i t c j : ℕ) → i < length rs → FieldOf o row n i t c j → t < fields_on (resource_in rs i)
  -- one field for each t, one t for each field that it owns
  pub one_field : (i t c j c' j' : ℕ) → FieldOf o row n i t c j → FieldOf o row n i t c' j' → (c ≡ c') × (j ≡ j')
  pub each_owned : (i c j : ℕ) → Owns o row n i c j → (t : ℕ) × FieldOf o row n i t c j
  pub one_turn : (i t t' c j : ℕ) → FieldOf o row n i t c j → FieldOf o row n i t' c j → t ≡ t'
  -- and their User words come in that order
  pub words_follow : (i t t' c j c' j' : ℕ) → FieldOf o row n i t c j → FieldOf o row n i t' c' j' → t < t' → word_of row n c j < word_of row n c' j'
