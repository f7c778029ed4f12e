-- 02, T-14: "We sweep by altering a single 20 MHz. Show this: in an accepted row, replace one value among 0 to 27, 48, 50 and 64 to 71 by another
-- of these that its position allows. The row stays accepted, and every resource at other positions keeps its subcarriers and its number of
-- fields. Nothing is claimed of 28, which may belong to a 484+242."
--
-- A plan is `kinds`' `Signals`, whatever resources it has: nothing here says how wide one is. Its resources are `records`' `records_of`, and whose a
-- User field is says `Owns`. That a row is accepted is `SomePlanOfEight`; of channels that carry it, `Rows.antt`: `CarryRow`. Calls of `reader::read`
-- are `Calls.antt`'s: all that its contract allows.
use Rattle.std.specs.Prelude.{◌≡◌, ◌≢◌, Bool, true, cond, ◌||◌, List, [], ◌∷◌, map, ℕ, ◌+◌, ◌%◌, ◌<◌, leb, eqb, length, set}
use Rattle.answer.specs.Answer.{no}
use Rattle.std.specs.Prelude.{Err}
use Rattle.answer.specs.Lists.{at}
use Rattle.answer.specs.declared.Refusal.TheVariants.{NoPlan}
use Rattle.bits.specs.Bits.{field}
use Rattle.resource.specs.Values.{between, smaller_at, fields_of, own_pieces}
use Rattle.resource.specs.Tones.{Span, tones_of}
use Rattle.kinds.specs.Kinds.{itself}
use Rattle.kinds.specs.Signals.{Signals}
use Rattle.plan.specs.Answers.{SomePlanOfEight, Laid}
use Rattle.channel.specs.Layout.{count, user_at}
use Rattle.records.specs.declared.Record.{Record}
use Rattle.records.specs.Records.{in_channel, records_of}
use Rattle.records.specs.Owns.{ComesFrom}
use Rattle.records.specs.Demand.{resource_in}
use Rattle.listed.specs.Listing.{record_line}
use Rattle.claims.specs.Calls.{Call, Reads}
use Rattle.claims.specs.Formats.{OwnsIn}
use Rattle.claims.specs.Rows.{CarryRow}

-- "one value among 0 to 27, 48, 50 and 64 to 71"
abbrev pub swept : ℕ → Bool
swept v = leb v 27 || eqb v 48 || eqb v 50 || between 64 71 v

-- "another of these that its position allows": at position p, "48 isn't allowed in a fourth position nor 50 in a third" (01)
abbrev pub swept_at : ℕ → ℕ → Bool
swept_at p v = smaller_at (p % 4) v || between 64 71 v

-- "in an accepted row, replace one value": that at position p, by v. The new row is `set row p v`.
pub record Sweeps (row : List ℕ) (p v : ℕ) : Type 0 where
  pub accepted : SomePlanOfEight row 0 (length row)
  pub inside : p < length row
  pub old : swept (at row p) ≡ true
  pub new : swept_at p v ≡ true

-- o is a plan of the row
abbrev pub PlanOf : List ℕ → (ℕ → ℕ) → Type 0
PlanOf row o = Signals o (at row) 0 (length row)

-- ---- "every resource at other positions"
-- those whose lowest position is not p: a resource that has p among others there is none (`its_own`)
abbrev pub elsewhere : ℕ → List Record → List Record
elsewhere p [] = []
elsewhere p (r ∷ rs) = cond (eqb r.position p) (elsewhere p rs) (r ∷ elsewhere p rs)

-- its subcarriers, in a channel of n positions
abbrev pub tones_in : ℕ → Record → List Span
tones_in n r = tones_of n r.segment r.resource

-- a plan o of the row, and a plan o' of the row after the sweep
pub record Keeps (row row' : List ℕ) (p : ℕ) (o o' : ℕ → ℕ) : Type 0 where
  pub same_plan : (q : ℕ) → q < length row → o q ≡ o' q
  pub its_own : o p ≡ itself
  -- one list, in one order: each resource with its index, its segment, its lowest position and "its number of fields" in each channel ..
  pub same_resources : elsewhere p (records_of o row) ≡ elsewhere p (records_of o' row')
  -- .. and "its subcarriers"
  pub same_tones : map (tones_in (length row)) (elsewhere p (records_of o row)) ≡ map (tones_in (length row')) (elsewhere p (records_of o' row'))

-- ---- the User fields of other positions: of the rows, and so of all channels that carry them (`Carries`)
-- field j of channel c of the one row and field j' of the other are the k-th of one position q, which is not p
pub record SameField (row row' : List ℕ) (p c j j' q k : ℕ) : Type 0 where
  pub other : q ≢ p
  pub was : ComesFrom (at row) (length row) c j q k
  pub is : ComesFrom (at row') (length row') c j' q k

-- what is counted in rising position, and lies at position q, had the number n and has n': position p had x of them, and has y
pub record Shifted (p x y q n n' : ℕ) : Type 0 where
  pub below : q < p → n' ≡ n
  pub above : p < q → n' + x ≡ n + y

-- a User field of channel c, by the fields that the values give the channel
abbrev pub FieldShifted : List ℕ → ℕ → ℕ → ℕ → ℕ → ℕ → ℕ → Type 0
FieldShifted row p v c = Shifted p (in_channel c p (fields_of (at row p))) (in_channel c p (fields_of v))

-- a resource, by the pieces that were removed and those that were added
abbrev pub OwnerShifted : List ℕ → ℕ → ℕ → ℕ → ℕ → ℕ → Type 0
OwnerShifted row p v = Shifted p (length (own_pieces (at row p))) (length (own_pieces v))

-- resource i of the plan before is resource i' of the plan after
pub record SameOwner (row row' : List ℕ) (p v : ℕ) (o o' : ℕ → ℕ) (i i' : ℕ) : Type 0 where
  pub same_resource : resource_in (records_of o row) i ≡ resource_in (records_of o' row') i'
  pub same_tones : tones_in (length row) (resource_in (records_of o row) i) ≡ tones_in (length row') (resource_in (records_of o' row') i')
  -- so its line in a listing is the same too
  pub same_line : record_line (length row) (resource_in (records_of o row) i) ≡ record_line (length row') (resource_in (records_of o' row') i')
  -- it lies at another position, and its number moves as it must
  pub at_another : (resource_in (records_of o row) i).position ≢ p
  pub shifted : OwnerShifted row p v (resource_in (records_of o row) i).position i i'

-- ---- what is read of a frame before the sweep and of one after it
abbrev pub Carries : Call → List ℕ → Type 0
Carries c r = CarryRow c.bandwidth r c.channel_1 c.channel_2

-- the 22 bits of User field j of channel x, and its word, "channel 1 first" (01, "What comes back")
abbrev pub bits_in : Call → ℕ → ℕ → ℕ
bits_in c x j = field (cond (eqb x 1) c.channel_1 c.channel_2) (user_at c.bandwidth j) 22

abbrev pub word_in : Call → ℕ → ℕ → ℕ
word_in c x j = at c.after (cond (eqb x 1) (10 + j) (10 + count c.bandwidth 1 c.channel_1 + j))

-- ---- the request
pub record Swept (row row' : List ℕ) (p v : ℕ) : Type 1 where
  -- "The row stays accepted"
  pub stays_accepted : SomePlanOfEight row' 0 (length row')
  -- "and every resource at other positions keeps its subcarriers and its number of fields"
  pub keeps : (o o' : ℕ → ℕ) → PlanOf row o → PlanOf row' o' → Keeps row row' p o o'
  -- the User fields of other positions are those that were there ..
  pub field_stays : (c j q k : ℕ) → q ≢ p → ComesFrom (at row) (length row) c j q k
      → (j' : ℕ) × SameField row row' p c j j' q k × FieldShifted row p v c q j j'
  pub field_was : (c j' q k : ℕ) → q ≢ p → ComesFrom (at row') (length row') c j' q k
      → (j : ℕ) × SameField row row' p c j j' q k × FieldShifted row p v c q j j'
  -- .. and each goes to the resource that it went to
  pub same_owner : (o o' : ℕ → ℕ) → PlanOf row o → PlanOf row' o' → (c j j' q k i i' : ℕ) → SameField row row' p c j j' q k
      → OwnsIn o row i c j → OwnsIn o' row' i' c j' → SameOwner row row' p v o o' i i'
  -- channels that carry the row and pass 1 to 6 "get neither 7 nor 8" (01, "What a plan is")
  pub neither_7_nor_8 : (c : Call) → Reads c → Carries c row' → (c.answer.number ≢ 7) × (c.answer.number ≢ 8)
  -- of two frames that are read, such a field has one word in both, if its bits are the same
  pub same_word : (c c' : Call) → Reads c → Reads c' → Carries c row → Carries c' row' → c.answer.number ≡ 0 → c'.answer.number ≡ 0
      → (x j j' q k : ℕ) → SameField row row' p x j j' q k → bits_in c x j ≡ bits_in c' x j' → word_in c x j ≡ word_in c' x j'

-- "Nothing is claimed of 28, which may belong to a 484+242": 80 MHz, a 242 at the first position, and a 484+242 that leaves it out, whose single
-- position has no field
abbrev pub with28 : List ℕ
with28 = 64 ∷ 28 ∷ 96 ∷ 29 ∷ []

-- by any value of the set the row becomes one of 7
pub record Not28 (row : List ℕ) (p : ℕ) : Type 1 where
  pub accepted : SomePlanOfEight row 0 (length row)
  pub is_28 : at row p ≡ 28
  pub belongs : (o : ℕ → ℕ) → PlanOf row o → o p ≢ itself
  pub is_7 : (v : ℕ) → swept_at p v ≡ true → Laid (set row p v) (Err (NoPlan 0))
  pub gets_7 : (v : ℕ) → swept_at p v ≡ true → (c : Call) → Reads c → Carries c (set row p v) → c.answer ≡ no 7 0 0

-- a resource may be wider than a segment (02, T-07): 160 MHz, a 996+484, and the pair that it leaves out
abbrev pub beside_wide : List ℕ
beside_wide = 64 ∷ 0 ∷ 128 ∷ 29 ∷ 30 ∷ 30 ∷ 30 ∷ 30 ∷ []

pub record Sweep : Type 1 where
  pub each : (row : List ℕ) (p v : ℕ) → Sweeps row p v → Swept row (set row p v) p v
  pub not_28 : Not28 with28 1
  pub left_out_pair : (p v : ℕ) → p < 2 → swept_at p v ≡ true → Sweeps beside_wide p v
