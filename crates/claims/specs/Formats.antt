-- The format of each User word of a frame, by the resource that owns its field.
--
-- 01, "Bandwidth and channels": "A User field alone on its resource: .. Where the resource has two or more fields over both channels
-- together: .."; "What comes back": "User words: known bits 0x3F, or 0x47 on a shared resource."
use Rattle.std.specs.Prelude.{◌≡◌, true, false, List, ℕ, ◌+◌, ◌≤◌, ◌<◌, length, get_or}
use Rattle.bits.specs.Bits.{field}
use Rattle.answer.specs.Lists.{at}
use Rattle.kinds.specs.Signals.{Signals}
use Rattle.plan.specs.Answers.{SomePlanOfEight}
use Rattle.records.specs.declared.Record.{Record}
use Rattle.records.specs.Records.{records_of, blank}
use Rattle.records.specs.Owns.{Owns}
use Rattle.records.specs.FieldsOf.{fields_on}
use Rattle.channel.specs.Layout.{row, count, user_at}
use Rattle.words.specs.Words.{user_word}

-- v is the word of a User field of 22 bits f on the resource x
pub record WordOn (x : Record) (f v : ℕ) : Type 0 where
  pub alone : fields_on x < 2 → v ≡ user_word false f
  pub shared : 2 ≤ fields_on x → v ≡ user_word true f

-- resource i of the plan o owns field j of channel c of a frame of row r
abbrev pub OwnsIn : (ℕ → ℕ) → List ℕ → ℕ → ℕ → ℕ → Type 0
OwnsIn o r i c j = Owns o (at r) (length r) i c j

-- exactly one does, and it is one of the plan's
abbrev pub OneOwner : (ℕ → ℕ) → List ℕ → ℕ → ℕ → Type 0
OneOwner o r c j = (i : ℕ) × (i < length (records_of o r)) × OwnsIn o r i c j × ((i' : ℕ) → OwnsIn o r i' c j → i' ≡ i)

-- the User fields of a frame whose channels are a and b, and their words among w, in any plan o that signals the frame's row
pub record Formatted (bw : ℕ) (a b w : List ℕ) (o : ℕ → ℕ) : Type 0 where
  -- each field below a channel's count has one owner ..
  pub one_1 : (j : ℕ) → j < count bw 1 a → OneOwner o (row bw a b) 1 j
  pub one_2 : (j : ℕ) → j < count bw 2 b → OneOwner o (row bw a b) 2 j
  -- .. and its word, "channel 1 first", is of the format that this owner's fields over both channels say
  pub word_1 : (i j : ℕ) → OwnsIn o (row bw a b) i 1 j
      → WordOn (get_or (records_of o (row bw a b)) i blank) (field a (user_at bw j) 22) (at w (10 + j))
  pub word_2 : (i j : ℕ) → OwnsIn o (row bw a b) i 2 j
      → WordOn (get_or (records_of o (row bw a b)) i blank) (field b (user_at bw j) 22) (at w (10 + count bw 1 a + j))

-- an accepted frame's row has a plan with at most eight fields on each resource, and in every plan that signals it the words are so
pub record UserWords (bw : ℕ) (a b w : List ℕ) : Type 0 where
  pub a_plan : SomePlanOfEight (row bw a b) 0 (length (row bw a b))
  pub each_plan : (o : ℕ → ℕ) → Signals o (at (row bw a b)) 0 (length (row bw a b)) → Formatted bw a b w o
