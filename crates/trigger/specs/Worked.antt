-- The entry that a record is written as, and whether there is any, as functions. An engine works them out, and nobody has to believe it:
-- beside them stands that it is the entry that reads to the record (`Worked`), and `proofs/Worked.antt` shows it of all records (`worked`).
use Rattle.std.specs.Prelude.{◌≡◌, Bool, ◌&&◌, List, ℕ, eqb, length}
use Rattle.std.specs.Prelude.{Ok}
use Rattle.answer.specs.Decides.{Decides}
use Rattle.answer.specs.Lists.{at, build}
use Rattle.bits.specs.Bits.{Small}
use Rattle.word_bytes.specs.Bytes.{byte_at, words_in}
use Rattle.trigger_values.specs.UserInfo.{info_of, entry_of}
use Rattle.trigger.specs.Reading.{info_outcome, numbers_of}
use Rattle.record_refusals.specs.Engine.{read_back}
use Rattle.trigger.specs.Engine.{info_with}

-- five bytes e that read to exactly the record t
pub record EntryReads (bw : ℕ) (e t : List ℕ) : Type 0 where
  pub five : length e ≡ 5
  pub accepted : info_outcome bw (info_of e) ≡ Ok tt
  pub exactly : build (byte_at (numbers_of (info_of e))) 32 ≡ t

-- there are such
abbrev pub SomeEntry : ℕ → List ℕ → Type 0
SomeEntry bw t = (e : List ℕ) × Small e × EntryReads bw e t

-- the bytes of the record t, and whether they read to it
unfoldable pub the_entry : List ℕ → List ℕ
the_entry t = entry_of (info_with (words_in t))

unfoldable pub some_entry : ℕ → List ℕ → Bool
some_entry bw t = eqb (length t) 32 && read_back bw (words_in t)

pub record Worked (bw : ℕ) (t : List ℕ) : Type 0 where
  -- "17 where no bytes read to it": the test is true exactly where some do, but where the first number is 2007, which is refused before
  pub some_entry_fact : Small t → (at (words_in t) 0 ≡ 2007 → ⊥) → Decides (some_entry bw t) (SomeEntry bw t)
  -- "the writer gives the five bytes back": these are the ones
  pub the_entry_fact : (e : List ℕ) → Small e → EntryReads bw e t → e ≡ the_entry t
