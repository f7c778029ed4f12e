-- Trigger frames, on the same terms: the first and the second demand of the calls about their entries, and 02, T-02.
--
-- "I would like Trigger frames read on the same terms, so the uplink half of a test shows."
--
-- Calls of `trigger::read`, `trigger::write`, `overlaps::overlaps` and of `brachymel_trigger_read`, `brachymel_trigger_write`,
-- `brachymel_trigger_overlaps` are `Calls.antt`'s: all that their contracts allow. An entry is five bytes; a record eight numbers, 32 bytes.
use Rattle.std.specs.Prelude.{◌≡◌, List, ℕ, ◌*◌, ◌^◌, ◌≤◌, ◌<◌, T, length, take, drop, get_or}
use Rattle.answer.specs.Answer.{no}
use Rattle.answer.specs.Order.{Judged}
use Rattle.bits.specs.Bits.{Small}
use Rattle.word_bytes.specs.Bytes.{word_at}
use Rattle.resource.specs.declared.Resource.{Resource}
use Rattle.resource.specs.Names.{name_of, number_of}
use Rattle.answer.specs.Lists.{at}
use Rattle.kinds.specs.Signals.{Signals}
use Rattle.plan.specs.Answers.{SomePlanOfEight}
use Rattle.records.specs.Records.{records_from, records_of, blank}
use Rattle.trigger_values.specs.Values.{resource_of, taken, ResourceOf, OneToOne}
use Rattle.trigger.specs.Reading.{entry_numbers, entry_checks, entry_answer, record_read}
use Rattle.trigger.specs.Writing.{record_numbers, record_checks}
use Rattle.trigger.proofs.read.Reads as read
use Rattle.trigger.proofs.write.Reads as write
use Rattle.overlaps.specs.Overlaps.{Reported}
use Rattle.overlaps.specs.Result.{JudgedList}
use Rattle.overlaps.proofs.overlaps.Reads as overlaps
use Rattle.brachymel.proofs.brachymel_trigger_read.Reads as c_read
use Rattle.brachymel.proofs.brachymel_trigger_write.Reads as c_write
use Rattle.brachymel.proofs.brachymel_trigger_overlaps.Reads as c_overlaps
use Rattle.claims.specs.Calls.{EntryCall, EntryCallReads, EntryCallWrites, Overlaps}

-- reading the bytes e, with room w, gives exactly the record t
pub record EntryAccepts (bw : ℕ) (e w t : List ℕ) : Type 0 where
  pub number_0 : (entry_answer bw e (length w)).number ≡ 0
  pub exactly : take 32 (record_read bw e w) ≡ t

-- the record that a reading gave, and the entry that a writing gave
abbrev pub record_given : EntryCall → List ℕ
record_given c = take 32 c.after

abbrev pub entry_given : EntryCall → List ℕ
entry_given d = take 5 d.after

-- a plan, as 01 defines one, of a row of the bandwidth's length holds the resource
pub record HeldBySome (bw : ℕ) (r : Resource) : Type 0 where
  pub row : List ℕ
  pub as_many : length row ≡ 2 ^ bw
  pub plan : SomePlanOfEight row 0 (length row)
  pub held : (o : ℕ → ℕ) → Signals o (at row) 0 (length row) → (i : ℕ) × (i < length (records_of o row)) × ((get_or (records_of o row) i blank).resource ≡ r)

-- two calls were given the same
pub record SameInput (c c' : EntryCall) : Type 0 where
  pub bandwidths : c.bandwidth ≡ c'.bandwidth
  pub bytes : c.given ≡ c'.given
  pub buffers : c.lent ≡ c'.lent

-- and gave the same
pub record SameResult (c c' : EntryCall) : Type 0 where
  pub answers : c.answer ≡ c'.answer
  pub afters : c.after ≡ c'.after

-- ---- "each call ends with an acceptance or one numbered refusal .., in the order set there. No caller checks anything first. A refused call
-- writes nothing into the caller's buffers."
pub record EntriesFirst : Type 1 where
  pub read_ends : (c : EntryCall) → EntryCallReads c → Judged entry_numbers (entry_checks c.bandwidth c.given (length c.lent)) 32 c.answer
  pub write_ends : (c : EntryCall) → EntryCallWrites c → Judged record_numbers (record_checks c.bandwidth c.given (length c.lent)) 5 c.answer
  pub overlaps_end : (c : EntryCall) → Overlaps c → JudgedList c.bandwidth c.given (length c.lent) c.answer
  pub read_asks_nothing : (κs : _) (a : _) → read.Asked κs a
  pub write_asks_nothing : (κs : _) (a : _) → write.Asked κs a
  pub overlaps_ask_nothing : (κs : _) (a : _) → overlaps.Asked κs a
  pub c_read_asks_nothing : (κs : _) (a : _) → c_read.Asked κs a
  pub c_write_asks_nothing : (κs : _) (a : _) → c_write.Asked κs a
  pub c_overlaps_ask_nothing : (κs : _) (a : _) → c_overlaps.Asked κs a
  pub read_keeps : (c : EntryCall) → EntryCallReads c → (c.answer.number ≡ 0 → ⊥) → c.after ≡ c.lent
  pub write_keeps : (c : EntryCall) → EntryCallWrites c → (c.answer.number ≡ 0 → ⊥) → c.after ≡ c.lent
  pub overlaps_keep : (c : EntryCall) → Overlaps c → (c.answer.number ≡ 0 → ⊥) → c.after ≡ c.lent
  -- any two results that are allowed for one input agree
  pub reads_agree : (c c' : EntryCall) → EntryCallReads c → EntryCallReads c' → SameInput c c' → SameResult c c'
  pub writes_agree : (c c' : EntryCall) → EntryCallWrites c → EntryCallWrites c' → SameInput c c' → SameResult c c'
  pub overlaps_agree : (c c' : EntryCall) → Overlaps c → Overlaps c' → SameInput c c' → SameResult c c'

-- ---- "Reading is what IEEE 802.11be .. say, to the bit", writing gives the same back, and what nothing reads to is refused
pub record EntriesSecond : Type 1 where
  -- as 02's refusals, its layout of the five bytes and its table of values: `trigger`'s UserInfo, Values and Reading
  pub reading_is : (c : EntryCall) → EntryCallReads c
      → (c.answer ≡ entry_answer c.bandwidth c.given (length c.lent)) × (c.after ≡ record_read c.bandwidth c.given c.lent)
  -- "A read entry gives the same resource record as a plan": a resource of the bandwidth, by its subcarriers and its index
  pub gives_resource : (c : EntryCall) → EntryCallReads c → c.answer.number ≡ 0
      → (r : Resource) × ResourceOf (2 ^ c.bandwidth) r × (word_at c.after 1 ≡ name_of r) × (word_at c.after 2 ≡ number_of r)
  -- values and resources are one-to-one, and every resource that a plan of the bandwidth holds has its value
  pub one_to_one : (bw : ℕ) → bw ≤ 2 → OneToOne bw
  pub plans_have_values : (bw : ℕ) → bw ≤ 2 → (o row : ℕ → ℕ) → Signals o row 0 (2 ^ bw) → (i : ℕ) → i < length (records_from o row (2 ^ bw))
      → (v : ℕ) × T (taken bw v) × (resource_of v ≡ (get_or (records_from o row (2 ^ bw)) i blank).resource)
  -- and no value names a resource that no plan holds: some plan that signals a row of the bandwidth, with at most eight fields each, does
  pub values_have_plans : (bw : ℕ) → bw ≤ 2 → (v : ℕ) → T (taken bw v) → HeldBySome bw (resource_of v)
  -- "and the writer gives the five bytes back"
  pub writing_gives_back : (c d : EntryCall) → EntryCallReads c → EntryCallWrites d → Small c.given → c.answer.number ≡ 0
      → d.bandwidth ≡ c.bandwidth → d.given ≡ record_given c → 5 ≤ length d.lent
      → (d.answer ≡ no 0 0 5) × (entry_given d ≡ c.given) × (drop 5 d.after ≡ drop 5 d.lent)
  -- and what was written reads to the same record
  pub reading_gives_back : (d c : EntryCall) → EntryCallWrites d → EntryCallReads c → Small d.given → d.answer.number ≡ 0
      → c.bandwidth ≡ d.bandwidth → c.given ≡ entry_given d → 32 ≤ length c.lent
      → (c.answer ≡ no 0 0 32) × (record_given c ≡ d.given) × (drop 32 c.after ≡ drop 32 c.lent)
  -- "17 where no bytes read to it": exactly there, but for 1 and 24, which come before
  pub of_none_refused : (d : EntryCall) → EntryCallWrites d → Small d.given → d.bandwidth ≤ 2 → (4 ≤ length d.given → word_at d.given 0 ≡ 2007 → ⊥)
      → ((e w : List ℕ) → Small e → EntryAccepts d.bandwidth e w d.given → ⊥) → d.answer.number ≡ 17
  pub only_of_none_refused : (d : EntryCall) → EntryCallWrites d → d.answer.number ≡ 17
      → (e w : List ℕ) → Small e → EntryAccepts d.bandwidth e w d.given → ⊥

-- ---- "every pair that shares a subcarrier is reported once, earlier entry first, pairs in rising order; entries of one and the same resource are
-- a group and no overlap"
pub record EntriesOverlap : Type 1 where
  pub are_reported : (c : EntryCall) → Overlaps c → c.answer.number ≡ 0 → Reported c.bandwidth c.given c.answer.place c.after
  -- the bytes past the pairs keep what they held
  pub past_kept : (c : EntryCall) → Overlaps c → c.answer.number ≡ 0
      → drop (2 * c.answer.place) c.after ≡ drop (2 * c.answer.place) c.lent
  -- "26 room for fewer pairs than there are": 496 is the most, so that 992 bytes always do
  pub most : (c : EntryCall) → Overlaps c → c.answer.number ≡ 0 → c.answer.place ≤ 496
  pub always_room : (c : EntryCall) → Overlaps c → 992 ≤ length c.lent → c.answer.number ≡ 26 → ⊥
