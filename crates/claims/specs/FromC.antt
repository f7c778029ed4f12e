-- The second demand, the third and the listing, of the calls from C.
--
-- 01, "What comes back": "The capture software is written in C and calls reader and writer with numbers and bytes, words then being
-- little-endian. For the reader's room only whole words count; a word text not divisible by four gives the writer's 13."
--
-- Calls of `brachymel_read`, `brachymel_write` and `brachymel_list` are `Calls.antt`'s: all that their contracts allow.
use Rattle.std.specs.Prelude.{◌≡◌, true, List, ℕ, ◌*◌, ◌/◌, ◌%◌, ◌≤◌, length, take, drop}
use Rattle.answer.specs.Answer.{no}
use Rattle.bits.specs.Bits.{Small}
use Rattle.word_bytes.specs.Bytes.{words_in, bytes_in}
use Rattle.word_bytes.specs.Inverse.{Inverse}
use Rattle.plan.specs.Answers.{SomePlanOfEight}
use Rattle.channel.specs.Layout.{present}
use Rattle.frame_words.specs.Words.{words_of, SameFrame}
use Rattle.reader.specs.Result.{read_answer}
use Rattle.writer.specs.Inverse.{GivenBack}
use Rattle.byte_reader.specs.Bytes.{bytes_read_answer, read_bytes}
use Rattle.listed.specs.Listing.{listing}
use Rattle.listing_size.specs.Longest.{longest_at}
use Rattle.claims.specs.Calls.{Call, WriteCall, Reads, Writes, Lists, CReads, CWrites, CLists}
use Rattle.claims.specs.Formats.{UserWords}
use Rattle.claims.specs.Second.{bytes_of, written_1, written_2}
use Rattle.claims.specs.Rows.{CarriedRow, CarryRow, ForLayout}

-- ---- the same call in words

-- the lent bytes as words: "only whole words count"
abbrev pub in_words : Call → Call
in_words c = record {
  bandwidth = c.bandwidth;
  channel_1 = c.channel_1;
  channel_2 = c.channel_2;
  lent = words_in c.lent;
  answer = c.answer;
  after = words_in c.after;
}

abbrev pub of_words : WriteCall → WriteCall
of_words d = record {
  bandwidth = d.bandwidth;
  words = words_in d.words;
  lent_1 = d.lent_1;
  lent_2 = d.lent_2;
  answer = d.answer;
  after_1 = d.after_1;
  after_2 = d.after_2;
}

-- the bytes of the words of an accepted reading: "0 and 12 give places in words"
abbrev pub bytes_read : Call → List ℕ
bytes_read c = take (4 * c.answer.place) c.after

-- `brachymel_read`, with room t₀, accepts a and b with exactly the bytes t
pub record AcceptsBytes (bw : ℕ) (a b t₀ t : List ℕ) : Type 0 where
  pub number_0 : (bytes_read_answer bw a b t₀).number ≡ 0
  pub exactly : take (4 * (bytes_read_answer bw a b t₀).place) (read_bytes bw a b t₀) ≡ t

-- ---- the second demand
pub record SecondFromC : Type 1 where
  -- "words then being little-endian", and words and bytes each other's
  pub little_endian : Inverse
  -- each call is one that the contract of `reader::read` or `writer::write` allows, in words
  pub reads_words : (c : Call) → CReads c → Reads (in_words c)
  pub writes_words : (d : WriteCall) → CWrites d → length d.words % 4 ≡ 0 → Writes (of_words d)
  -- "a word text not divisible by four gives the writer's 13", but for 1, which comes before
  pub ragged_refused : (d : WriteCall) → CWrites d → d.bandwidth ≤ 4 → (length d.words % 4 ≡ 0 → ⊥) → d.answer ≡ no 13 0 0
  -- "Reading is what IEEE 802.11be and the radiotap EHT page say, to the bit"
  pub reading_is : (c : Call) → CReads c
      → (c.answer ≡ read_answer c.bandwidth c.channel_1 c.channel_2 (length c.lent / 4))
      × (c.after ≡ read_bytes c.bandwidth c.channel_1 c.channel_2 c.lent)
  pub bytes_are : (c : Call) → CReads c → c.answer.number ≡ 0 → bytes_read c ≡ bytes_in (words_of c.bandwidth c.channel_1 c.channel_2)
  -- "Words past the count keep what they held", and so do bytes that are no whole word
  pub past_kept : (c : Call) → CReads c → c.answer.number ≡ 0 → drop (4 * c.answer.place) c.after ≡ drop (4 * c.answer.place) c.lent
  -- "User fields, words."
  pub user_words_are : (c : Call) → CReads c → c.answer.number ≡ 0 → UserWords c.bandwidth c.channel_1 c.channel_2 (words_in c.after)
  -- equal bytes are of equal bandwidth, row, overflow and User fields
  pub words_say_all : (c c' : Call) → CReads c → CReads c' → c.answer.number ≡ 0 → c'.answer.number ≡ 0 → bytes_read c ≡ bytes_read c'
      → SameFrame c.bandwidth c.channel_1 c.channel_2 c'.bandwidth c'.channel_1 c'.channel_2
  -- "Writing those words gives the same channels back, padding zero, up to the end of the longer channel's last block."
  pub writing_gives_back : (c : Call) (d : WriteCall) → CReads c → CWrites d → c.answer.number ≡ 0
      → d.bandwidth ≡ c.bandwidth → d.words ≡ bytes_read c
      → bytes_of c ≤ length d.lent_1 → (present c.bandwidth 2 ≡ true → bytes_of c ≤ length d.lent_2)
      → GivenBack c.bandwidth c.channel_1 c.channel_2 d.lent_1 d.lent_2 d.after_1 d.after_2 d.answer
  -- and what was written reads to the same bytes
  pub reading_gives_back : (d : WriteCall) (c : Call) → CWrites d → CReads c → Small d.words → d.answer.number ≡ 0
      → c.bandwidth ≡ d.bandwidth → c.channel_1 ≡ written_1 d → c.channel_2 ≡ written_2 d
      → length d.words ≤ length c.lent
      → (c.answer ≡ no 0 0 (length d.words / 4)) × (take (length d.words) c.after ≡ d.words)
  -- "Words that no accepted pair of channels reads to are refused.": with 13, exactly where there is no such pair, of bytes
  pub words_of_none_refused : (d : WriteCall) → CWrites d → Small d.words → d.bandwidth ≤ 4
      → ((x y t : List ℕ) → Small x → Small y → AcceptsBytes d.bandwidth x y t d.words → ⊥) → d.answer.number ≡ 13
  pub only_words_of_none_refused : (d : WriteCall) → CWrites d → d.answer.number ≡ 13
      → (x y t : List ℕ) → AcceptsBytes d.bandwidth x y t d.words → ⊥

-- ---- the listing, from Rattle or from C
pub data AnyLists (c : Call) : Type 0 where
  from_rattle : Lists c → AnyLists c
  from_c : CLists c → AnyLists c

abbrev pub listing_in : Call → List ℕ
listing_in c = listing c.bandwidth c.channel_1 c.channel_2

-- the text of an accepted call
pub record HoldsListing (c : Call) : Type 0 where
  pub its_answer : c.answer ≡ no 0 0 (length (listing_in c))
  pub text : take (length (listing_in c)) c.after ≡ listing_in c
  pub past_kept : drop (length (listing_in c)) c.after ≡ drop (length (listing_in c)) c.lent

pub record ListingWritten : Type 1 where
  -- "0 | accepted | 0, count of words (listing: of bytes)", and the listing at the buffer's front
  pub holds : (c : Call) → AnyLists c → c.answer.number ≡ 0 → HoldsListing c
  -- a buffer as long as the bandwidth's longest listing always does
  pub always_room : (c : Call) → AnyLists c → longest_at c.bandwidth ≤ length c.lent → c.answer.number ≡ 23 → ⊥

-- ---- the third demand

-- all that the contracts allow, for these channels and room for 154 words or for the longest listing, is an acceptance
abbrev pub CReadAccepts : ℕ → List ℕ → List ℕ → Type 0
CReadAccepts bw x y =
    (c : Call) → CReads c → c.bandwidth ≡ bw → c.channel_1 ≡ x → c.channel_2 ≡ y → 4 * 154 ≤ length c.lent → c.answer.number ≡ 0

abbrev pub ListAccepts : ℕ → List ℕ → List ℕ → Type 0
ListAccepts bw x y =
    (c : Call) → AnyLists c → c.bandwidth ≡ bw → c.channel_1 ≡ x → c.channel_2 ≡ y → longest_at bw ≤ length c.lent → c.answer.number ≡ 0

pub record ThirdFromC (b : ℕ) (row : List ℕ) : Type 1 where
  -- "the row is accepted .. Otherwise it is refused, for its layout"
  pub row_is_answered : (c : Call) → CReads c → CarryRow c.bandwidth row c.channel_1 c.channel_2 → ForLayout row c.answer
  pub row_is_listed : (c : Call) → AnyLists c → CarryRow c.bandwidth row c.channel_1 c.channel_2 → ForLayout row c.answer
  -- "A reader that always refuses falls to the third demand, as the row's plan exists." (01, "What nobody may get away with")
  pub plan_is_read : CarriedRow b row → SomePlanOfEight row 0 (length row)
      → (x : List ℕ) × (y : List ℕ) × CarryRow b row x y × Small x × Small y × CReadAccepts b x y × ListAccepts b x y
