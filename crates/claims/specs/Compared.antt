-- 02, T-06: "Two frames in, the exact differences out: a differing bandwidth, and then nothing more; else overflow fields by name, RU Allocation
-- values by position, resources only in one, User fields whose bits or resource differ or that only one has, matched by their place among the
-- User words; in that order, and inside each in listing order, first frame's side first. Equal readings give no line, and no line means equal
-- readings; padding doesn't count. If one or both are refused, say which and its answer, first frame first, and compare nothing."
--
-- Calls of `compare::compare`, `brachymel_compare` and `comparing::respond` are `Calls.antt`'s: all that their contracts allow.
use Rattle.std.specs.Prelude.{◌≡◌, ◌⊎◌, List, [], ◌∷◌, ◌++◌, map, ℕ, ◌≤◌, ◌<◌, length, take, drop}
use Rattle.answer.specs.Answer.{no}
use Rattle.answer.specs.Order.{Judged}
use Rattle.answer.specs.declared.Answer.{Answer}
use Rattle.answer.specs.declared.Refusal.{Refusal}
use Rattle.answer.specs.Answer.{answer_of}
use Rattle.std.specs.Prelude.{Ok, Err}
use Rattle.channel.specs.Layout.{row}
use Rattle.halves.specs.Table.{outcome11}
use Rattle.frame_words.specs.Words.{words_of, SameFrame}
use Rattle.text.specs.Text.{codes, line}
use Rattle.captures.specs.Form.{WrongOfSix}
use Rattle.captures.specs.Worked.{TextOfTwo}
use Rattle.compared.specs.Reading.{refused_with, bandwidth_is, reading_of}
use Rattle.compared.specs.Differences.{Difference, by, differences, comparison}
use Rattle.compared.specs.Exact.{Exact, Once, lines_of, exchange}
use Rattle.compared.specs.InOrder.{InOrder}
use Rattle.compared.specs.Text.{difference_lines, room_outcome}
use Rattle.compare_size.specs.Size.{compare_size}
use Rattle.compare.proofs.compare.Reads as compare
use Rattle.brachymel.proofs.brachymel_compare.Reads as c_compare
use Rattle.comparing.proofs.respond.Reads as compare_respond
use Rattle.claims.specs.Calls.{Call, TextCall, CompareCall, Reads, Compares, CompareResponds}

-- ---- the differences of two frames, the channels a and b beside a' and b'

-- what the list of them is
pub record Compared (bw : ℕ) (a b : List ℕ) (bw' : ℕ) (a' b' : List ℕ) (ds : List Difference) : Type 0 where
  -- "the exact differences out": each is true of its frame and not of the other, and every difference is there
  pub are_differences : outcome11 bw a b ≡ Ok tt → outcome11 bw' a' b' ≡ Ok tt → ds ≡ differences (reading_of bw a b) (reading_of bw' a' b')
  pub exact : Exact (reading_of bw a b) (reading_of bw' a' b')
  pub once : Once ds
  -- "in that order, and inside each in listing order, first frame's side first"
  pub in_order : InOrder (reading_of bw a b) (reading_of bw' a' b') ds
  -- "a differing bandwidth, and then nothing more"
  pub other_bandwidth : outcome11 bw a b ≡ Ok tt → outcome11 bw' a' b' ≡ Ok tt → (bw ≡ bw' → ⊥)
      → ds ≡ by 1 (bandwidth_is bw) ∷ by 2 (bandwidth_is bw') ∷ []
  -- "If one or both are refused, say which and its answer, first frame first, and compare nothing."
  pub first_refused : (x : Refusal) → outcome11 bw a b ≡ Err x → outcome11 bw' a' b' ≡ Ok tt → ds ≡ by 1 (refused_with (answer_of x)) ∷ []
  pub second_refused : (y : Refusal) → outcome11 bw a b ≡ Ok tt → outcome11 bw' a' b' ≡ Err y → ds ≡ by 2 (refused_with (answer_of y)) ∷ []
  pub both_refused : (x y : Refusal) → outcome11 bw a b ≡ Err x → outcome11 bw' a' b' ≡ Err y
      → ds ≡ by 1 (refused_with (answer_of x)) ∷ by 2 (refused_with (answer_of y)) ∷ []
  -- the other way round: the same lines with 1 and 2 exchanged, each frame's in the same order
  pub exchanged_1 : lines_of 1 (comparison bw' a' b' bw a b) ≡ map exchange (lines_of 2 ds)
  pub exchanged_2 : lines_of 2 (comparison bw' a' b' bw a b) ≡ map exchange (lines_of 1 ds)

-- "equal readings": the same bandwidth and the same words
pub record SameReading (bw : ℕ) (a b : List ℕ) (bw' : ℕ) (a' b' : List ℕ) : Type 0 where
  pub accepted_1 : outcome11 bw a b ≡ Ok tt
  pub accepted_2 : outcome11 bw' a' b' ≡ Ok tt
  pub one_bandwidth : bw ≡ bw'
  pub one_reading : words_of bw a b ≡ words_of bw' a' b'

-- ---- of a call: the differences, and a line for each
abbrev pub list_of : CompareCall → List Difference
list_of c = comparison c.bandwidth_1 c.first_1 c.first_2 c.bandwidth_2 c.second_1 c.second_2

abbrev pub lines_in : CompareCall → List ℕ
lines_in c = difference_lines (length (row c.bandwidth_1 c.first_1 c.first_2)) (list_of c)

abbrev pub Accepted1 : CompareCall → Type 0
Accepted1 c = outcome11 c.bandwidth_1 c.first_1 c.first_2 ≡ Ok tt

abbrev pub Accepted2 : CompareCall → Type 0
Accepted2 c = outcome11 c.bandwidth_2 c.second_1 c.second_2 ≡ Ok tt

abbrev pub EqualReadings : CompareCall → Type 0
EqualReadings c = SameReading c.bandwidth_1 c.first_1 c.first_2 c.bandwidth_2 c.second_1 c.second_2

-- the same in every field of the layout: padding is none
abbrev pub EqualFields : CompareCall → Type 0
EqualFields c = SameFrame c.bandwidth_1 c.first_1 c.first_2 c.bandwidth_2 c.second_1 c.second_2

-- both frames are the same bytes
pub record Twice (c : CompareCall) : Type 0 where
  pub bandwidths : c.bandwidth_1 ≡ c.bandwidth_2
  pub channels_1 : c.first_1 ≡ c.second_1
  pub channels_2 : c.first_2 ≡ c.second_2

-- two calls were given the same
pub record SameFrames (c c' : CompareCall) : Type 0 where
  pub bandwidths : (c.bandwidth_1 ≡ c'.bandwidth_1) × (c.bandwidth_2 ≡ c'.bandwidth_2)
  pub first_frames : (c.first_1 ≡ c'.first_1) × (c.first_2 ≡ c'.first_2)
  pub second_frames : (c.second_1 ≡ c'.second_1) × (c.second_2 ≡ c'.second_2)
  pub buffers : c.lent ≡ c'.lent

-- ---- the first demand of these calls: accepted, or 23
pub record ComparesFirst : Type 1 where
  -- "Accepted: the text's bytes as place (0: equal readings). 23 with the bytes needed. A refused frame is a line of the text, not a refusal of
  -- the call."
  pub ends : (c : CompareCall) → Compares c
      → Judged (23 ∷ []) (room_outcome (length (lines_in c)) (length c.lent) ∷ []) (length (lines_in c)) c.answer
  pub asks_nothing : (κs : _) (a : _) → compare.Asked κs a
  pub c_asks_nothing : (κs : _) (a : _) → c_compare.Asked κs a
  pub respond_asks_nothing : (κs : _) (a : _) → compare_respond.Asked κs a
  pub keeps : (c : CompareCall) → Compares c → (c.answer.number ≡ 0 → ⊥) → c.after ≡ c.lent
  -- a buffer of `compare_size` bytes always does
  pub always_room : (c : CompareCall) → Compares c → compare_size ≤ length c.lent → c.answer.number ≡ 0
  -- any two results that are allowed for one input agree
  pub agree : (c c' : CompareCall) → Compares c → Compares c' → SameFrames c c' → (c.answer ≡ c'.answer) × (c.after ≡ c'.after)
  pub responses_agree : (c c' : TextCall) → CompareResponds c → CompareResponds c' → c.text ≡ c'.text → c.lent ≡ c'.lent
      → (c.bytes ≡ c'.bytes) × (c.after ≡ c'.after)

-- ---- what an accepted call wrote
pub record ComparesSay : Type 0 where
  pub writes_lines : (c : CompareCall) → Compares c → c.answer.number ≡ 0 → take c.answer.place c.after ≡ lines_in c
  -- "Bytes past the text keep what they held"
  pub past_kept : (c : CompareCall) → Compares c → c.answer.number ≡ 0
      → drop c.answer.place c.after ≡ drop c.answer.place c.lent
  pub compared : (bw : ℕ) (a b : List ℕ) (bw' : ℕ) (a' b' : List ℕ) → Compared bw a b bw' a' b' (comparison bw a b bw' a' b')
  -- "its answer": a frame is refused with what reading it answers, and one that is not is read, where there is room for its words
  pub its_answer : (c : Call) → Reads c → (x : Refusal) → outcome11 c.bandwidth c.channel_1 c.channel_2 ≡ Err x → c.answer ≡ answer_of x
  pub is_read : (c : Call) → Reads c → outcome11 c.bandwidth c.channel_1 c.channel_2 ≡ Ok tt
      → (c.answer.number ≡ 0) ⊎ (c.answer.number ≡ 12)
  -- "Equal readings give no line, and no line means equal readings; padding doesn't count."
  pub equal_silent : (c : CompareCall) → Compares c → EqualReadings c → c.answer ≡ no 0 0 0
  pub silent_equal : (c : CompareCall) → Compares c → c.answer ≡ no 0 0 0 → EqualReadings c
  pub padding_silent : (c : CompareCall) → Compares c → Accepted1 c → Accepted2 c → EqualFields c → c.answer ≡ no 0 0 0
  -- an accepted frame beside itself
  pub itself_silent : (c : CompareCall) → Compares c → Twice c → Accepted1 c → c.answer ≡ no 0 0 0

-- ---- the program's text

-- the place of 22: "0 for over 16,384 bytes in all", else the first wrong line
abbrev pub PlaceOf22 : ℕ → List ℕ → Type 0
PlaceOf22 k s = ((16384 < length s) × (k ≡ 0)) ⊎ ((length s ≤ 16384) × WrongOfSix k s)

-- s is the text of two frames of equal readings
pub record EqualSaid (s : List ℕ) : Type 0 where
  pub bandwidth_1 : ℕ
  pub first_1 : List ℕ
  pub first_2 : List ℕ
  pub bandwidth_2 : ℕ
  pub second_1 : List ℕ
  pub second_2 : List ℕ
  pub is : TextOfTwo s bandwidth_1 first_1 first_2 bandwidth_2 second_1 second_2
  pub same : SameReading bandwidth_1 first_1 first_2 bandwidth_2 second_1 second_2

pub record ComparesProgram : Type 0 where
  -- of the text of two frames: the same lines as from a call
  pub compares : (c : TextCall) → CompareResponds c → c.bytes ≤ length c.lent → (bw : ℕ) (a b : List ℕ) (bw' : ℕ) (a' b' : List ℕ)
      → TextOfTwo c.text bw a b bw' a' b' → take c.bytes c.after ≡ difference_lines (length (row bw a b)) (comparison bw a b bw' a' b')
  -- of any other text: the three lines of 22
  pub refuses_22 : (c : TextCall) → CompareResponds c → c.bytes ≤ length c.lent
      → ((bw : ℕ) (a b : List ℕ) (bw' : ℕ) (a' b' : List ℕ) → TextOfTwo c.text bw a b bw' a' b' → ⊥)
      → (k : ℕ) × PlaceOf22 k c.text
      × (take c.bytes c.after ≡ line (codes "answer=") 22 ++ line (codes "channel=") 0 ++ line (codes "place=") k)
  -- a buffer of `compare_size` bytes always does
  pub always_room : (c : TextCall) → CompareResponds c → c.bytes ≤ compare_size
  -- "No output ..: equal readings."
  pub silent_equal : (c : TextCall) → CompareResponds c → c.bytes ≡ 0 → EqualSaid c.text
  pub equal_silent : (c : TextCall) → CompareResponds c → EqualSaid c.text → c.bytes ≡ 0
