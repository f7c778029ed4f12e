-- 02, T-03: "3 and 9 now give as place the first bit of the field that didn't fit, meaning the smallest named in document 01's layout, a User field
-- being one. Reader, listing and C entry change with it. Which inputs are refused does not change."
--
-- Calls are `Calls.antt`'s: all that the contracts allow. What the named fields are is `channel/specs/Fields.antt`, and which of them did not fit
-- `faults/specs/RanOut.antt`: `DidNotFit`. That "each field reader shall answer how many bits it lacked" is `position`'s, which no entry rests on:
-- `position/specs/Walk.antt`: `read_at`, `position/proofs/Lacking.antt`.
use Rattle.std.specs.Prelude.{◌≡◌, ◌⊎◌, ◌&&◌, List, [], ◌∷◌, ◌++◌, ℕ, ◌*◌, ◌/◌, ◌≤◌, ◌<◌, ltb, length, take, drop}
use Rattle.answer.specs.Answer.{no, refuse_if, ◌or◌, answer_at, after, passes}
use Rattle.answer.specs.Lists.{filled}
use Rattle.answer.specs.Order.{first_of}
use Rattle.answer.specs.declared.Answer.{Answer}
use Rattle.answer.specs.Answer.{Outcome}
use Rattle.answer.specs.declared.Refusal.TheVariants.{CommonFieldCut, UserBlocksCut}
use Rattle.answer.specs.declared.Refusal.{Refusal}
use Rattle.answer.specs.Answer.{answer_of}
use Rattle.std.specs.Prelude.{Err}
use Rattle.channel.specs.Layout.{present, common, count, end_of}
use Rattle.channel.specs.Fields.{named_fields, nth_field, Tiles, PlacesOnList}
use Rattle.faults.specs.RanOut.{DidNotFit}
use Rattle.halves.specs.Table.{check1, check2, check4, check5, check6, check7, check8, check10, check11, outcome11}
use Rattle.frame_words.specs.Words.{word_count, words_of}
use Rattle.reader.specs.Table.{check12, read_outcome}
use Rattle.input.specs.Worked.{frame, said}
use Rattle.lines.specs.Lines.{refusal_text}
use Rattle.listed.specs.Listing.{listing, check23, list_outcome}
use Rattle.word_bytes.specs.Bytes.{byte_at}
use Rattle.claims.specs.Calls.{Call, TextCall, Reads, Lists, CReads, CLists, Responds}

-- ---- "the first bit of the field that didn't fit"

-- a channel, of bytes s, ends before its n User fields do, and `place` is the first bit of its one named field that did not fit
pub record EndsIn (bw n : ℕ) (s : List ℕ) (place : ℕ) : Type 0 where
  pub too_short : 8 * length s < end_of bw n
  pub which : ℕ
  pub is_named : which < length (named_fields bw n)
  pub did_not_fit : DidNotFit s (named_fields bw n) which
  pub no_other : (k : ℕ) → DidNotFit s (named_fields bw n) k → k ≡ which
  pub its_first_bit : place ≡ (nth_field (named_fields bw n) which).first

-- channel 1, whose bytes are a, or channel 2, whose bytes are b
pub data OfChannel (a b : List ℕ) : ℕ → List ℕ → Type 0 where
  of_1 : OfChannel a b 1 a
  of_2 : OfChannel a b 2 b

-- 3 is of a channel's common field, for which no User field is asked; 9 of the User fields that its values give
pub record SaysWhere (bw : ℕ) (a b : List ℕ) (x : Answer) : Type 0 where
  pub at_3 : x.number ≡ 3 → (s : List ℕ) × OfChannel a b x.channel s × EndsIn bw 0 s x.place
  pub at_9 : x.number ≡ 9 → (s : List ℕ) × OfChannel a b x.channel s × EndsIn bw (count bw x.channel s) s x.place

-- ---- "Which inputs are refused does not change"

-- 01's table up to 11 before this request: "3 | common field cut short | channel, bits lent", "9 | User blocks cut short | channel, bits lent"
abbrev pub cut_common_before : ℕ → ℕ → List ℕ → Outcome
cut_common_before bw c s = refuse_if (present bw c && ltb (8 * length s) (common bw)) (CommonFieldCut c (8 * length s))

abbrev pub cut_users_before : ℕ → ℕ → List ℕ → Outcome
cut_users_before bw c s = refuse_if (ltb 0 (count bw c s) && ltb (8 * length s) (end_of bw (count bw c s))) (UserBlocksCut c (8 * length s))

abbrev pub checks11_before : ℕ → List ℕ → List ℕ → List Outcome
checks11_before bw a b =
    check1 bw
    ∷ check2 bw a b
    ∷ (cut_common_before bw 1 a or cut_common_before bw 2 b)
    ∷ check4 bw a b
    ∷ check5 bw a b
    ∷ check6 bw a b
    ∷ check7 bw a b
    ∷ check8 bw a b
    ∷ (cut_users_before bw 1 a or cut_users_before bw 2 b)
    ∷ check10 bw a b
    ∷ check11 bw a b
    ∷ []

-- what the reader and the listing came to, with room for so many words or bytes
abbrev pub read_before : ℕ → List ℕ → List ℕ → ℕ → Outcome
read_before bw a b room = first_of (checks11_before bw a b ++ (check12 bw a b room ∷ []))

abbrev pub list_before : ℕ → List ℕ → List ℕ → ℕ → Outcome
list_before bw a b room = first_of (checks11_before bw a b) or check23 bw a b room

-- before and now: the same outcome; or both refuse, with 3 or with 9 and for one channel, and only the places may differ
pub data ButPlaces : Outcome → Outcome → Type 0 where
  unchanged : (o : Outcome) → ButPlaces o o
  common_moved : (c p q : ℕ) → ButPlaces (Err (CommonFieldCut c p)) (Err (CommonFieldCut c q))
  users_moved : (c p q : ℕ) → ButPlaces (Err (UserBlocksCut c p)) (Err (UserBlocksCut c q))

-- the same of answers
pub record SameAnswer (x y : Answer) : Type 0 where
  pub same_number : x.number ≡ y.number
  pub same_channel : x.channel ≡ y.channel
  pub same_place : (x.number ≡ 3 → ⊥) → (x.number ≡ 9 → ⊥) → x.place ≡ y.place

-- a call gives what it gave when its checks came to o, n being the place of an acceptance and `new` what it then writes
pub record AsBefore (o : Outcome) (n : ℕ) (new : List ℕ) (c : Call) : Type 0 where
  pub same_answer : SameAnswer (answer_at o n) c.answer
  pub same_buffer : c.after ≡ after o new c.lent

-- reading into lent words, or bytes, and listing into lent bytes
abbrev pub ReadAsBefore : ℕ → List ℕ → List ℕ → Call → Type 0
ReadAsBefore bw a b c =
    AsBefore (read_before bw a b (length c.lent)) (word_count bw a b) (words_of bw a b ++ drop (word_count bw a b) c.lent) c

abbrev pub CReadAsBefore : ℕ → List ℕ → List ℕ → Call → Type 0
CReadAsBefore bw a b c =
    AsBefore (read_before bw a b (length c.lent / 4)) (word_count bw a b) (filled (byte_at (words_of bw a b)) (4 * word_count bw a b) c.lent) c

abbrev pub ListAsBefore : ℕ → List ℕ → List ℕ → Call → Type 0
ListAsBefore bw a b c =
    AsBefore (list_before bw a b (length c.lent)) (length (listing bw a b)) (listing bw a b ++ drop (length (listing bw a b)) c.lent) c

-- ---- the request

pub record CutShort : Type 1 where
  -- "the smallest named in document 01's layout": the fields among which one did not fit are all of a channel's, and every place of the layout is one
  pub are_all : (bw n : ℕ) → Tiles (named_fields bw n) (end_of bw n)
  pub have_places : (bw n : ℕ) → PlacesOnList bw n
  -- "Reader, listing and C entry": of every call's answer
  pub read_says : (c : Call) → Reads c → SaysWhere c.bandwidth c.channel_1 c.channel_2 c.answer
  pub list_says : (c : Call) → Lists c → SaysWhere c.bandwidth c.channel_1 c.channel_2 c.answer
  pub c_read_says : (c : Call) → CReads c → SaysWhere c.bandwidth c.channel_1 c.channel_2 c.answer
  pub c_list_says : (c : Call) → CLists c → SaysWhere c.bandwidth c.channel_1 c.channel_2 c.answer
  -- and of the refusal that the program writes for the three lines of a frame
  pub program_says : (c : TextCall) → Responds c → (bw : ℕ) (a b : List ℕ) (x : Refusal) → said c.text ≡ frame bw a b → outcome11 bw a b ≡ Err x
      → SaysWhere bw a b (answer_of x)
      × (c.bytes ≤ length c.lent → take c.bytes c.after ≡ refusal_text (answer_of x).number (answer_of x).channel (answer_of x).place)
  -- "Which inputs are refused does not change.": by 1 to 11, which is all that the writer asks of channels too
  pub same_refused : (bw : ℕ) (a b : List ℕ) → passes (first_of (checks11_before bw a b)) ≡ passes (outcome11 bw a b)
  -- nor does anything else: of the table, which is the program's, and of the reader's and the listing's with any room, only places of 3 and 9 moved
  pub same_table : (bw : ℕ) (a b : List ℕ) → ButPlaces (first_of (checks11_before bw a b)) (outcome11 bw a b)
  pub same_read : (bw : ℕ) (a b : List ℕ) (room : ℕ) → ButPlaces (read_before bw a b room) (read_outcome bw a b room)
  pub same_list : (bw : ℕ) (a b : List ℕ) (room : ℕ) → ButPlaces (list_before bw a b room) (list_outcome bw a b room)
  -- and so of every call
  pub read_as_before : (c : Call) → Reads c → ReadAsBefore c.bandwidth c.channel_1 c.channel_2 c
  pub list_as_before : (c : Call) → Lists c → ListAsBefore c.bandwidth c.channel_1 c.channel_2 c
  pub c_read_as_before : (c : Call) → CReads c → CReadAsBefore c.bandwidth c.channel_1 c.channel_2 c
  pub c_list_as_before : (c : Call) → CLists c → ListAsBefore c.bandwidth c.channel_1 c.channel_2 c
