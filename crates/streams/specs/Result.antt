-- The streams of a frame: the answer, and the lent bytes afterwards. a and b are the bytes of channel 1 and channel 2.
--
-- 02, T-11: "on top of the reader and knowing only its stated results": 1 to 11 as the reader has them, then 21, then 23.
use Rattle.std.specs.Prelude.{Bool, not, List, [], ◌∷◌, ◌++◌, ℕ, ◌+◌, ltb, length}
use Rattle.answer.specs.Answer.{no, refuse_if, answer_at, after}
use Rattle.answer.specs.Every.{every}
use Rattle.answer.specs.Lists.{filled}
use Rattle.answer.specs.Order.{first_of}
use Rattle.answer.specs.declared.Answer.{Answer}
use Rattle.answer.specs.Answer.{Outcome}
use Rattle.answer.specs.declared.Refusal.TheVariants.{NoSuchStreams, BufferTooShort}
use Rattle.channel.specs.Layout.{row, count, user_of}
use Rattle.halves.specs.Table.{checks11}
use Rattle.turns.specs.Turns.{users_of, turn_of}
use Rattle.streams.specs.Streams.{streams_of, names_none}

-- the frame's User fields
abbrev pub fields : ℕ → List ℕ → List ℕ → ℕ
fields bw a b = count bw 1 a + count bw 2 b

-- the x-th, in the order of the User words
abbrev pub field_at : ℕ → List ℕ → List ℕ → ℕ → ℕ
field_at bw a b x = user_of bw a b (count bw 1 a) x

-- its streams, by the fields of its resource over both channels and its place among them
unfoldable pub streams_at : ℕ → List ℕ → List ℕ → ℕ → ℕ
streams_at bw a b x = streams_of (users_of (row bw a b) x) (turn_of (row bw a b) x) (field_at bw a b x)

-- whether it names a row, or is not asked to
unfoldable pub named_at : ℕ → List ℕ → List ℕ → ℕ → Bool
named_at bw a b x = not (names_none (users_of (row bw a b) x) (field_at bw a b x))

-- ---- the refusals

-- "Refusals: 21, .. a number past the last row": some field's
unfoldable pub no_row_named : ℕ → List ℕ → List ℕ → Outcome
no_row_named bw a b = refuse_if (not (every (named_at bw a b) (fields bw a b))) NoSuchStreams

-- T-02: "A buffer too short for a result of this or a later request gets 23 too, last, with the bytes or records needed as place"
unfoldable pub no_streams_room : ℕ → List ℕ → List ℕ → ℕ → Outcome
no_streams_room bw a b room = refuse_if (ltb room (fields bw a b)) (BufferTooShort (fields bw a b))

abbrev pub streams_checks : ℕ → List ℕ → List ℕ → ℕ → List Outcome
streams_checks bw a b room = checks11 bw a b ++ (no_row_named bw a b ∷ no_streams_room bw a b room ∷ [])

abbrev pub streams_numbers : List ℕ
streams_numbers = 1 ∷ 2 ∷ 3 ∷ 4 ∷ 5 ∷ 6 ∷ 7 ∷ 8 ∷ 9 ∷ 10 ∷ 11 ∷ 21 ∷ 23 ∷ []

unfoldable pub streams_outcome : ℕ → List ℕ → List ℕ → ℕ → Outcome
streams_outcome bw a b room = first_of (streams_checks bw a b room)

-- ---- what a call gives
-- accepted: one byte for each User field, and their number
unfoldable pub streams_answer : ℕ → List ℕ → List ℕ → ℕ → Answer
streams_answer bw a b room = answer_at (streams_outcome bw a b room) (fields bw a b)

-- "Bytes past the count keep what they held"; "Every refusal writes nothing"
unfoldable pub streams_after : ℕ → List ℕ → List ℕ → List ℕ → List ℕ
streams_after bw a b d = after (streams_outcome bw a b (length d)) (filled (streams_at bw a b) (fields bw a b) d) d
