-- What reading an entry gives: 02's refusals in their order (T-02), the answer, and the lent record afterwards.
--
-- "Refusals: 15 input not five bytes, 24 AID12 is 2007, which has a layout of its own, 16 PS160 or B0 set, 17 a value not named here or
-- too wide, in that order after 1." "Channel and place are 0 here and in later refusals where none is named; nothing written. A buffer
-- too short for a result of this or a later request gets 23 too, last, with the bytes or records needed as place".
use Rattle.std.specs.Prelude.{not, ◌||◌, List, [], ◌∷◌, ℕ, ltb, eqb, length}
use Rattle.answer.specs.Answer.{no, refuse_if, ◌or◌, answer_at, after}
use Rattle.answer.specs.declared.Answer.{Answer}
use Rattle.answer.specs.Answer.{Outcome}
use Rattle.answer.specs.Lists.{filled}
use Rattle.answer.specs.declared.Refusal.TheVariants.{UnknownBandwidth, NotWholeEntries, ReservedBitSet, NotNamed, BufferTooShort, OtherLayout}
use Rattle.resource.specs.Names.{name_of, number_of}
use Rattle.word_bytes.specs.Bytes.{byte_at}
use Rattle.trigger_values.specs.UserInfo.{info_of, aid12, b0, value_in, coding, mcs, reserved, spatial, power, ps160}
use Rattle.trigger_values.specs.Values.{resource_of, taken}

-- 1: "Bandwidth codes above 2 get 1 here."
unfoldable pub above2 : ℕ → Outcome
above2 bw = refuse_if (ltb 2 bw) UnknownBandwidth

-- 15, of n bytes
unfoldable pub not_five : ℕ → Outcome
not_five n = refuse_if (not (eqb n 5)) NotWholeEntries

-- ---- of an entry's 40 bits x, each entry of a list too
-- 24
unfoldable pub is2007 : ℕ → Outcome
is2007 x = refuse_if (eqb (aid12 x) 2007) (OtherLayout 0)

-- 16
unfoldable pub bit_set : ℕ → Outcome
bit_set x = refuse_if (not (eqb (ps160 x) 0) || not (eqb (b0 x) 0)) (ReservedBitSet 0)

-- 17
unfoldable pub not_taken : ℕ → ℕ → Outcome
not_taken bw x = refuse_if (not (taken bw (value_in x))) (NotNamed 0)

unfoldable pub info_outcome : ℕ → ℕ → Outcome
info_outcome bw x = is2007 x or bit_set x or not_taken bw x

-- ---- an entry e, into a record of n bytes
-- 23
unfoldable pub no_record_room : ℕ → Outcome
no_record_room n = refuse_if (ltb n 32) (BufferTooShort 32)

unfoldable pub entry_outcome : ℕ → List ℕ → ℕ → Outcome
entry_outcome bw e n =
    above2 bw or not_five (length e) or is2007 (info_of e) or bit_set (info_of e) or not_taken bw (info_of e) or no_record_room n

abbrev pub entry_numbers : List ℕ
entry_numbers = 1 ∷ 15 ∷ 24 ∷ 16 ∷ 17 ∷ 23 ∷ []

abbrev pub entry_checks : ℕ → List ℕ → ℕ → List Outcome
entry_checks bw e n =
    above2 bw ∷ not_five (length e) ∷ is2007 (info_of e) ∷ bit_set (info_of e) ∷ not_taken bw (info_of e) ∷ no_record_room n ∷ []

-- a record's eight numbers: AID12; the resource, by its subcarriers and its index; coding; MCS; the reserved bit; SS allocation; target
-- power
unfoldable pub numbers_of : ℕ → List ℕ
numbers_of x =
    aid12 x
    ∷ name_of (resource_of (value_in x))
    ∷ number_of (resource_of (value_in x))
    ∷ coding x
    ∷ mcs x
    ∷ reserved x
    ∷ spatial x
    ∷ power x
    ∷ []

unfoldable pub entry_answer : ℕ → List ℕ → ℕ → Answer
entry_answer bw e n = answer_at (entry_outcome bw e n) 32

-- the lent bytes w afterwards: the numbers little-endian, and past them what they held
unfoldable pub record_read : ℕ → List ℕ → List ℕ → List ℕ
record_read bw e w = after (entry_outcome bw e (length w)) (filled (byte_at (numbers_of (info_of e))) 32 w) w
