-- Answers are by 02's rows in their order (T-02), and a refusal writes nothing.
use mathlib.Core.Path.{◌≡◌, refl}
use mathlib.Core.Bool.{true, not, ◌&&◌, ◌||◌}
use mathlib.Core.List.{List, [], ◌∷◌}
use Prim.Native.Nat.{ℕ, ◌<◌}
use lib.Dec.{ltb, leb, eqb}
use lib.ListN.{length, get_or}
use Rattle.answer.specs.Order.{first_of, Judged, Answers}
use Rattle.answer.specs.Lists.{at, filled}
use Rattle.answer.proofs.Numbers.{only_if, Gives, distinct, absent, judged, number_applies, none, more}
use Rattle.answer.proofs.First.{first_chain}
use Rattle.answer.proofs.Order.{after_answered}
use Rattle.answer.specs.declared.Refusal.TheVariants.{UnknownBandwidth, NotWholeEntries, ReservedBitSet, NotNamed, BufferTooShort, OtherLayout}
use Rattle.word_bytes.specs.Bytes.{byte_at, word_at}
use Rattle.trigger_values.specs.UserInfo.{info_of, aid12, b0, value_in, ps160}
use Rattle.trigger_values.specs.Values.{taken}
use Rattle.trigger.specs.Reading.{above2, not_five, is2007, bit_set, not_taken, no_record_room, entry_outcome, entry_numbers, entry_checks}
use Rattle.trigger.specs.Reading.{numbers_of, entry_answer, record_read}
use Rattle.trigger.specs.Worked.{the_entry, some_entry}
use Rattle.trigger.specs.Writing.{says2007, of_none, no_entry_room, record_outcome, record_numbers, record_checks, record_answer, entry_written}

-- ---- reading
entry_distinct : distinct (0 ∷ entry_numbers) ≡ true
unfolding distinct absent
entry_distinct = refl

entry_gives : (bw : ℕ) (e : List ℕ) (n : ℕ) → Gives entry_numbers (entry_checks bw e n)
unfolding above2 not_five is2007 bit_set not_taken no_record_room
entry_gives bw e n =
    let x = info_of e in
    more (only_if (ltb 2 bw) UnknownBandwidth)
    (more (only_if (not (eqb (length e) 5)) NotWholeEntries)
    (more (only_if (eqb (aid12 x) 2007) (OtherLayout 0))
    (more (only_if (not (eqb (ps160 x) 0) || not (eqb (b0 x) 0)) (ReservedBitSet 0))
    (more (only_if (not (taken bw (value_in x))) (NotNamed 0)) (more (only_if (ltb n 32) (BufferTooShort 32)) none)))))

entry_first : (bw : ℕ) (e : List ℕ) (n : ℕ) → first_of (entry_checks bw e n) ≡ entry_outcome bw e n
unfolding entry_outcome
entry_first bw e n =
    first_chain (above2 bw) (not_five (length e) ∷ is2007 (info_of e) ∷ bit_set (info_of e) ∷ not_taken bw (info_of e) ∷ no_record_room n ∷ [])

pub entry_judged : (bw : ℕ) (e : List ℕ) (n : ℕ) → Judged entry_numbers (entry_checks bw e n) 32 (entry_answer bw e n)
unfolding entry_answer
entry_judged bw e n = rw (entry_first bw e n) at (judged (entry_gives bw e n) entry_distinct 32)

pub record_kept : (bw : ℕ) (e w : List ℕ) → ((entry_answer bw e (length w)).number ≡ 0 → ⊥) → record_read bw e w ≡ w
unfolding entry_answer record_read
record_kept bw e w n = after_answered (entry_outcome bw e (length w)) 32 _ (filled (byte_at (numbers_of (info_of e))) 32 w) w refl n

-- ---- writing
record_distinct : distinct (0 ∷ record_numbers) ≡ true
unfolding distinct absent
record_distinct = refl

record_gives : (bw : ℕ) (t : List ℕ) (n : ℕ) → Gives record_numbers (record_checks bw t n)
unfolding above2 says2007 of_none no_entry_room
record_gives bw t n =
    more (only_if (ltb 2 bw) UnknownBandwidth)
    (more (only_if (leb 4 (length t) && eqb (word_at t 0) 2007) (OtherLayout 0))
    (more (only_if (not (some_entry bw t)) (NotNamed 0)) (more (only_if (ltb n 5) (BufferTooShort 5)) none)))

record_first : (bw : ℕ) (t : List ℕ) (n : ℕ) → first_of (record_checks bw t n) ≡ record_outcome bw t n
unfolding record_outcome
record_first bw t n = first_chain (above2 bw) (says2007 t ∷ of_none bw t ∷ no_entry_room n ∷ [])

pub record_judged : (bw : ℕ) (t : List ℕ) (n : ℕ) → Judged record_numbers (record_checks bw t n) 5 (record_answer bw t n)
unfolding record_answer
record_judged bw t n = rw (record_first bw t n) at (judged (record_gives bw t n) record_distinct 5)

-- a number is its row's
pub record_exactly : (bw : ℕ) (t : List ℕ) (n k : ℕ) → k < 4 → (record_answer bw t n).number ≡ get_or record_numbers k 0
    → Answers (record_checks bw t n) k (record_answer bw t n)
unfolding record_answer
record_exactly bw t n k l e =
    rw (record_first bw t n) at (number_applies (record_gives bw t n) record_distinct 5 k l (rw (← record_first bw t n) at e))

pub entry_kept : (bw : ℕ) (t d : List ℕ) → ((record_answer bw t (length d)).number ≡ 0 → ⊥) → entry_written bw t d ≡ d
unfolding record_answer entry_written
entry_kept bw t d n = after_answered (record_outcome bw t (length d)) 5 _ (filled (at (the_entry t)) 5 d) d refl n
