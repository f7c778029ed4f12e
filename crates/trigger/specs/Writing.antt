-- What writing a record gives: 02's refusals in their order (T-02), the answer, and the lent entry afterwards.
--
-- "the writer gives the five bytes back, or the reader's refusal, 17 where no bytes read to it."
use Rattle.std.specs.Prelude.{not, ◌&&◌, List, [], ◌∷◌, ℕ, ltb, leb, eqb, length}
use Rattle.answer.specs.Answer.{no, refuse_if, ◌or◌, answer_at, after}
use Rattle.answer.specs.declared.Answer.{Answer}
use Rattle.answer.specs.Answer.{Outcome}
use Rattle.answer.specs.Lists.{at, filled}
use Rattle.answer.specs.declared.Refusal.TheVariants.{NotNamed, BufferTooShort, OtherLayout}
use Rattle.word_bytes.specs.Bytes.{word_at}
use Rattle.trigger.specs.Reading.{above2}
use Rattle.trigger.specs.Worked.{the_entry, some_entry}

-- 24: the record t has a first number, and it is 2007
unfoldable pub says2007 : List ℕ → Outcome
says2007 t = refuse_if (leb 4 (length t) && eqb (word_at t 0) 2007) (OtherLayout 0)

-- 17: no five bytes read to exactly this record
unfoldable pub of_none : ℕ → List ℕ → Outcome
of_none bw t = refuse_if (not (some_entry bw t)) (NotNamed 0)

-- 23, of n bytes lent
unfoldable pub no_entry_room : ℕ → Outcome
no_entry_room n = refuse_if (ltb n 5) (BufferTooShort 5)

unfoldable pub record_outcome : ℕ → List ℕ → ℕ → Outcome
record_outcome bw t n = above2 bw or says2007 t or of_none bw t or no_entry_room n

abbrev pub record_numbers : List ℕ
record_numbers = 1 ∷ 24 ∷ 17 ∷ 23 ∷ []

abbrev pub record_checks : ℕ → List ℕ → ℕ → List Outcome
record_checks bw t n = above2 bw ∷ says2007 t ∷ of_none bw t ∷ no_entry_room n ∷ []

unfoldable pub record_answer : ℕ → List ℕ → ℕ → Answer
record_answer bw t n = answer_at (record_outcome bw t n) 5

-- the lent bytes d afterwards
unfoldable pub entry_written : ℕ → List ℕ → List ℕ → List ℕ
entry_written bw t d = after (record_outcome bw t (length d)) (filled (at (the_entry t)) 5 d) d
