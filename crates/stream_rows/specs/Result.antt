-- What decoding a number and encoding a row give: 02's refusals in their order (T-11), the answer, and the lent row afterwards.
--
-- "Refusals: 21, users not 2 to 8, a number past the last row, or a row not listed." T-02: "Channel and place are 0 here and in later refusals
-- where none is named; nothing written. A buffer too short for a result of this or a later request gets 23 too, last, with the bytes or records
-- needed as place".
use Rattle.std.specs.Prelude.{Bool, not, ◌&&◌, ◌||◌, List, [], ◌∷◌, ℕ, ltb, leb, eqb, length}
use Rattle.answer.specs.Answer.{no, refuse_if, ◌or◌, answer_at, after}
use Rattle.answer.specs.declared.Answer.{Answer}
use Rattle.answer.specs.Answer.{Outcome}
use Rattle.answer.specs.Every.{every}
use Rattle.answer.specs.Least.{least}
use Rattle.answer.specs.Lists.{at, filled}
use Rattle.answer.specs.declared.Refusal.TheVariants.{NoSuchStreams, BufferTooShort}
use Rattle.stream_rows.specs.Rows.{row_in}
use Rattle.stream_rows.specs.Worked.{the_rows, is_listed}

-- "users not 2 to 8"
abbrev pub not2to8 : ℕ → Bool
not2to8 users = ltb users 2 || ltb 8 users

-- ---- a number, into a row of n bytes
-- 21: "users not 2 to 8, a number past the last row"
unfoldable pub no_row : ℕ → ℕ → Outcome
no_row users number = refuse_if (not2to8 users || leb (length (the_rows users)) number) NoSuchStreams

-- 23
unfoldable pub no_row_room : ℕ → ℕ → Outcome
no_row_room users n = refuse_if (ltb n users) (BufferTooShort users)

unfoldable pub row_outcome : ℕ → ℕ → ℕ → Outcome
row_outcome users number n = no_row users number or no_row_room users n

abbrev pub row_numbers : List ℕ
row_numbers = 21 ∷ 23 ∷ []

abbrev pub row_checks : ℕ → ℕ → ℕ → List Outcome
row_checks users number n = no_row users number ∷ no_row_room users n ∷ []

unfoldable pub row_answer : ℕ → ℕ → ℕ → Answer
row_answer users number n = answer_at (row_outcome users number n) users

-- the lent bytes w afterwards: the row's entries, and past them what they held
unfoldable pub row_after : ℕ → ℕ → List ℕ → List ℕ
row_after users number w = after (row_outcome users number (length w)) (filled (at (row_in (the_rows users) number)) users w) w

-- ---- a row, to its number
-- 21: "users not 2 to 8, .. or a row not listed"
unfoldable pub not_row : List ℕ → Outcome
not_row row = refuse_if (not2to8 (length row) || not (is_listed row)) NoSuchStreams

abbrev pub number_numbers : List ℕ
number_numbers = 21 ∷ []

abbrev pub number_checks : List ℕ → List Outcome
number_checks row = not_row row ∷ []

-- two rows with the same entries
unfoldable pub same : List ℕ → List ℕ → Bool
same a b = eqb (length a) (length b) && every (λ i. eqb (at a i) (at b i)) (length a)

-- the lowest number whose row this is; as many as there are rows where there is none
unfoldable pub number_of : List ℕ → ℕ
number_of row = least (λ k. same (row_in (the_rows (length row)) k) row) (length (the_rows (length row)))

unfoldable pub number_answer : List ℕ → Answer
number_answer row = answer_at (not_row row) (number_of row)
