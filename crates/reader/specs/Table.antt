-- 01's table, "What comes back", for the reader: 1 to 11 (`halves/specs/Table.antt`), and 12.
use Rattle.std.specs.Prelude.{List, [], ◌∷◌, ◌++◌, ℕ, ltb}
use Rattle.answer.specs.Answer.{no, refuse_if}
use Rattle.answer.specs.Order.{first_of}
use Rattle.answer.specs.Answer.{Outcome}
use Rattle.answer.specs.declared.Refusal.TheVariants.{TooFewWords}
use Rattle.halves.specs.Table.{checks11}
use Rattle.frame_words.specs.Words.{word_count}

-- "12 | fewer words lent than 10 plus fields | 0, words needed"
unfoldable pub no_room : ℕ → ℕ → Outcome
no_room need room = refuse_if (ltb room need) (TooFewWords need)

unfoldable pub check12 : ℕ → List ℕ → List ℕ → ℕ → Outcome
check12 bw a b room = no_room (word_count bw a b) room

-- 1 to 12, with room for so many words
abbrev pub read_checks : ℕ → List ℕ → List ℕ → ℕ → List Outcome
read_checks bw a b room = checks11 bw a b ++ (check12 bw a b room ∷ [])

-- "given exactly when (nothing earlier applies)": the first that refuses
unfoldable pub read_outcome : ℕ → List ℕ → List ℕ → ℕ → Outcome
read_outcome bw a b room = first_of (read_checks bw a b room)

abbrev pub read_numbers : List ℕ
read_numbers = 1 ∷ 2 ∷ 3 ∷ 4 ∷ 5 ∷ 6 ∷ 7 ∷ 8 ∷ 9 ∷ 10 ∷ 11 ∷ 12 ∷ []
