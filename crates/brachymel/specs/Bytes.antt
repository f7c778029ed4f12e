-- The writer's words as bytes, for C; the reader's are `byte_reader/specs/Bytes.antt`.
--
-- 01, "What comes back": "The capture software is written in C and calls reader and writer with numbers and bytes, words then being
-- little-endian."
use Rattle.std.specs.Prelude.{not, List, [], ◌∷◌, ℕ, ◌%◌, eqb, length}
use Rattle.answer.specs.Answer.{no, refuse_if, ◌or◌, answer_at, after}
use Rattle.answer.specs.declared.Answer.{Answer}
use Rattle.answer.specs.Answer.{Outcome}
use Rattle.answer.specs.declared.Refusal.TheVariants.{NoFrameReads}
use Rattle.halves.specs.Table.{check1}
use Rattle.writer.specs.Worked.{the_channel, the_bytes}
use Rattle.writer.specs.Result.{write_outcome, front, check13, check14}
use Rattle.word_bytes.specs.Bytes.{words_in}

-- "a word text not divisible by four gives the writer's 13"
unfoldable pub ragged : List ℕ → Outcome
ragged t = refuse_if (not (eqb (length t % 4) 0)) NoFrameReads

-- of a text, n and m bytes lent for the channels: 1, 13, 14 in that order
unfoldable pub bytes_outcome : ℕ → List ℕ → ℕ → ℕ → Outcome
bytes_outcome bw t n m = check1 bw or ragged t or write_outcome bw (words_in t) n m

unfoldable pub bytes_write_answer : ℕ → List ℕ → ℕ → ℕ → Answer
bytes_write_answer bw t n m = answer_at (bytes_outcome bw t n m) (the_bytes bw (words_in t))

-- channel c afterwards, which was d
unfoldable pub write_channel : ℕ → List ℕ → ℕ → ℕ → ℕ → List ℕ → List ℕ
write_channel bw t n m c d = after (bytes_outcome bw t n m) (front (the_channel bw (words_in t) c) d) d

-- the writer's rows, of a text: what is no whole words is 13 too
abbrev pub bytes_checks : ℕ → List ℕ → ℕ → ℕ → List Outcome
bytes_checks bw t n m = check1 bw ∷ (ragged t or check13 bw (words_in t)) ∷ check14 bw (words_in t) n m ∷ []
