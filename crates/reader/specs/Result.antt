-- What a call of the reader gives: its answer, and the lent words afterwards.
use Rattle.std.specs.Prelude.{List, ◌++◌, ℕ, length, drop}
use Rattle.answer.specs.Answer.{answer_at, after}
use Rattle.answer.specs.declared.Answer.{Answer}
use Rattle.frame_words.specs.Words.{word_count, words_of}
use Rattle.word_bytes.specs.Lent.{puts}
use Rattle.reader.specs.Table.{read_outcome}

-- "0 | accepted | 0, count of words", or the refusal
unfoldable pub read_answer : ℕ → List ℕ → List ℕ → ℕ → Answer
read_answer bw a b room = answer_at (read_outcome bw a b room) (word_count bw a b)

-- "Words past the count keep what they held"; "Every refusal writes nothing"
unfoldable pub words_after : ℕ → List ℕ → List ℕ → List ℕ → List ℕ
words_after bw a b w = after (read_outcome bw a b (length w)) (words_of bw a b ++ drop (word_count bw a b) w) w

-- the same of words lent in any form, of which so many may be written and each is put where it belongs
unfoldable pub put_after : (List ℕ → ℕ → ℕ → List ℕ) → ℕ → List ℕ → List ℕ → ℕ → List ℕ → List ℕ
put_after put bw a b room w = after (read_outcome bw a b room) (puts put w 0 (words_of bw a b)) w
