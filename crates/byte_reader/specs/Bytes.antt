-- What a call of the reader gives C: its answer, and the lent bytes afterwards.
--
-- 01, "What comes back": "The capture software is written in C and calls reader and writer with numbers and bytes, words then being
-- little-endian. For the reader's room only whole words count".
use Rattle.std.specs.Prelude.{List, ℕ, ◌*◌, ◌/◌, length}
use Rattle.answer.specs.Answer.{after}
use Rattle.answer.specs.Lists.{filled}
use Rattle.answer.specs.declared.Answer.{Answer}
use Rattle.word_bytes.specs.Bytes.{byte_at}
use Rattle.frame_words.specs.Words.{word_count, words_of}
use Rattle.reader.specs.Table.{read_outcome}
use Rattle.reader.specs.Result.{read_answer}

-- "0 and 12 give places in words"
abbrev pub bytes_read_answer : ℕ → List ℕ → List ℕ → List ℕ → Answer
bytes_read_answer bw a b w = read_answer bw a b (length w / 4)

-- the lent bytes afterwards; those past the words keep what they held
unfoldable pub read_bytes : ℕ → List ℕ → List ℕ → List ℕ → List ℕ
read_bytes bw a b w = after (read_outcome bw a b (length w / 4)) (filled (byte_at (words_of bw a b)) (4 * word_count bw a b) w) w
