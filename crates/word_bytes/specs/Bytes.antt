-- Words as bytes.
--
-- 01, "What comes back": "The capture software is written in C and calls reader and writer with numbers and bytes, words then being
-- little-endian."
use Rattle.std.specs.Prelude.{List, ℕ, ◌+◌, ◌*◌, ◌/◌, ◌%◌, ◌^◌, length}
use Rattle.answer.specs.Lists.{build, at}

-- byte 4 i + k of the text is byte k, the lowest first, of word i
unfoldable pub byte_at : List ℕ → ℕ → ℕ
byte_at ws j = at ws (j / 4) / 256 ^ (j % 4) % 256

-- word i of a text of bytes
unfoldable pub word_at : List ℕ → ℕ → ℕ
word_at t i = at t (4 * i) + 256 * (at t (4 * i + 1) + 256 * (at t (4 * i + 2) + 256 * at t (4 * i + 3)))

abbrev pub words_in : List ℕ → List ℕ
words_in t = build (word_at t) (length t / 4)

-- the bytes of words
abbrev pub bytes_in : List ℕ → List ℕ
bytes_in ws = build (byte_at ws) (4 * length ws)
