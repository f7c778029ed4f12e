-- Words and their bytes are the same, both ways.
--
-- 01, "What comes back": "The capture software is written in C and calls reader and writer with numbers and bytes, words then being
-- little-endian."
use Rattle.std.specs.Prelude.{◌≡◌, List, [], ◌∷◌, ℕ, ◌+◌, ◌*◌, ◌%◌, ◌^◌, ◌<◌, length}
use Rattle.answer.specs.Lists.{at}
use Rattle.word_bytes.specs.Bytes.{word_at, words_in, bytes_in}

-- "32-bit numbers", and bytes
abbrev pub AreWords : List ℕ → Type 0
AreWords ws = (i : ℕ) → at ws i < 2 ^ 32

abbrev pub AreBytes : List ℕ → Type 0
AreBytes t = (j : ℕ) → at t j < 256

-- what byte j of a text is worth in its word: "little-endian", the first of each four 1, the next 256, and so on
abbrev pub worth : List ℕ → ℕ → ℕ
worth t j = at t j * 256 ^ (j % 4)

pub record Inverse : Type 0 where
  pub is_worth : (t : List ℕ) (i : ℕ) → word_at t i ≡ worth t (4 * i) + worth t (4 * i + 1) + worth t (4 * i + 2) + worth t (4 * i + 3)
  -- "Known is 0x61F6": F6 61 00 00
  pub known_bytes : bytes_in (0x61F6 ∷ []) ≡ 0xF6 ∷ 0x61 ∷ 0 ∷ 0 ∷ []
  pub known_word : words_in (0xF6 ∷ 0x61 ∷ 0 ∷ 0 ∷ []) ≡ 0x61F6 ∷ []
  pub words_again : (ws : List ℕ) → AreWords ws → words_in (bytes_in ws) ≡ ws
  pub bytes_again : (t : List ℕ) → AreBytes t → length t % 4 ≡ 0 → bytes_in (words_in t) ≡ t
