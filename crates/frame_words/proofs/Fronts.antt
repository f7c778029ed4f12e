-- A frame's words, put one after the other from the first on, are the front of what is lent.
use mathlib.Core.Path.{◌≡◌, ◌∙◌, ap}
use mathlib.Core.List.{List, ◌++◌}
use Prim.Native.Nat.{ℕ, ◌+◌, ◌*◌, ◌≤◌}
use native.Mathlib.Omega.{arith}
use lib.ListN.{length, drop, length-append}
use Rattle.std.specs.Prelude.{slice_set}
use Rattle.answer.specs.Lists.{filled}
use Rattle.answer.proofs.Lists.{length_build}
use Rattle.channel.specs.Layout.{count}
use Rattle.word_bytes.specs.Bytes.{byte_at}
use Rattle.word_bytes.specs.Engine.{word_put}
use Rattle.word_bytes.specs.Lent.{puts}
use Rattle.word_bytes.proofs.Fronts as F
use Rattle.frame_words.specs.Words.{word_count, user_word_at, user_words, header_of, words_of_row}

module _ (bw : ℕ) (r a b : List ℕ) where
  -- ten and one for each User field
  row_length : length (words_of_row bw r a b) ≡ word_count bw a b
  unfolding words_of_row word_count
  row_length =
      length-append (header_of bw r a) (user_words bw r 1 a ++ user_words bw r 2 b)
      ∙ ap (λ (n : ℕ). 10 + n)
      (length-append (user_words bw r 1 a) (user_words bw r 2 b)
      ∙ omega (arith, length_build (user_word_at bw r 1 a) (count bw 1 a), length_build (user_word_at bw r 2 b) (count bw 2 b)))

  pub words_front : (w : List ℕ) → word_count bw a b ≤ length w
      → puts slice_set w 0 (words_of_row bw r a b) ≡ words_of_row bw r a b ++ drop (word_count bw a b) w
  words_front w l =
      F.numbers_front w (words_of_row bw r a b) (rw row_length l) ∙ ap (λ (n : ℕ). words_of_row bw r a b ++ drop n w) row_length

  pub bytes_front : (w : List ℕ) → 4 * word_count bw a b ≤ length w
      → puts word_put w 0 (words_of_row bw r a b) ≡ filled (byte_at (words_of_row bw r a b)) (4 * word_count bw a b) w
  bytes_front w l =
      F.bytes_front w (words_of_row bw r a b) (rw row_length l) ∙ ap (λ (n : ℕ). filled (byte_at (words_of_row bw r a b)) (4 * n) w) row_length
