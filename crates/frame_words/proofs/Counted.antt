-- How many words a frame has.
use mathlib.Core.Path.{◌≡◌}
use mathlib.Core.List.{List}
use Prim.Native.Nat.{ℕ, ◌+◌, ◌≤◌}
use native.Mathlib.Omega.{arith}
use Rattle.channel.specs.Layout.{count}
use Rattle.channel.proofs.Laws.{count_le}
use Rattle.frame_words.specs.Words.{word_count}

-- "At most 16 positions of 9 fields: 154 words"
pub word_count_le : (bw : ℕ) (a b : List ℕ) → word_count bw a b ≤ 154
unfolding word_count
word_count_le bw a b = omega (arith, count_le bw 1 a, count_le bw 2 b)

pub counted : (bw : ℕ) (a b : List ℕ) (n m : ℕ) → n ≡ count bw 1 a → m ≡ count bw 2 b → 10 + (n + m) ≡ word_count bw a b
unfolding word_count
counted bw a b n m e f = rw (e, f)
