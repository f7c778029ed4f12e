-- The row and the User words as parts of what the code holds.
use mathlib.Core.Path.{◌≡◌}
use mathlib.Core.List.{List}
use Prim.Native.Nat.{ℕ}
use lib.ListN.{length, replicate, take}
use Rattle.answer.specs.Lists.{filled}
use Rattle.answer.proofs.Lists.{take_filled, length_build}
use Rattle.channel.specs.Layout.{positions}
use Rattle.words.specs.Engine.{value_of}
use Rattle.streams.specs.Engine.{row_of}

module _ (bw : ℕ) (words row : List ℕ) (p : ℕ) (e : p ≡ positions bw) (f : row ≡ filled (value_of words) p (replicate 16 0)) where
  pub front_row : take p row ≡ row_of bw words
  unfolding row_of
  front_row = rw (f, take_filled (value_of words) p (replicate {A = ℕ} 16 0), e)

  pub front_length : p ≡ length (take p row)
  unfolding row_of
  front_length = rw (front_row, length_build (value_of words) (positions bw)) e
