-- The sixteen values of a frame: their front is the row.
use mathlib.Core.Path.{◌≡◌}
use mathlib.Core.List.{List}
use Prim.Native.Nat.{ℕ, ◌≤◌}
use lib.ListN.{length, take, replicate}
use Rattle.answer.proofs.Lists.{filled_length}
use Rattle.channel.specs.Layout.{positions, row_at, row, row_in16}
use Rattle.channel.proofs.Laws.{positions_le, row16_front}

pub front : (bw : ℕ) (a b : List ℕ) (n : ℕ) (r : List ℕ) → n ≡ positions bw → r ≡ row_in16 bw a b → take n r ≡ row bw a b
front bw a b n r e f = rw (e, f) (row16_front bw a b)

pub sixteen : (bw : ℕ) (a b : List ℕ) → bw ≤ 4 → length (row_in16 bw a b) ≡ 16
unfolding row_in16
sixteen bw a b l = filled_length (row_at bw a b) (positions bw) (replicate 16 0) (positions_le bw l)
