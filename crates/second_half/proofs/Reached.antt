-- Where 9 passes, a channel that has fields reaches its last block's end.
use mathlib.Core.Path.{◌≡◌}
use mathlib.Core.List.{List}
use Prim.Native.Nat.{ℕ, ◌*◌, ◌≤◌, ◌<◌}
use lib.ListN.{length}
use Rattle.std.specs.Prelude.{Ok}
use Rattle.answer.proofs.Order.{pass_left, pass_right}
use Rattle.channel.specs.Layout.{count, end_of}
use Rattle.faults.specs.Checks.{cut_users}
use Rattle.faults.proofs.Passing.{cut_users_pass}
use Rattle.halves.specs.Table.{check9}

pub reached : (bw : ℕ) (a b : List ℕ) (n m : ℕ) → n ≡ count bw 1 a → m ≡ count bw 2 b → check9 bw a b ≡ Ok tt
    → (0 < n → end_of bw n ≤ 8 * length a) × (0 < m → end_of bw m ≤ 8 * length b)
unfolding check9
reached bw a b n m e f p = (
  rw e (cut_users_pass bw 1 a (pass_left _ (cut_users bw 2 b) p)),
  rw f (cut_users_pass bw 2 b (pass_right (cut_users bw 1 a) _ p)),
)
