-- "What follows is padding, not looked at." (01, "Bandwidth and channels"): channels that reach the same ends and agree
-- below them get the same answer and the same words.
use Rattle.std.specs.Prelude.{◌≡◌, true, false, List, ℕ, ◌*◌, ◌≤◌, length, take}
use Rattle.answer.specs.Order.{first_of}
use Rattle.std.specs.Prelude.{Ok}
use Rattle.bits.specs.Bits.{Same}
use Rattle.channel.specs.Layout.{present, count, end_of}
use Rattle.halves.specs.Table.{checks11}

-- t beside s, for channel c: of at most 512 bytes, empty where the bandwidth has no such channel, and where it has one
-- reaching the end of s's last block and agreeing with s below it
pub record Other (bw c : ℕ) (s t : List ℕ) : Type 0 where
  pub short : length t ≤ 512
  pub empty : present bw c ≡ false → length t ≡ 0
  pub reach : present bw c ≡ true → end_of bw (count bw c s) ≤ 8 * length t
  pub agree : present bw c ≡ true → Same s t (end_of bw (count bw c s))

pub record Agree (bw : ℕ) (a b a' b' : List ℕ) : Type 0 where
  pub first : Other bw 1 a a'
  pub second : Other bw 2 b b'

-- a, b get none of 1 to 9
pub record Nine (bw : ℕ) (a b : List ℕ) : Type 0 where
  pub passed : first_of (take 9 (checks11 bw a b)) ≡ Ok tt
