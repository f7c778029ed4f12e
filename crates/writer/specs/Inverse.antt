-- What "gives the same channels back" and "no accepted pair of channels reads to" say (the second demand).
use Rattle.std.specs.Prelude.{◌≡◌, true, false, List, ℕ, ◌*◌, ◌≤◌, ◌<◌, length, take, drop}
use Rattle.answer.specs.Answer as A
use Rattle.answer.specs.declared.Answer.{Answer}
use Rattle.bits.specs.Bits.{bit}
use Rattle.channel.specs.Layout.{present, count, end_of}
use Rattle.reader.specs.Result as R
use Rattle.candidate.specs.Length.{bytes_for}

-- ---- reading, from its contract's equations

-- `read`, with room w₀, accepts a and b with exactly the words w
pub record Accepts (bw : ℕ) (a b w₀ w : List ℕ) : Type 0 where
  pub number_0 : (R.read_answer bw a b (length w₀)).number ≡ 0
  pub exactly : take (R.read_answer bw a b (length w₀)).place (R.words_after bw a b w₀) ≡ w

-- ---- (a) write after read

-- what stands in lent channel c, which was d and is d', after writing k bytes of what was read from s
pub record Given (bw c : ℕ) (s d d' : List ℕ) (k : ℕ) : Type 0 where
  pub same : (i : ℕ) → i < end_of bw (count bw c s) → bit d' i ≡ bit s i
  pub zero_past : (i : ℕ) → end_of bw (count bw c s) ≤ i → i < 8 * k → bit d' i ≡ 0
  pub kept : drop k d' ≡ drop k d

-- a and b were read; x and y are the lent channels, x' and y' what they are then
pub record GivenBack (bw : ℕ) (a b x y x' y' : List ℕ) (r : Answer) : Type 0 where
  pub answered : r ≡ A.no 0 0 (bytes_for bw (count bw 1 a) (count bw 2 b))
  pub channel_1 : Given bw 1 a x x' r.place
  pub channel_2 : present bw 2 ≡ true → Given bw 2 b y y' r.place
  pub untouched : present bw 2 ≡ false → y' ≡ y
