-- The fields of a block out of a number that starts with it, and what is wrong with any block, gathered.
use Prim.Native.Nat.{ℕ, ◌+◌, ◌-◌, ◌*◌, ◌/◌, ◌%◌, ◌^◌, ◌≤◌, ◌<◌}
use mathlib.Core.Path.{◌≡◌, refl, sym, ◌∙◌, ap, ap₂}
use mathlib.Core.Bool.{true, false, ◌&&◌, false≢true}
use mathlib.Core.List.{List}
use mathlib.Core.Logic.{⊎_elim}
use native.Mathlib.Omega.{arith}
use lib.Bits.{bit_xor, bit_and, bit_or}
use lib.ListN.{length, set, take, drop}
use borrow.Author.Tests.{lt-ltb, le-ltb}
use borrow.Rule.Slice.PartMut.{put_mid}
use Rattle.answer.specs.Answer.{◌or◌}
use Rattle.answer.specs.Answer.{Outcome}
use Rattle.std.specs.Prelude.{Ok}
use Rattle.answer.specs.Every.{every}
use Rattle.answer.specs.Lists.{filled}
use Rattle.answer.proofs.Every.{every_next, every_at, all_every}
use Rattle.answer.proofs.Lists.{filled_step, filled_cong, filled_length}
use Rattle.answer.proofs.Grow.{grown}
use Rattle.answer.proofs.Order.{pass_or_refuse, or_refuse}
use Rattle.bits.specs.Bits.{field}
use Rattle.bits.proofs.Fields.{field_part}
use Rattle.bits.proofs.Windows.{field_low, field_rest}
use Rattle.register.specs.Engine.{quotient, all_right, right_of}
use Rattle.register.proofs.Word.{right_leaving}
use Rattle.register.proofs.Gathered.{right_more}
use Rattle.block.specs.Check.{right}
use Rattle.block.proofs.Checks.{right_says, says_right}
use Rattle.block.proofs.Word.{right_whole}
use Rattle.channel.specs.Layout.{user, user_of, block_at, covered, blocks, count, end_of}
use Rattle.channel.proofs.Blocks.{user_even, user_odd, block_after, covered_two}
use Rattle.channel.proofs.Laws.{common_ge}
use Rattle.faults.specs.Checks.{wrong_users}
use Rattle.faults.proofs.Passing.{wrong_users_pass, pass_wrong_users}
use Rattle.user_fields.specs.Engine.{block_right, users_right}

-- ---- the window that a block is read through

-- what is left of the eight bytes before byte j from bit `at` of them
pub window_to : (s : List ℕ) (at j w : ℕ) → 8 ≤ j → 8 * (j - 8) ≤ at → at ≤ 8 * j → w ≡ field s (8 * (j - 8)) 64
    → w / 2 ^ (at - 8 * (j - 8)) ≡ field s at (8 * j - at)
window_to s at j w h l m e =
    let k : 8 * (j - 8) + (at - 8 * (j - 8)) ≡ at = omega arith in
    let n : 64 - (at - 8 * (j - 8)) ≡ 8 * j - at = omega arith in
    ap (λ (x : ℕ). x / 2 ^ (at - 8 * (j - 8))) e
    ∙ field_rest s (8 * (j - 8)) 64 (at - 8 * (j - 8)) (omega arith)
    ∙ ap₂ (field s) k n

-- a block of two fields, and the last of one, end where eight bytes have gone by, and not after the channel's end
module _ (bw : ℕ) where
  pub two_high : (b : ℕ) → 57 ≤ block_at bw b + 54
  two_high b = omega (arith, common_ge bw, block_after bw b)

  pub one_high : (b : ℕ) → 57 ≤ block_at bw b + 32
  one_high b = omega (arith, common_ge bw, block_after bw b)

  pub two_inside : (n b : ℕ) → 2 * b + 1 < n → block_at bw b + 54 ≤ end_of bw n
  unfolding block_at end_of
  two_inside n b l = omega arith

  pub one_inside : (n : ℕ) → n % 2 ≡ 1 → block_at bw (n / 2) + 32 ≤ end_of bw n
  unfolding block_at end_of
  one_inside n e = omega arith

-- ---- a number w that starts with block b

module _ (bw b : ℕ) (s : List ℕ) (k w : ℕ) (e : w ≡ field s (block_at bw b) k) where
  pub first_is : 22 ≤ k → w % 2 ^ 22 ≡ user bw s (2 * b)
  first_is l =
      ap (λ (x : ℕ). x % 2 ^ 22) e
      ∙ field_low s (block_at bw b) k 22 l
      ∙ ap (λ (i : ℕ). field s i 22) (sym (user_even bw b))

  pub second_is : 44 ≤ k → w / 2 ^ 22 % 2 ^ 22 ≡ user bw s (2 * b + 1)
  second_is l =
      ap (λ (x : ℕ). x / 2 ^ 22 % 2 ^ 22) e
      ∙ field_part s (block_at bw b) k 22 22 l
      ∙ ap (λ (i : ℕ). field s i 22) (sym (user_odd bw b))

-- the test of a block of n fields in it
pub test_is : (bw b : ℕ) (s : List ℕ) (n c k w : ℕ) → w ≡ field s (block_at bw b) k → covered n b ≡ c → c + 10 ≤ k → right_of w c ≡ block_right bw s n b
unfolding block_right
test_is bw b s n c k w e f l =
    right_whole s (block_at bw b) c w (ap (λ (x : ℕ). x % 2 ^ (c + 10)) e ∙ field_low s (block_at bw b) k (c + 10) l)
    ∙ ap (right s (block_at bw b)) (sym f)

-- ---- the blocks of two, one more at a time

pub right_next : (bw b : ℕ) (s : List ℕ) (n q x k w : ℕ) → w < 2 ^ 64 → w ≡ field s (block_at bw b) k → 54 ≤ k → 2 * b + 1 < n
    → all_right q x 44 ≡ every (block_right bw s n) b
    → all_right (bit_and q (quotient (bit_xor 255 w))) (bit_or x w) 44 ≡ every (block_right bw s n) (b + 1)
right_next bw b s n q x k w h e m l i =
    right_more q x (quotient (bit_xor 255 w)) w 44
    ∙ ap₂ ◌&&◌ i (right_leaving w 44 h (omega arith) ∙ test_is bw b s n 44 k w e (covered_two n b l) m)
    ∙ every_next (block_right bw s n) b

pub two_more : (f : ℕ → ℕ) (b x y : ℕ) (out w : List ℕ) → 2 * b + 1 < length w → out ≡ filled f (2 * b) w → x ≡ f (2 * b) → y ≡ f (2 * b + 1)
    → set (set out (2 * b) x) (2 * b + 1) y ≡ filled f (2 * (b + 1)) w
two_more f b x y out w l e p q =
    let two : 2 * b + 1 + 1 ≡ 2 * (b + 1) = omega arith in
    ap (λ (z : List ℕ). set (set z (2 * b) x) (2 * b + 1) y) e
    ∙ ap (λ (z : List ℕ). set z (2 * b + 1) y) (filled_step f (2 * b) x w (omega arith) p)
    ∙ filled_step f (2 * b + 1) y w l q
    ∙ ap (λ (j : ℕ). filled f j w) two

-- ---- all of a channel's

pub even_right : (bw : ℕ) (s : List ℕ) (n : ℕ) → n % 2 ≡ 0 → every (block_right bw s n) (n / 2) ≡ users_right bw s n
unfolding users_right blocks
even_right bw s n e = let h : n / 2 ≡ (n + 1) / 2 = omega arith in ap (every (block_right bw s n)) h

pub odd_right : (bw : ℕ) (s : List ℕ) (n : ℕ) → n % 2 ≡ 1 → every (block_right bw s n) (n / 2) && block_right bw s n (n / 2) ≡ users_right bw s n
unfolding users_right blocks
odd_right bw s n e =
    let h : n / 2 + 1 ≡ (n + 1) / 2 = omega arith in
    every_next (block_right bw s n) (n / 2) ∙ ap (every (block_right bw s n)) h

pub odd_filled : (f : ℕ → ℕ) (n : ℕ) (out w : List ℕ) → n ≤ length w → n % 2 ≡ 1 → out ≡ filled f (2 * (n / 2)) w → set out (n - 1) (f (n - 1)) ≡ filled f n w
odd_filled f n out w l e h =
    let p : 2 * (n / 2) ≡ n - 1 = omega arith in
    let q : n - 1 + 1 ≡ n = omega arith in
    ap (λ (z : List ℕ). set z (n - 1) (f (n - 1))) (h ∙ ap (λ (j : ℕ). filled f j w) p)
    ∙ filled_step f (n - 1) (f (n - 1)) w (omega arith) refl
    ∙ ap (λ (j : ℕ). filled f j w) q

-- a channel of no fields has no block
pub none_right : (bw : ℕ) (s : List ℕ) (n : ℕ) → n ≡ 0 → users_right bw s n ≡ true
unfolding users_right blocks
none_right bw s n e = rw e refl

-- ---- 10: a channel's passes where all its blocks are right, and only there

module _ (bw c : ℕ) (s : List ℕ) (n : ℕ) (e : n ≡ count bw c s) where
  pub right_passes : users_right bw s n ≡ true → wrong_users bw c s ≡ Ok tt
  unfolding users_right block_right
  right_passes h =
      pass_wrong_users bw c s
      (λ b l.
      right_says s (block_at bw b) (covered (count bw c s) b)
      (every_at (block_right bw s (count bw c s)) (blocks (count bw c s)) (rw e at h) b l))

  pub wrong_refuses : users_right bw s n ≡ false → wrong_users bw c s ≡ Ok tt → ⊥
  unfolding users_right block_right
  wrong_refuses h p =
      false≢true
      (sym h
      ∙ rw e
      (all_every (block_right bw s (count bw c s)) (blocks (count bw c s))
      (λ b l. says_right s (block_at bw b) (covered (count bw c s) b) (wrong_users_pass bw c s p b l))))

  -- so it is the answer of both, where it is the first
  pub wrong_first_lem : (o : Outcome) → users_right bw s n ≡ false → wrong_users bw c s ≡ wrong_users bw c s or o
  wrong_first_lem o h =
      ⊎_elim (λ p. absurd (wrong_refuses h p)) (λ r. r.1 ∙ sym (or_refuse (wrong_users bw c s) o r.0 r.1)) (pass_or_refuse (wrong_users bw c s))

-- ---- the numbers of both channels

pub user_one : (bw : ℕ) (a b : List ℕ) (n i : ℕ) → i < n → user bw a i ≡ user_of bw a b n i
unfolding user_of
user_one bw a b n i l = rw (lt-ltb i n l)

pub user_other : (bw : ℕ) (a b : List ℕ) (n i : ℕ) → user bw b i ≡ user_of bw a b n (n + i)
unfolding user_of
user_other bw a b n i = let e : n + i - n ≡ i = omega arith in rw (le-ltb (n + i) n (omega arith), e)

pub both_filled : (bw : ℕ) (a b w v ys : List ℕ) (n m : ℕ) → n ≤ length w → v ≡ filled (user bw a) n w
    → ys ≡ filled (user bw b) m (take (length v - n) (drop n v)) → put_mid n (length v - n) v ys ≡ filled (user_of bw a b n) (n + m) w
both_filled bw a b w v ys n m l e f =
    let g = ap length e ∙ filled_length (user bw a) n w l in
    grown (user_of bw a b n) (user bw b) w v ys n m (omega arith)
    (e ∙ filled_cong (user bw a) (user_of bw a b n) n w (λ i h. user_one bw a b n i h))
    (λ i h. user_other bw a b n i)
    f

-- where channel 2 has none, channel 1's are all
pub one_filled : (bw : ℕ) (a b w v : List ℕ) (n m : ℕ) → m ≡ 0 → v ≡ filled (user bw a) n w → v ≡ filled (user_of bw a b n) (n + m) w
one_filled bw a b w v n m z e =
    let k : n ≡ n + m = omega arith in
    e ∙ filled_cong (user bw a) (user_of bw a b n) n w (λ i h. user_one bw a b n i h) ∙ ap (λ (j : ℕ). filled (user_of bw a b n) j w) k
