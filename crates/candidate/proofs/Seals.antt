-- What sealing a block gives, a right check before a tail of zeros, and what it leaves: the rest, the length, bytes.
use mathlib.Core.Path.{◌≡◌, refl, sym, ◌∙◌}
use mathlib.Core.Logic.{⊎_elim}
use mathlib.Core.Bool.{Bool, true, false, cond}
use mathlib.Core.List.{List}
use Prim.Native.Nat.{ℕ, zero, suc, ◌+◌, ◌*◌, ◌^◌, ◌≤◌, ◌<◌}
use native.Mathlib.Nat.{eq-or-lt_of_le, mod-eq_of_lt, zero-div, zero-mod}
use native.Mathlib.Omega.{arith}
use lib.ListN.{length}
use Rattle.bits.specs.Bits.{bit, put, Small}
use Rattle.bits.proofs.Fields.{field_of}
use Rattle.bits.proofs.Writes.{put_length, put_small, put_before, put_after, field_put}
use Rattle.block.specs.Check.{check, Right}
use Rattle.block.proofs.Checks.{check_lt, check_ext, right_says, says_right, right_ext}
use Rattle.channel.specs.Layout.{second_at, second_bits, has_second, common, block_at, blocks, covered}
use Rattle.channel.proofs.Blocks.{covered_le}
use Rattle.candidate.specs.Engine.{seal, seal_second, seal_blocks}
use Rattle.candidate.proofs.Puts.{Off, put_off}

-- ---- what sealing a block gives and leaves

module _ (x n : ℕ) (d : List ℕ) where
  pub seal_length : length (seal x n d) ≡ length d
  unfolding seal
  seal_length = put_length d (x + n) 4 (check d x n)

  pub seal_off : (i : ℕ) → Off (x + n) 4 i → bit (seal x n d) i ≡ bit d i
  unfolding seal
  seal_off i h = put_off d (x + n) 4 (check d x n) i h

  -- the check is the one of what stands before it, and a tail of zeros stays one
  pub seal_right : x + n + 4 ≤ 8 * length d → ((k : ℕ) → k < 6 → bit d (x + n + 4 + k) ≡ 0) → Right (seal x n d) x n
  unfolding seal
  seal_right l z =
      record {
        checked =
            field_put d (x + n) 4 (check d x n) l
            ∙ mod-eq_of_lt (check_lt d x n)
            ∙ check_ext d (put d (x + n) 4 (check d x n)) x x n (λ k m. sym (put_before d (x + n) 4 (check d x n) (x + k) (omega arith)));
        ended =
            field_of (put d (x + n) 4 (check d x n)) (x + n + 4) 6 0
            (λ k m. put_after d (x + n) 4 (check d x n) (x + n + 4 + k) (omega arith) ∙ z k m ∙ sym (rw (zero-div (2 ^ k))))
            ∙ zero-mod (2 ^ 6);
      }

-- a block that another put leaves is still right
pub right_kept : (s t : List ℕ) (x n : ℕ) → ((i : ℕ) → x ≤ i → i < x + n + 10 → bit t i ≡ bit s i) → Right s x n → Right t x n
right_kept s t x n h r =
    right_says t x n (right_ext t s x x n (λ k l. h (x + k) (omega arith) (omega arith)) ∙ says_right s x n r)

module _ (bw n : ℕ) (d : List ℕ) where
  pub blocks_length : (m : ℕ) → length (seal_blocks bw n m d) ≡ length d
  unfolding seal_blocks
  blocks_length zero = refl
  blocks_length (suc b) = seal_length (block_at bw b) (covered n b) (seal_blocks bw n b d) ∙ blocks_length b

  pub blocks_off : (m i : ℕ) → ((b : ℕ) → b < m → Off (block_at bw b + covered n b) 4 i) → bit (seal_blocks bw n m d) i ≡ bit d i
  unfolding seal_blocks
  blocks_off zero i h = refl
  blocks_off (suc b) i h =
      seal_off (block_at bw b) (covered n b) (seal_blocks bw n b d) i (h b (omega arith))
      ∙ blocks_off b i (λ k l. h k (omega arith))

  -- where every tail is zero, sealing makes every block right
  module _ (inside : (b : ℕ) → b < blocks n → block_at bw b + covered n b + 4 ≤ 8 * length d)
      (tail : (b : ℕ) → b < blocks n → (k : ℕ) → k < 6 → bit d (block_at bw b + covered n b + 4 + k) ≡ 0) where
    pub blocks_right : (m : ℕ) → m ≤ blocks n → (b : ℕ) → b < m → Right (seal_blocks bw n m d) (block_at bw b) (covered n b)
    unfolding seal_blocks block_at
    blocks_right zero l b h = absurd (omega arith)
    blocks_right (suc m) l b h =
        ⊎_elim
        (λ (e : b ≡ m).
        rw e (seal_right (common bw + 54 * m) (covered n m) (seal_blocks bw n m d)
        (omega (arith, inside m (omega arith), blocks_length m))
        (λ k j.
        blocks_off m (common bw + 54 * m + covered n m + 4 + k) (λ c g p q. omega (arith, covered_le n c))
        ∙ tail m (omega arith) k j)))
        (λ (e : b < m).
        right_kept (seal_blocks bw n m d) (seal (common bw + 54 * m) (covered n m) (seal_blocks bw n m d)) (common bw + 54 * b) (covered n b)
        (λ i p q. seal_off (common bw + 54 * m) (covered n m) (seal_blocks bw n m d) i (λ u y. omega (arith, covered_le n b)))
        (blocks_right m (omega arith) b e))
        (eq-or-lt_of_le {n = b} {m = m} (omega arith))

-- ---- the second common check

pub second_length : (bw : ℕ) (d : List ℕ) → length (seal_second bw d) ≡ length d
unfolding seal_second
second_length bw d = go (has_second bw)
  where
    go : (t : Bool) → length (cond t (seal (second_at bw) (second_bits bw) d) d) ≡ length d
    go true = seal_length (second_at bw) (second_bits bw) d
    go false = refl

pub second_off : (bw : ℕ) (d : List ℕ) (i : ℕ) → (has_second bw ≡ true → Off (second_at bw + second_bits bw) 4 i) → bit (seal_second bw d) i ≡ bit d i
unfolding seal_second
second_off bw d i h = go (has_second bw) refl
  where
    go : (t : Bool) → has_second bw ≡ t → bit (cond t (seal (second_at bw) (second_bits bw) d) d) i ≡ bit d i
    go true e = seal_off (second_at bw) (second_bits bw) d i (h e)
    go false e = refl

pub second_there : (bw : ℕ) (d : List ℕ) → has_second bw ≡ true → seal_second bw d ≡ seal (second_at bw) (second_bits bw) d
unfolding seal_second
second_there bw d e = rw e

-- and every element is a byte
pub seal_small : (x n : ℕ) (d : List ℕ) → Small (seal x n d)
unfolding seal
seal_small x n d = put_small d (x + n) 4 (check d x n)

pub second_small : (bw : ℕ) (d : List ℕ) → Small d → Small (seal_second bw d)
unfolding seal_second
second_small bw d h = go (has_second bw)
  where
    go : (t : Bool) → Small (cond t (seal (second_at bw) (second_bits bw) d) d)
    go true = seal_small (second_at bw) (second_bits bw) d
    go false = h

pub blocks_small : (bw n m : ℕ) (d : List ℕ) → Small d → Small (seal_blocks bw n m d)
unfolding seal_blocks
blocks_small bw n zero d h = h
blocks_small bw n (suc b) d h = seal_small (block_at bw b) (covered n b) (seal_blocks bw n b d)
