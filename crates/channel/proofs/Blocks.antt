-- Where the User fields and their blocks lie: apart, in order, after the common field and before the end of the channel.
use mathlib.Core.Path.{◌≡◌}
use mathlib.Core.Bool.{Bool, true, false, cond}
use Prim.Native.Nat.{ℕ, ◌+◌, ◌*◌, ◌/◌, ◌%◌, ◌≤◌, ◌<◌}
use native.Mathlib.Decide.{dec_lt}
use native.Mathlib.Omega.{arith}
use lib.Dec.{ltb}
use borrow.Author.Tests.{lt-ltb, le-ltb}
use Rattle.channel.specs.Layout.{common, user_at, block_at, blocks, covered, end_of}

pub user_even : (bw b : ℕ) → user_at bw (2 * b) ≡ block_at bw b
unfolding user_at block_at
user_even bw b = omega arith

pub user_odd : (bw b : ℕ) → user_at bw (2 * b + 1) ≡ block_at bw b + 22
unfolding user_at block_at
user_odd bw b = omega arith

-- no two User fields share a bit, and all lie after the common field
pub users_apart : (bw i j : ℕ) → i < j → user_at bw i + 22 ≤ user_at bw j
unfolding user_at
users_apart bw i j h = omega arith

pub user_after : (bw i : ℕ) → common bw ≤ user_at bw i
unfolding user_at
user_after bw i = omega arith

pub block_after : (bw b : ℕ) → common bw ≤ block_at bw b
unfolding block_at
block_after bw b = omega arith

pub covered_two : (n b : ℕ) → 2 * b + 1 < n → covered n b ≡ 44
unfolding covered
covered_two n b h = rw (lt-ltb (2 * b + 1) n h)

pub covered_one : (n b : ℕ) → n ≤ 2 * b + 1 → covered n b ≡ 22
unfolding covered
covered_one n b h = rw (le-ltb (2 * b + 1) n h)

pub covered_le : (n b : ℕ) → covered n b ≤ 44
unfolding covered
covered_le n b = go (ltb (2 * b + 1) n)
  where
    go : (t : Bool) → cond t 44 22 ≤ 44
    go true = omega arith
    go false = omega arith

-- User field i is covered by its block's check
pub user_inside : (bw n i : ℕ) → i < n → (block_at bw (i / 2) ≤ user_at bw i) × (user_at bw i + 22 ≤ block_at bw (i / 2) + covered n (i / 2))
unfolding user_at block_at
user_inside bw n i h = go (dec_lt (2 * (i / 2) + 1) n)
  where
    go : Dec (2 * (i / 2) + 1 < n)
        → (common bw + 54 * (i / 2) ≤ common bw + 54 * (i / 2) + 22 * (i % 2))
        × (common bw + 54 * (i / 2) + 22 * (i % 2) + 22 ≤ common bw + 54 * (i / 2) + covered n (i / 2))
    go (yes l) = (omega arith, omega (arith, covered_two n (i / 2) l))
    go (no l) = (omega arith, omega (arith, covered_one n (i / 2) (omega arith)))

-- a block ends before the next, and the last at the channel's end
pub blocks_apart : (bw n b : ℕ) → block_at bw b + covered n b + 10 ≤ block_at bw (b + 1)
unfolding block_at
blocks_apart bw n b = omega (arith, covered_le n b)

pub block_inside : (bw n b : ℕ) → b < blocks n → block_at bw b + covered n b + 10 ≤ end_of bw n
unfolding block_at blocks end_of
block_inside bw n b h = go (dec_lt (2 * b + 1) n)
  where
    go : Dec (2 * b + 1 < n) → common bw + 54 * b + covered n b + 10 ≤ common bw + 54 * (n / 2) + 32 * (n % 2)
    go (yes l) = omega (arith, covered_two n b l)
    go (no l) = omega (arith, covered_one n b (omega arith))

pub last_block : (bw n b : ℕ) → blocks n ≡ b + 1 → block_at bw b + covered n b + 10 ≡ end_of bw n
unfolding block_at blocks end_of
last_block bw n b e = go (dec_lt (2 * b + 1) n)
  where
    go : Dec (2 * b + 1 < n) → common bw + 54 * b + covered n b + 10 ≡ common bw + 54 * (n / 2) + 32 * (n % 2)
    go (yes l) = omega (arith, covered_two n b l)
    go (no l) = omega (arith, covered_one n b (omega arith))

pub user_end : (bw n i : ℕ) → i < n → user_at bw i + 32 ≤ end_of bw n
unfolding user_at end_of
user_end bw n i h = omega arith

pub end_none : (bw : ℕ) → end_of bw 0 ≡ common bw
unfolding end_of
end_none bw = omega arith

pub end_after : (bw n : ℕ) → common bw ≤ end_of bw n
unfolding end_of
end_after bw n = omega arith
