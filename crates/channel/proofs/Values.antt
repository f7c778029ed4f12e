-- Where the RU Allocation subfields lie: in the common field, and no two share a bit.
use mathlib.Core.Path.{◌≡◌}
use mathlib.Core.Bool.{true, cond}
use Prim.Native.Nat.{ℕ, ◌+◌, ◌-◌, ◌*◌, ◌≤◌, ◌<◌}
use native.Mathlib.Decide.{dec_lt}
use native.Mathlib.Omega.{arith}
use lib.Dec.{ltb}
use borrow.Author.Tests.{lt-ltb, le-ltb}
use Rattle.channel.specs.Layout.{firsts, seconds, first_bits, second_at, second_bits, has_second, common, subfields, value_at}
use Rattle.channel.proofs.Laws.{first_inside, second_inside}

-- the first ones follow the overflow and end where the first check stands
pub value_first : (bw k : ℕ) → k < firsts bw → (value_at bw k ≡ 17 + 9 * k) × (value_at bw k + 9 ≤ first_bits bw)
unfolding value_at first_bits
value_first bw k h = (rw (lt-ltb k (firsts bw) h), rw (lt-ltb k (firsts bw) h) (omega arith))

-- the others follow the first tail and end where the second check stands
pub value_second : (bw k : ℕ) → firsts bw ≤ k → k < subfields bw
    → (value_at bw k ≡ second_at bw + 9 * (k - firsts bw)) × (value_at bw k + 9 ≤ second_at bw + second_bits bw) × (has_second bw ≡ true)
unfolding value_at subfields second_bits has_second
value_second bw k h l =
    (rw (le-ltb k (firsts bw) h), rw (le-ltb k (firsts bw) h) (omega arith), lt-ltb 0 (seconds bw) (omega arith))

pub value_inside : (bw k : ℕ) → k < subfields bw → value_at bw k + 9 ≤ common bw
value_inside bw k h = go (dec_lt k (firsts bw))
  where
    go : Dec (k < firsts bw) → value_at bw k + 9 ≤ common bw
    go (yes l) = omega (arith, (value_first bw k l).1, first_inside bw)
    go (no l) =
        let v = value_second bw k (omega arith) h in
        omega (arith, v.1, second_inside bw v.2)

-- no two share a bit
pub values_apart : (bw j k : ℕ) → j < k → value_at bw j + 9 ≤ value_at bw k
unfolding value_at second_at first_bits
values_apart bw j k h = go (dec_lt j (firsts bw)) (dec_lt k (firsts bw))
  where
    go : Dec (j < firsts bw) → Dec (k < firsts bw)
        → cond (ltb j (firsts bw)) (17 + 9 * j) (17 + 9 * firsts bw + 10 + 9 * (j - firsts bw)) + 9
        ≤ cond (ltb k (firsts bw)) (17 + 9 * k) (17 + 9 * firsts bw + 10 + 9 * (k - firsts bw))
    go (yes a) (yes b) = rw (lt-ltb j (firsts bw) a, lt-ltb k (firsts bw) b) (omega arith)
    go (yes a) (no b) = rw (lt-ltb j (firsts bw) a, le-ltb k (firsts bw) (omega arith)) (omega arith)
    go (no a) (yes b) = absurd (omega arith)
    go (no a) (no b) = rw (le-ltb j (firsts bw) (omega arith), le-ltb k (firsts bw) (omega arith)) (omega arith)
