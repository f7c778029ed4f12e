-- What the register of `Check.antt` is: a remainder of polynomials with coefficients 0 and 1.
--
-- 01, "Bandwidth and channels": "Check: remainder by x^8+x^2+x+1, register starting as all ones, bits in sending order,
-- register inverted; its upper four bits are sent, highest first."
--
-- A number stands for a polynomial: bit k is the coefficient of x^k. Two are added without carry, by `bit_xor`, and x^k times
-- one is 2 ^ k times its number.
use Rattle.std.specs.Prelude.{◌≡◌, List, [], ◌∷◌, ℕ, zero, suc, ◌+◌, ◌-◌, ◌*◌, ◌/◌, ◌%◌, ◌^◌, ◌<◌}
use Rattle.std.specs.Int.Bits.{bit_xor}
use Rattle.bits.specs.Bits.{bit}
use Rattle.block.specs.Check.{register, sent, check}

-- "x^8+x^2+x+1", by its powers of x
unfoldable pub divisor : List ℕ
divisor = 8 ∷ 2 ∷ 1 ∷ 0 ∷ []

-- q times the sum of these powers of x
unfoldable pub times : ℕ → List ℕ → ℕ
times q [] = 0
times q (k ∷ ks) = bit_xor (q * 2 ^ k) (times q ks)

-- "bits in sending order": the n bits from `at`, the first sent the highest power
unfoldable pub message : List ℕ → ℕ → ℕ → ℕ
message s at zero = 0
message s at (suc n) = message s at n * 2 + bit s (at + n)

-- "register starting as all ones": x^7 + x^6 + .. + 1 is added to the first eight bits of what is divided, the message times x^8
unfoldable pub dividend : List ℕ → ℕ → ℕ → ℕ
dividend s at n = bit_xor (message s at n * 2 ^ 8) (255 * 2 ^ n)

-- r is the remainder of p: of lower degree than x^8, and p is the sum of a multiple of the divisor and r
pub record Remainder (p r : ℕ) : Type 0 where
  pub lower : r < 2 ^ 8
  pub quotient : ℕ
  pub divided : p ≡ bit_xor (times quotient divisor) r

-- the check of the n bits from `at` is made of their remainder
pub record CheckIs (s : List ℕ) (at n : ℕ) : Type 0 where
  -- "remainder by x^8+x^2+x+1": the register is one, and there is no other
  pub remainder : Remainder (dividend s at n) (register s at n)
  pub only : (r : ℕ) → Remainder (dividend s at n) r → r ≡ register s at n
  -- "register inverted; its upper four bits are sent, highest first": the k-th bit sent is 1 where the remainder has no x^(7 - k)
  pub inverted : (r : ℕ) → Remainder (dividend s at n) r → check s at n ≡ sent (255 - r)
  pub highest_first : (r k : ℕ) → Remainder (dividend s at n) r → k < 4 → check s at n / 2 ^ k % 2 ≡ 1 - r / 2 ^ (7 - k) % 2
  pub four : check s at n < 2 ^ 4
