-- The four check bits of a block and the tail after them.
--
-- 01, "Bandwidth and channels": "Check: remainder by x^8+x^2+x+1, register starting as all ones, bits in sending order,
-- register inverted; its upper four bits are sent, highest first. It covers its own block's bits before it. Tail is zero."
use Rattle.std.specs.Prelude.{◌≡◌, Bool, ◌&&◌, List, ℕ, zero, suc, ◌+◌, ◌-◌, ◌*◌, ◌/◌, ◌%◌, eqb}
use Rattle.std.specs.Int.Bits.{bit_xor}
use Rattle.bits.specs.Bits.{bit, field}

-- One bit into the register: it moves up by one place, and where the bit that leaves it and the one that comes in
-- differ, x^8 is replaced by x^2 + x + 1.
unfoldable pub step : ℕ → ℕ → ℕ
step r b = bit_xor (r * 2 % 256) (7 * ((r / 128 + b) % 2))

-- "register starting as all ones, bits in sending order": after the n bits from `at`
unfoldable pub register : List ℕ → ℕ → ℕ → ℕ
register s at zero = 255
register s at (suc n) = step (register s at n) (bit s (at + n))

-- "its upper four bits are sent, highest first": as a field has them, the first sent is the lowest
unfoldable pub sent : ℕ → ℕ
sent v = v / 128 % 2 + v / 64 % 2 * 2 + v / 32 % 2 * 4 + v / 16 % 2 * 8

-- "register inverted": the check of the n bits from `at`, as a field of four bits
unfoldable pub check : List ℕ → ℕ → ℕ → ℕ
check s at n = sent (255 - register s at n)

-- whether the four bits after the n from `at` are their check, and the six after those, the tail, are zero
unfoldable pub right : List ℕ → ℕ → ℕ → Bool
right s at n = eqb (field s (at + n) 4) (check s at n) && eqb (field s (at + n + 4) 6) 0

-- ---- what the block test decides

-- the check after the n bits from `at` is right, and the tail is zero
pub record Right (s : List ℕ) (at n : ℕ) : Type 0 where
  pub checked : field s (at + n) 4 ≡ check s at n
  pub ended : field s (at + n + 4) 6 ≡ 0
