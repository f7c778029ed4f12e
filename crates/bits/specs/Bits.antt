-- Bits and fields of a byte list.
--
-- 01, "Bandwidth and channels": "its first bit is the lowest bit of byte 0; all fields go lowest bit first."
-- Past the end of the list every bit is 0, so nothing here asks for a range.
use Rattle.std.specs.Prelude.{◌≡◌, Bool, cond, not, ◌&&◌, List, ℕ, zero, suc, ◌+◌, ◌-◌, ◌*◌, ◌/◌, ◌%◌, ◌^◌, ◌<◌, get_or, length, eqb, leb, ltb}
use Rattle.answer.specs.Lists.{build}

-- bit i
unfoldable pub bit : List ℕ → ℕ → ℕ
bit s i = get_or s (i / 8) 0 / 2 ^ (i % 8) % 2

-- the n-bit number that starts at bit `at`: the sum of bit (at + k) times 2 ^ k over k below n
unfoldable pub field : List ℕ → ℕ → ℕ → ℕ
field s at zero = 0
field s at (suc n) = field s at n + bit s (at + n) * 2 ^ n

-- how many of the n bits from `at` lie past the end
unfoldable pub lacks : List ℕ → ℕ → ℕ → ℕ
lacks s at n = n - (8 * length s - at)

-- whether two lists differ in bit i
unfoldable pub differs : List ℕ → List ℕ → ℕ → Bool
differs s t i = not (eqb (bit s i) (bit t i))

-- the number whose bit k is f (at + k) % 2, for k below n
unfoldable pub gather : (ℕ → ℕ) → ℕ → ℕ → ℕ
gather f at zero = 0
gather f at (suc n) = gather f at n + f (at + n) % 2 * 2 ^ n

-- the n bytes whose bit i is f i % 2
unfoldable pub bytes : (ℕ → ℕ) → ℕ → List ℕ
bytes f n = build (λ k. gather f (8 * k) 8) n

-- whether bit i is one of the n from `at`
unfoldable pub within : ℕ → ℕ → ℕ → Bool
within at n i = leb at i && ltb i (at + n)

-- the list with the n bits from `at` made those of v: bit i is v's bit i - at where at ≤ i < at + n, else the list's own
unfoldable pub put : List ℕ → ℕ → ℕ → ℕ → List ℕ
put s at n v = bytes (λ i. cond (within at n i) (v / 2 ^ (i - at)) (bit s i)) (length s)

-- a list of bytes: no element is above 255
pub record Small (s : List ℕ) : Type 0 where
  pub small : (k : ℕ) → get_or s k 0 < 256

-- the first n bits of s and t are the same
pub record Same (s t : List ℕ) (n : ℕ) : Type 0 where
  pub same : (i : ℕ) → i < n → bit s i ≡ bit t i
