-- Engine: how the code works the check out. The contracts of the code cite it; nobody has to believe it: what `block` promises is
-- `block/specs/Check.antt`'s alone, and `block/proofs/Word.antt` shows that this is it.
--
-- The register is held mirrored, so that the bit that leaves next is the lowest, with the bits that are to come in added
-- to it. Numbers stand for polynomials in t with coefficients 0 and 1, bit k for t^k.
use Rattle.std.specs.Prelude.{ℕ, zero, suc, ◌+◌, ◌-◌, ◌*◌, ◌/◌, ◌%◌, ◌^◌, Bool, ◌&&◌, eqb}
use Rattle.std.specs.Int.Bits.{bit_xor}

-- one place down; where a 1 leaves, x^2 + x + 1, mirrored, is added
unfoldable pub shift : ℕ → ℕ
shift x = bit_xor (x / 2) (224 * (x % 2))

unfoldable pub shifts : ℕ → ℕ → ℕ
shifts x zero = x
shifts x (suc m) = shift (shifts x m)

-- y times p, the check's polynomial mirrored: 1 + t^6 + t^7 + t^8
unfoldable pub product : ℕ → ℕ
product y = bit_xor (bit_xor (bit_xor y (y * 2 ^ 6)) (y * 2 ^ 7)) (y * 2 ^ 8)

-- z times p with t^i for t, at 64 bits
unfoldable pub times : ℕ → ℕ → ℕ
times z i =
    bit_xor z (bit_xor z (bit_xor z (z * 2 ^ i % 2 ^ 64) * 2 ^ i % 2 ^ 64) * 2 ^ (6 * i) % 2 ^ 64)

-- z divided by p, at 64 bits
unfoldable pub quotient : ℕ → ℕ
quotient z = times (times (times (times z 1) 2) 4) 8

-- the check of a mirrored register r after the n lowest bits of w
unfoldable pub check_from : ℕ → ℕ → ℕ → ℕ
check_from r w n = 15 - shifts (bit_xor r (w % 2 ^ n)) n % 16

-- whether the ten bits above the n lowest of w are their check and a tail of zeros
unfoldable pub right_of : ℕ → ℕ → Bool
right_of w n = eqb (w / 2 ^ n % 1024) (check_from 255 w n)

-- the same of blocks of n bits, of what leaves them all and what any of them has: four ones after the n, and a tail of zeros
unfoldable pub all_right : ℕ → ℕ → ℕ → Bool
all_right q x n = eqb (q / 2 ^ n % 16) 15 && eqb (x / 2 ^ (n + 4) % 64) 0
