-- What the timed entries give.
--
-- Blocks of n bits stand one after the other from bit 0, each with its check of four bits and its tail of six.
use Rattle.std.specs.Prelude.{ℕ, zero, suc, ◌+◌, ◌*◌, cond, List}
use Rattle.block.specs.Check.{check, right}

-- f 0 + f 1 + .. + f (k - 1)
unfoldable pub sum : (ℕ → ℕ) → ℕ → ℕ
sum f zero = 0
sum f (suc k) = sum f k + f k

-- the check of block k
unfoldable pub check_in : List ℕ → ℕ → ℕ → ℕ
check_in s n k = check s ((n + 10) * k) n

-- 1 where block k is right, else 0
unfoldable pub right_in : List ℕ → ℕ → ℕ → ℕ
right_in s n k = cond (right s ((n + 10) * k) n) 1 0
