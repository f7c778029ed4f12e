-- How many numbers below a bound pass a test.
--
-- 02, T-01: "stations= leaves it out".
use Rattle.std.specs.Prelude.{Bool, cond, ℕ, zero, suc, ◌+◌}

abbrev pub tally : (ℕ → Bool) → ℕ → ℕ
tally t zero = 0
tally t (suc n) = tally t n + cond (t n) 1 0
