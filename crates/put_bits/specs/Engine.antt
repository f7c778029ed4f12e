-- Engine: how a field is merged into a window. The contracts of the code cite it; nobody has to believe it: `proofs/Stores.antt`.
use Rattle.std.specs.Prelude.{ℕ, ◌+◌, ◌*◌, ◌/◌, ◌%◌, ◌^◌}

-- ---- one byte

-- x with the m bits from a made the lowest of w
unfoldable pub merge : ℕ → ℕ → ℕ → ℕ → ℕ
merge x a m w = (x / 2 ^ (a + m) * 2 ^ m + w % 2 ^ m) * 2 ^ a + x % 2 ^ a
