-- How many bytes always suffice for the text of a comparison: `proofs/Within.antt`, `comparison_within`.
use Rattle.std.specs.Prelude.{ℕ}

unfoldable pub compare_size : ℕ
compare_size = 29466
