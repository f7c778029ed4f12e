-- The law behind the timed loops, over whatever is added up.
use Prim.Native.Nat.{ℕ, ◌+◌}
use mathlib.Core.Path.{◌≡◌, sym, ap}
use native.Mathlib.Numerals.{add-one}
use Rattle.timed.specs.Sums.{sum}

pub sum_next : (f : ℕ → ℕ) (k : ℕ) → sum f k + f k ≡ sum f (k + 1)
unfolding sum
sum_next f k = ap (sum f) (sym (add-one k))
