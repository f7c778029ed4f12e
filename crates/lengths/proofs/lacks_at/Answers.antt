-- `lengths::lacks_at` meets its contract.
use Prim.Native.Nat.{ℕ, ◌+◌, ◌-◌, ◌*◌, ◌/◌, ◌%◌, ◌<◌}
use mathlib.Core.Path.{◌≡◌, sym, ◌∙◌, ap}
use lib.ListN.{length}
use native.Mathlib.Omega.{arith}
use Rattle.bits.specs.Bits.{lacks}
use Rattle.lengths.proofs.lacks_at.Goals as goal

-- what is there of the range: the rest of its first byte, and the bytes after that
there : (l at : ℕ) → at / 8 < l → 8 * l - at ≡ (8 - at % 8) + 8 * (l - at / 8 - 1)
there l at h = omega arith

left : (a b n : ℕ) → n - b - a ≡ n - (a + b)
left a b n = omega arith

pub returns-then-s-first : goal.returns-then-s-first
unfolding lacks
returns-then-s-first c = omega arith

pub returns-then-n-after : goal.returns-then-n-after
unfolding lacks
returns-then-n-after c = omega arith

pub returns-then-rest-here : goal.returns-then-rest-here
unfolding lacks
returns-then-rest-here c = omega arith

pub returns-else-rest-here : goal.returns-else-rest-here
unfolding lacks
returns-else-rest-here c = let l = length c.args.s.now in
    left (8 - c.args.at % 8) (8 * (l - c.args.at / 8 - 1)) c.args.n ∙ ap (λ (k : ℕ). c.args.n - k) (sym (there l c.args.at (omega arith)))
