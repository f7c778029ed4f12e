-- The lowest number below a bound that passes a test; the bound where none does.
--
-- 01, "What comes back": "inside one, channel 1 first, lowest bit first"; "lowest differing bit"; "lowest such segment".
use Rattle.std.specs.Prelude.{Bool, cond, ℕ, zero, suc, ltb}

unfoldable pub least : (ℕ → Bool) → ℕ → ℕ
least p zero = zero
least p (suc n) = cond (ltb (least p n) n) (least p n) (cond (p n) n (suc n))
