-- Eight places of the mirrored register.
use Prim.Native.Nat.{ℕ, ◌*◌, ◌/◌, ◌%◌, ◌^◌, ◌<◌}
use mathlib.Core.Path.{◌≡◌, refl}
use lib.Bits.{bit_xor}
use Rattle.answer.specs.Least.{least}
use Rattle.answer.proofs.Least.{equal_below}
use Rattle.register.specs.Engine.{shift, shifts}

-- the eight bits that leave, and what p times them leaves behind
unfoldable pub leaving : ℕ → ℕ
leaving x = bit_xor (bit_xor x (x * 2 ^ 6)) (x * 2 ^ 7) % 256

unfoldable pub byte : ℕ → ℕ
byte x = bit_xor (bit_xor (leaving x) (leaving x / 2)) (leaving x / 4)

pub eight_places : (x : ℕ) → x < 256 → byte x ≡ shifts x 8
unfolding byte leaving shift shifts least
eight_places = equal_below byte (λ x. shifts x 8) 256 refl
