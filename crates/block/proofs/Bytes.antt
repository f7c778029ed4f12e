-- The register a byte at a time.
use Prim.Native.Nat.{ℕ, zero, suc, ◌+◌, ◌*◌, ◌/◌, ◌%◌, ◌<◌}
use mathlib.Core.Path.{◌≡◌, refl, sym, ◌∙◌, ap}
use mathlib.Core.List.{List}
use native.Mathlib.Omega.{arith}
use lib.Bits.{bit_xor, xor_lt}
use Rattle.bits.specs.Bits.{field}
use Rattle.bits.proofs.Fields.{field_lt}
use Rattle.block.specs.Check.{register}
use Rattle.block.proofs.Checks.{register_lt}
use Rattle.register.proofs.Bytes.{byte, eight_places}
use Rattle.block.proofs.Mirror.{steps, steps_lt, register_part, mirror, mirror_lt, mirror_twice, all_out}

-- ---- eight places at a time, of the register itself

-- the register r after the eight bits of x
unfoldable pub byte_step : ℕ → ℕ → ℕ
byte_step r x = mirror (byte (bit_xor (mirror r) x))

-- eight steps are one byte step, for every register and byte
pub byte_law : (r x : ℕ) → r < 256 → x < 256 → steps r x 8 ≡ byte_step r x
unfolding byte_step
byte_law r x l h =
    sym
    (ap mirror (eight_places (bit_xor (mirror r) x) (xor_lt 8 (mirror r) x (mirror_lt r) h) ∙ all_out r x 8 l h)
    ∙ mirror_twice (steps r x 8) (steps_lt r x 8 l))

-- the register after the first m bytes from `at`
unfoldable pub byte_steps : List ℕ → ℕ → ℕ → ℕ
byte_steps s at zero = 255
byte_steps s at (suc m) = byte_step (byte_steps s at m) (field s (at + 8 * m) 8)

whole_bytes : (s : List ℕ) (at m : ℕ) → byte_steps s at m ≡ register s at (8 * m)
unfolding byte_steps register
whole_bytes s at zero = refl
whole_bytes s at (suc m) =
    let e : 8 * m + 8 ≡ 8 * suc m = omega arith in
    ap (λ (r : ℕ). byte_step r (field s (at + 8 * m) 8)) (whole_bytes s at m)
    ∙ sym (byte_law (register s at (8 * m)) (field s (at + 8 * m) 8) (register_lt s at (8 * m)) (field_lt s (at + 8 * m) 8))
    ∙ register_part s at (8 * m) 8 8 (omega arith)
    ∙ ap (λ (k : ℕ). register s at k) e

-- the register after any n bits is the byte steps of its whole bytes, and the steps of the rest
pub register_bytes : (s : List ℕ) (at n : ℕ)
    → register s at n ≡ steps (byte_steps s at (n / 8)) (field s (at + 8 * (n / 8)) (n % 8)) (n % 8)
register_bytes s at n =
    let e : 8 * (n / 8) + n % 8 ≡ n = omega arith in
    sym
    (ap (λ (r : ℕ). steps r (field s (at + 8 * (n / 8)) (n % 8)) (n % 8)) (whole_bytes s at (n / 8))
    ∙ register_part s at (8 * (n / 8)) (n % 8) (n % 8) (omega arith)
    ∙ ap (λ (k : ℕ). register s at k) e)
