-- `register::byte_step` meets its contract.
use lib.Pow as P
use Prim.Native.Nat.{ℕ, ◌/◌, ◌%◌}
use mathlib.Core.Path.{◌∙◌, ap₂}
use native.Mathlib.Omega.{arith}
use lib.Bits.{bit_xor}
use Rattle.register.proofs.Bytes.{leaving, byte, eight_places}
use Rattle.register.proofs.byte_step.Goals as goal

pub returns : goal.returns
unfolding byte leaving
returns c = let q : ℕ → ℕ → ℕ = λ y z. bit_xor (bit_xor c.args.x y) z % 256 in
    ap₂ (λ (y z : ℕ). bit_xor (bit_xor (q y z) (q y z / 2)) (q y z / 4))
    (P.shl_exact 8 6 64 (omega arith) (omega arith)) (P.shl_exact 8 7 64 (omega arith) (omega arith))
    ∙ eight_places c.args.x (omega arith)
