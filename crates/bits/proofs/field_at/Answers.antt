-- `bits::field_at` meets its contract.
use Prim.Native.Nat.{ℕ, ◌*◌, ◌/◌, ◌%◌}
use mathlib.Core.Path.{ap, ◌∙◌}
use native.Mathlib.Omega.{arith}
use Rattle.bits.specs.Bits.{field}
use Rattle.bits.proofs.Fields.{field_part, shl_one}
use Rattle.bits.proofs.field_at.Goals as goal

pub returns : goal.returns
returns c = rw (shl_one c.args.n (omega arith), c.window.ensures)
    (field_part c.args.s.now (8 * (c.args.at / 8)) 32 (c.args.at % 8) c.args.n (omega arith)
    ∙ ap (λ (k : ℕ). field c.args.s.now k c.args.n) (omega arith))
