-- `channel::value_of` meets its contract.
use Prim.Native.Nat.{ℕ}
use mathlib.Core.Path.{◌∙◌, ap}
use native.Mathlib.Omega.{arith}
use Rattle.bits.specs.Bits.{field}
use Rattle.bits.proofs.Fields.{field_lt}
use Rattle.channel.specs.Layout.{value}
use Rattle.channel.proofs.value_of.Goals as goal

pub overflow_cast-result : goal.overflow_cast-result
overflow_cast-result c = omega (arith, field_lt c.args.s.now c.value_bit.result 9)

pub returns : goal.returns
unfolding value
returns c = c.field_at.ensures ∙ ap (λ (i : ℕ). field c.args.s.now i 9) c.value_bit.ensures
