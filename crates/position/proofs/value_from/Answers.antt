-- `position::value_from` meets its contract.
use native.Mathlib.Omega.{arith}
use Rattle.bits.proofs.Fields.{field_lt}
use Rattle.position.proofs.value_from.Goals as goal

pub overflow_cast-result : goal.overflow_cast-result
overflow_cast-result c = omega (arith, field_lt c.args.s.now c.args.at 9)
