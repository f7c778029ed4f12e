-- `bits::front` meets its contract.
use Rattle.bits.proofs.Windows.{field_front}
use native.Mathlib.Omega.{arith}
use mathlib.Core.Path.{◌∙◌}
use Rattle.bits.proofs.front.Goals as goal

pub returns : goal.returns
returns c = c.join2.ensures ∙ field_front c.args.s.now c.args.n _ _ (omega arith) (omega arith) c.four.ensures c.four-2.ensures
