-- `bits::eight` meets its contract.
use mathlib.Core.Path.{◌∙◌}
use Rattle.bits.proofs.Windows.{field_two}
use Rattle.bits.proofs.eight.Goals as goal

pub returns : goal.returns
returns c = c.join2.ensures ∙ field_two c.args.s.now c.args.i _ _ c.four.ensures c.four-2.ensures
