-- `bits::window` meets its contract.
use mathlib.Core.Path.{◌∙◌}
use native.Mathlib.Omega.{arith}
use Rattle.bits.proofs.Fields.{field_word}
use Rattle.bits.proofs.window.Goals as goal

pub returns : goal.returns
returns c = c.join4.ensures
    ∙ field_word c.args.s.now c.args.i _ _ _ _
    (omega arith) (omega arith) (omega arith) (omega arith)
    c.byte_at.ensures c.byte_at-2.ensures c.byte_at-3.ensures c.byte_at-4.ensures
