-- `bits::four` meets its contract.
use Prim.Native.Nat.{◌+◌}
use mathlib.Core.Path.{◌∙◌, refl}
use Rattle.bits.proofs.Fields.{field_word}
use Rattle.bits.proofs.four.Goals as goal

pub returns : goal.returns
returns c = c.join4.ensures
    ∙ field_word c.args.s.now c.args.i _ _ _ _ (c.type_inv.s c.args.i).fits (c.type_inv.s (c.args.i + 1)).fits (c.type_inv.s (c.args.i + 2)).fits
    (c.type_inv.s (c.args.i + 3)).fits refl refl refl refl
