-- `kinds::family_of` meets its contract.
use Rattle.kinds.proofs.Table.{family_past, left_over}
use mathlib.Core.Path.{sym}
use Rattle.kinds.proofs.family_of.Goals as goal

pub returns-in_default : goal.returns-in_default
returns-in_default c = sym (family_past _ (left_over _ c.in_default.in_default-own.rest))
