-- `segments::name_of` meets its contract.
use Rattle.kinds.specs.Engine.{name_of}
use Rattle.kinds.specs.Kinds.{family, kind_at, kinds}
use Prim.Native.Nat.{ℕ, ◌/◌, ◌≤◌, ◌<◌}
use mathlib.Core.Path.{◌≡◌, refl, sym, ◌∙◌}
use native.Mathlib.Omega.{arith}
use Rattle.segments.proofs.Steps.{name_known, name_none}
use Rattle.segments.proofs.name_of.Goals as goal

is : (c f v r : ℕ) → c < 7 → 3 ≤ c → f ≡ family c → r ≡ v / 8 → r ≡ f → c ≡ name_of 4 v
is c f v r h l e d g = name_known c v h l (sym d ∙ g ∙ e)

pub returns-in-12 : goal.returns-in-12
unfolding family kind_at kinds
returns-in-12 c = (omega arith, is 3 12 _ _ (omega arith) (omega arith) refl c.family_of.ensures c.in-12.is)

pub returns-in-13 : goal.returns-in-13
unfolding family kind_at kinds
returns-in-13 c = (omega arith, is 4 13 _ _ (omega arith) (omega arith) refl c.family_of.ensures c.in-13.is)

pub returns-in-14 : goal.returns-in-14
unfolding family kind_at kinds
returns-in-14 c = (omega arith, is 5 14 _ _ (omega arith) (omega arith) refl c.family_of.ensures c.in-14.is)

pub returns-in-15 : goal.returns-in-15
unfolding family kind_at kinds
returns-in-15 c = (omega arith, is 6 15 _ _ (omega arith) (omega arith) refl c.family_of.ensures c.in-15.is)

pub returns-in_default : goal.returns-in_default
returns-in_default c = (omega arith, name_none _ _ c.family_of.ensures c.in_default.in_default-own.rest)
