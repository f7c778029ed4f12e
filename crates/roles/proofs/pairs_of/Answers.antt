-- `roles::pairs_of` meets its contract.
use mathlib.Core.List.{[], ◌∷◌}
use Rattle.resource.proofs.Test.{none_listed}
use Rattle.roles.specs.Engine.{pair_table, pair_kinds}
use Rattle.roles.proofs.pairs_of.Goals as goal

pub returns-in-6 : goal.returns-in-6
unfolding pair_kinds
returns-in-6 c = rw c.in-6.is

pub returns-in-9 : goal.returns-in-9
unfolding pair_kinds
returns-in-9 c = rw c.in-9.is

pub returns-in-10 : goal.returns-in-10
unfolding pair_kinds
returns-in-10 c = rw c.in-10.is

pub returns-in_default : goal.returns-in_default
unfolding pair_kinds
returns-in_default c = none_listed pair_table ((10 ∷ []) ∷ (9 ∷ []) ∷ (6 ∷ []) ∷ []) _ tt c.in_default.in_default-own.rest
