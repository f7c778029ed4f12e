-- `roles::one_of` meets its contract.
use mathlib.Core.List.{[], ◌∷◌}
use Rattle.resource.proofs.Test.{none_listed}
use Rattle.roles.specs.Engine.{one_table, one_kinds}
use Rattle.roles.proofs.one_of.Goals as goal

pub returns-in-1 : goal.returns-in-1
unfolding one_kinds
returns-in-1 c = rw c.in-1.is

pub returns-in-2 : goal.returns-in-2
unfolding one_kinds
returns-in-2 c = rw c.in-2.is

pub returns-in-4 : goal.returns-in-4
unfolding one_kinds
returns-in-4 c = rw c.in-4.is

pub returns-in-8 : goal.returns-in-8
unfolding one_kinds
returns-in-8 c = rw c.in-8.is

pub returns-in-16 : goal.returns-in-16
unfolding one_kinds
returns-in-16 c = rw c.in-16.is

pub returns-in_default : goal.returns-in_default
unfolding one_kinds
returns-in_default c = none_listed one_table ((16 ∷ []) ∷ (8 ∷ []) ∷ (4 ∷ []) ∷ (2 ∷ []) ∷ (1 ∷ []) ∷ []) _ tt c.in_default.in_default-own.rest
