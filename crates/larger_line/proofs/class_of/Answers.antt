-- `larger_line::class_of` meets its contract.
use Rattle.std.proofs.Common.{arith, [], ◌∷◌}
use Rattle.resource.proofs.Test.{none_listed}
use Rattle.larger_line.specs.Engine.{class_kind}
use Rattle.larger_line.proofs.class_of.Goals as goal

pub returns-in_default : goal.returns-in_default
unfolding class_kind
returns-in_default c = (
  none_listed
      (0 ∷ 5 ∷ 6 ∷ 9 ∷ 9 ∷ 9 ∷ 9 ∷ 7 ∷ 10 ∷ 10 ∷ 10 ∷ 10
      ∷ 8 ∷ 8 ∷ 8 ∷ 8 ∷ 12 ∷ 12 ∷ 12 ∷ 12 ∷ 12 ∷ 12 ∷ 12 ∷ 12
      ∷ 11 ∷ 11 ∷ 11 ∷ 11 ∷ 11 ∷ 11 ∷ 11 ∷ 11 ∷ 11 ∷ 11 ∷ 11 ∷ 11 ∷ [])
      ((35 ∷ []) ∷ (34 ∷ []) ∷ (33 ∷ []) ∷ (32 ∷ []) ∷ (31 ∷ []) ∷ (30 ∷ []) ∷ (29 ∷ []) ∷ (28 ∷ []) ∷ (27 ∷ []) ∷ (26 ∷ []) ∷ (25 ∷ []) ∷ (24 ∷ [])
      ∷ (23 ∷ []) ∷ (22 ∷ []) ∷ (21 ∷ []) ∷ (20 ∷ []) ∷ (19 ∷ []) ∷ (18 ∷ []) ∷ (17 ∷ []) ∷ (16 ∷ []) ∷ (15 ∷ []) ∷ (14 ∷ []) ∷ (13 ∷ []) ∷ (12 ∷ [])
      ∷ (11 ∷ []) ∷ (10 ∷ []) ∷ (9 ∷ []) ∷ (8 ∷ []) ∷ (7 ∷ []) ∷ (6 ∷ []) ∷ (5 ∷ []) ∷ (4 ∷ []) ∷ (3 ∷ []) ∷ (2 ∷ []) ∷ (1 ∷ []) ∷ [])
      _ tt c.in_default.in_default-own.rest,
  omega arith,
)
