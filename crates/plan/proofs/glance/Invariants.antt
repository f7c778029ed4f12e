-- What the loops of `plan::glance` keep.
use Rattle.std.proofs.Common.{◌*◌, ◌≡◌, replicate}
use Rattle.answer.specs.Lists.{at, filled}
use Rattle.plan.specs.Engine.{glance_kind, glance_marks, role_sum}
use Rattle.plan.proofs.glance.Given as goal

abbrev pub invariant-loop-s : goal.invariant-loop-s
invariant-loop-s l = (l.kinds ≡ filled (glance_kind (at l.fn.roles)) (4 * l.s) (replicate 16 0)) × (l.shared ≡ glance_marks (at l.fn.roles) l.s)
    × (l.fields1 ≡ role_sum 0 (at l.fn.roles) l.s) × (l.fields2 ≡ role_sum 1 (at l.fn.roles) l.s)
