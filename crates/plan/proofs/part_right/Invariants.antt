-- What the loops of `plan::part_right` keep.
use Rattle.plan.proofs.Steps.{wrong_in}
use Rattle.plan.specs.Engine.{Before}
use Rattle.std.proofs.Common.{◌≡◌, ◌-◌}
use Rattle.answer.specs.Least.{least}
use Rattle.answer.specs.Lists.{at}
use Rattle.plan.proofs.part_right.Given as goal

abbrev pub invariant-loop-p : goal.invariant-loop-p
invariant-loop-p l = (least (wrong_in l.fn.row l.fn.n l.fn.k (at l.fn.kinds)) (l.p - l.a) ≡ l.p - l.a) × Before l.before (at l.fn.kinds)
    (at l.fn.row) l.a l.e l.p
