-- What the loops of `plan::sharing` keep.
use Rattle.std.proofs.Common.{◌-◌, ◌<◌, ◌≡◌}
use Rattle.plan.specs.Engine.{over_at, shared_to}
use Rattle.kinds.specs.Fields.{together}
use Rattle.answer.specs.Lists.{at}
use Rattle.answer.specs.Least.{least}
use Rattle.plan.proofs.sharing.Given as goal

abbrev pub invariant-loop-p : goal.invariant-loop-p
invariant-loop-p l = (least (over_at l.fn.row) l.p ≡ l.p) × (l.shared ≡ shared_to l.fn.row l.p) ×
    (0 < l.p → l.t ≡ together l.before (at l.fn.row) (l.p - 1))
