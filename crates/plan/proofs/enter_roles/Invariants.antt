-- What the loops of `plan::enter_roles` keep.
use Rattle.std.proofs.Common.{◌≡◌, length}
use Rattle.plan.specs.Engine.{Cast}
use Rattle.plan.proofs.enter_roles.Given as goal

abbrev pub invariant-loop-p : goal.invariant-loop-p
invariant-loop-p l = (length l.roles ≡ 16) × Cast l.fn.row l.p l.initial.roles l.roles
