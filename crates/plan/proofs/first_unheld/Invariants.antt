-- What the loops of `plan::first_unheld` keep.
use Rattle.plan.specs.Engine.{held_by}
use Rattle.answer.specs.Least.{least}
use Rattle.std.proofs.Common.{not, ◌≡◌}
use Rattle.plan.proofs.first_unheld.Given as goal

abbrev pub invariant-loop-s : goal.invariant-loop-s
invariant-loop-s l = least (λ t. not (held_by l.fn.row t)) l.s ≡ l.s
