-- What the loops of `plan::is_entire` keep.
use Rattle.std.proofs.Common.{◌≡◌, not}
use Rattle.answer.specs.Least.{least}
use Rattle.answer.specs.Lists.{at}
use Rattle.plan.specs.Engine.{place_given}
use Rattle.plan.proofs.is_entire.Given as goal

abbrev pub invariant-loop-j : goal.invariant-loop-j
invariant-loop-j l = least (λ i. not (place_given (at l.fn.kinds) l.fn.a l.fn.e l.fn.kind l.fn.p i)) l.j ≡ l.j
