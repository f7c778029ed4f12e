-- What the loops of `candidate::gather` keep.
use Rattle.std.proofs.Common.{◌+◌, ◌*◌, ◌≡◌}
use Rattle.answer.specs.Lists.{at}
use Rattle.candidate.specs.Engine.{gathered}
use Rattle.candidate.proofs.gather.Given as goal

abbrev pub invariant-loop-k : goal.invariant-loop-k
invariant-loop-k l = (l.x ≡ gathered (λ j. at l.fn.row (2 * j + l.fn.p)) l.k)
