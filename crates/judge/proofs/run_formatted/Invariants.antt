-- What the loops of `judge::run_formatted` keep.
use Rattle.std.proofs.Common.{◌+◌, ◌≡◌, cond}
use Rattle.answer.specs.Every.{every}
use Rattle.answer.specs.Lists.{at}
use Rattle.judge.specs.Engine.{formatted}
use Rattle.judge.proofs.run_formatted.Given as goal

abbrev pub invariant-loop-i : goal.invariant-loop-i
invariant-loop-i l = (l.known ≡ cond l.fn.shared 0x47 0x3F) × (l.all ≡ every (λ q. formatted l.fn.shared (at l.fn.words (l.fn.j + q))) l.i)
