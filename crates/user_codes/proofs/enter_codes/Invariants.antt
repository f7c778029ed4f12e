-- What the loops of `user_codes::enter_codes` keep.
use Rattle.std.proofs.Common.{◌≡◌, ◌+◌, replicate}
use Rattle.answer.specs.Lists.{filled}
use Rattle.user_codes.specs.Engine.{resource_codes}
use Rattle.user_codes.proofs.enter_codes.Given as goal

abbrev pub invariant-loop-k : goal.invariant-loop-k
invariant-loop-k l = l.codes ≡ filled (resource_codes l.fn.row) (l.fn.i + l.k) (replicate 144 0)
