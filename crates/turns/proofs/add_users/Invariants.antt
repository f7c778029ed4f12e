-- What the loops of `turns::add_users` keep.
use Rattle.std.proofs.Common.{◌≡◌, ◌+◌, ◌*◌}
use Rattle.answer.specs.Lists.{at, filled}
use Rattle.turns.specs.Engine.{among}
use Rattle.turns.proofs.add_users.Given as goal

abbrev pub invariant-loop-x : goal.invariant-loop-x
invariant-loop-x l = l.turns ≡ filled (λ y. at l.initial.turns y + 256 * at l.fn.met (among l.fn.first l.fn.second l.fn.m y)) l.x l.initial.turns
