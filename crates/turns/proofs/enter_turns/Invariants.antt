-- What the loops of `turns::enter_turns` keep.
use Rattle.std.proofs.Common.{◌≡◌}
use Rattle.answer.specs.Lists.{build, filled}
use Rattle.turns.specs.Engine.{among, having}
use Rattle.turns.proofs.enter_turns.Given as goal

abbrev pub invariant-loop-x : goal.invariant-loop-x
invariant-loop-x l = (l.turns ≡ filled (λ y. having (among l.fn.first l.fn.second l.fn.m) (among l.fn.first l.fn.second l.fn.m y) y) l.x
    l.initial.turns)
    × (l.met ≡ build (λ i. having (among l.fn.first l.fn.second l.fn.m) i l.x) 144)
