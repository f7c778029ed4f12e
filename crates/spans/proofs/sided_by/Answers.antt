-- `spans::sided_by` meets its contract.
use Rattle.std.proofs.Common.{true, false, arith}
use Rattle.spans.proofs.Naming.{side_is, place_is}
use Rattle.spans.proofs.sided_by.Goals as goal

pub returns-then-whole_or-has : goal.returns-then-whole_or-has
returns-then-whole_or-has c = let place = place_is _ _ _ c.tell_tale.ensures.1 c.takes_place-has.ensures in
    (omega arith, side_is _ _ _ _ true c.whole_or.ensures place c.if-whole_or-has.true)

pub returns-else-whole_or-has : goal.returns-else-whole_or-has
returns-else-whole_or-has c = let place = place_is _ _ _ c.tell_tale.ensures.1 c.takes_place-has.ensures in
    (omega arith, side_is _ _ _ _ false c.whole_or.ensures place c.if-whole_or-has.false)
