-- `channel::parts_of` meets its contract.
use Rattle.channel.proofs.Held.{parts_one, parts_two}
use Rattle.channel.proofs.Laws.{present_wide}
use native.Mathlib.Omega.{arith}
use Rattle.channel.proofs.parts_of.Goals as goal

pub returns-then-bw-eq0 : goal.returns-then-bw-eq0
returns-then-bw-eq0 c = parts_one c.args.bw c.args.a.now c.args.b.now _ c.if-bw-eq0.true c.first_part-first1.ensures

pub first_part-first2-requires : goal.first_part-first2-requires
first_part-first2-requires c = (c.requires.0, c.requires.2 (present_wide c.args.bw 2 (omega (arith, c.if-bw-eq0.false))))

pub second_part-second2-requires : goal.second_part-second2-requires
second_part-second2-requires c = (c.requires.0, c.requires.2 (present_wide c.args.bw 2 (omega (arith, c.if-bw-eq0.false))))

pub returns : goal.returns
returns c = parts_two c.args.bw c.args.a.now c.args.b.now _ _ _ _ c.if-bw-eq0.false
    c.first_part-first1.ensures c.first_part-first2.ensures
    c.second_part-second1.ensures c.second_part-second2.ensures
