-- `channel::second_part` meets its contract.
use native.Mathlib.Omega.{arith}
use lib.ListN.{length}
use Rattle.channel.proofs.Held.{common_160, common_320, part_160, part_320, part_none}
use Rattle.channel.proofs.second_part.Goals as goal

pub eight-requires : goal.eight-requires
eight-requires c = omega (arith, common_160 c.args.bw (length c.args.s.now) c.if-bw-eq3.true c.requires.1)

pub returns-then-bw-eq3 : goal.returns-then-bw-eq3
returns-then-bw-eq3 c = part_160 c.args.bw c.args.s.now _ c.if-bw-eq3.true c.eight.ensures

pub from_45-requires : goal.from_45-requires
from_45-requires c = common_320 c.args.bw (length c.args.s.now) c.if-bw-eq4.true c.requires.1

pub returns-then-bw-eq4 : goal.returns-then-bw-eq4
returns-then-bw-eq4 c = part_320 c.args.bw c.args.s.now _ c.if-bw-eq4.true c.from_45.ensures

pub returns-else-bw-eq4 : goal.returns-else-bw-eq4
returns-else-bw-eq4 c = part_none c.args.bw c.args.s.now c.if-bw-eq3.false c.if-bw-eq4.false
