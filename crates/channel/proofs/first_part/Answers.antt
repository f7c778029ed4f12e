-- `channel::first_part` meets its contract.
use borrow.Author.Tests.{lt-ltb, le-ltb}
use Rattle.channel.proofs.Held.{common_narrow, common_wide}
use Rattle.channel.specs.Engine.{first_width, first_part}
use lib.ListN.{length}
use native.Mathlib.Omega.{arith}
use Rattle.channel.proofs.first_part.Goals as goal

pub front-requires : goal.front-requires
front-requires c = (omega arith, omega arith, common_narrow c.args.bw (length c.args.s.now) c.if-bw-lt2.true c.requires.1)

pub front-requires-else-bw-lt2 : goal.front-requires-else-bw-lt2
front-requires-else-bw-lt2 c = (omega arith, omega arith, common_wide c.args.bw (length c.args.s.now) c.if-bw-lt2.false c.requires.1)

pub returns-then-bw-lt2 : goal.returns-then-bw-lt2
unfolding first_part first_width
returns-then-bw-lt2 c = rw (lt-ltb _ _ c.if-bw-lt2.true) c.front.ensures

pub returns-else-bw-lt2 : goal.returns-else-bw-lt2
unfolding first_part first_width
returns-else-bw-lt2 c = rw (le-ltb _ _ c.if-bw-lt2.false) c.front-else-bw-lt2.ensures
