-- `channel::put_row` meets its contract.
use Rattle.channel.proofs.Held.{lone_row, wide_row}
use native.Mathlib.Omega.{arith}
use mathlib.Core.Path.{refl}
use Rattle.channel.proofs.put_row.Goals as goal

pub returns-then-bw-eq0 : goal.returns-then-bw-eq0
returns-then-bw-eq0 c = lone_row c.args.bw c.args.parts c.args.row.now _ c.if-bw-eq0.true c.requires.0 refl

pub returns : goal.returns
returns c = let t = rw c.firsts_of-n.ensures.value at c.put_turns.ensures in
    let u = rw (c.firsts_of-n.ensures.value, c.seconds_of-m.ensures.value) at c.put_turns-2.ensures in
    wide_row c.args.bw c.args.parts c.args.row.now _ _ (omega arith) c.requires.1 c.requires.0 t u
