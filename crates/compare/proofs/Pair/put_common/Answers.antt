--
use Rattle.compare.specs.Engine.{common_text}
use Rattle.std.proofs.Common.{◌≡◌, length, sym, arith}
use Rattle.text.proofs.Laws.{after}
use Rattle.compare.proofs.Groups.{row_lengths}
use Rattle.compare.proofs.Pair.put_common.Goals as goal

pub put_values-b-requires : goal.put_values-b-requires
put_values-b-requires c =
    let e = row_lengths c.args.self.now.same_bandwidth c.args.self.now.one.given c.args.self.now.two.given in
    (omega arith, c.args.self.now.one.few.0, e)

pub put_only-c-requires-clause-at_bound : goal.put_only-c-requires-clause-at_bound
put_only-c-requires-clause-at_bound c =
    let e = row_lengths c.args.self.now.same_bandwidth c.args.self.now.one.given c.args.self.now.two.given in
    (omega arith, omega arith, c.args.self.now.one.few.0, e)

pub put_only-requires-clause-at_bound : goal.put_only-requires-clause-at_bound
put_only-requires-clause-at_bound c =
    let e = row_lengths c.args.self.now.same_bandwidth c.args.self.now.one.given c.args.self.now.two.given in
    (omega arith, omega arith, c.args.self.now.two.few.0, sym e)

pub returns-clause-wrote : goal.returns-clause-wrote
unfolding common_text
returns-clause-wrote c =
    rw (← c.overflow.ensures, ← c.overflow-2.ensures)
    (after c.put_overflows-a.ensures.wrote (after c.put_values-b.ensures.wrote (after c.put_only-c.ensures.wrote c.put_only.ensures.wrote)))
