-- `streams::all_named` meets its contract.
use Rattle.std.proofs.Common.{◌≡◌, arith, length}
use Rattle.answer.proofs.Every.{every_next}
use Rattle.streams.specs.Engine.{named_in, all_named}
use Rattle.streams.proofs.all_named.Goals as goal

pub loop-x-preserved : goal.loop-x-preserved
unfolding named_in
loop-x-preserved c = rw (c.loop-x.invariant, c.names_none.ensures) (every_next (named_in c.args.codes.now c.args.words.now) c.loop-x.x)

pub returns : goal.returns
unfolding all_named
returns c =
    let e : c.loop-x.x ≡ length c.args.words.now = omega arith in
    rw (← e) c.loop-x.invariant
