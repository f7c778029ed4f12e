-- `turns::enter_turns` meets its contract.
use Rattle.std.proofs.Common.{◌∙◌, arith}
use Rattle.answer.proofs.Lists.{filled_start, filled_step}
use Rattle.turns.specs.Engine.{among, having}
use Rattle.turns.proofs.Meeting.{met_none, met_is, met_next, met_few}
use Rattle.turns.proofs.enter_turns.Goals as goal

pub loop-x-init : goal.loop-x-init
loop-x-init c = (filled_start _ _, c.requires.m_bound.2 ∙ met_none (among c.args.first.now c.args.second.now c.args.m))

pub overflow_add-met : goal.overflow_add-met
overflow_add-met c =
    let w = among c.args.first.now c.args.second.now c.args.m in
    omega (
      arith,
      met_is w c.loop-x.x c.loop-x.met _ c.loop-x.invariant.1 c.owner_in-i.ensures (c.requires.m_bound.3.low c.loop-x.x c.loop-x-test.true),
      met_few w (w c.loop-x.x) c.loop-x.x,
    )

pub loop-x-preserved : goal.loop-x-preserved
loop-x-preserved c =
    let w = among c.args.first.now c.args.second.now c.args.m in
    let h = c.requires.m_bound.3.low c.loop-x.x c.loop-x-test.true in
    let f = met_is w c.loop-x.x c.loop-x.met _ c.loop-x.invariant.1 c.owner_in-i.ensures h in (
      rw c.loop-x.invariant.0 (filled_step (λ y. having w (w y) y) c.loop-x.x _ c.args.turns.now (omega (arith, c.requires.turns_len)) f),
      met_next w c.loop-x.x c.loop-x.met _ _ c.loop-x.invariant.1 c.owner_in-i.ensures h f,
    )
