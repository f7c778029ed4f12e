-- `reader::read_to` meets its contract.
use Rattle.std.proofs.Common.{◌∙◌}
use Rattle.halves.proofs.Rows.{front}
use Rattle.reader.specs.Result.{read_answer, put_after}
use Rattle.reader.proofs.Halves.{first_refuses, second_answers, second_writes, known, handed}
use Rattle.reader.proofs.read_to.Goals as goal

pub returns-in-Err-clause-value : goal.returns-in-Err-clause-value
unfolding read_answer
returns-in-Err-clause-value g c =
    let e = first_refuses c.args.bandwidth c.args.cc1.now c.args.cc2.now c.plan_row-plan.ensures c.args.room _ c.in-Err.is in
    rw e c.into.ensures

pub returns-in-Err-clause-words_after : goal.returns-in-Err-clause-words_after
unfolding put_after
returns-in-Err-clause-words_after g c =
    let e = first_refuses c.args.bandwidth c.args.cc1.now c.args.cc2.now c.plan_row-plan.ensures c.args.room _ c.in-Err.is in
    rw e

pub positions_of-p-requires : goal.positions_of-p-requires
positions_of-p-requires g c = known c.args.bandwidth c.args.cc1.now c.args.cc2.now c.plan_row-plan.ensures c.in_default.is

pub read_planned-x-requires : goal.read_planned-x-requires
read_planned-x-requires g c =
    -- the front of the planned row is the frame's
    let r = front c.args.bandwidth c.args.cc1.now c.args.cc2.now _ _ c.positions_of-p.ensures.value (c.plan_row-plan.ensures.the_row c.in_default.is) in
    (handed c.args.bandwidth c.args.cc1.now c.args.cc2.now c.plan_row-plan.ensures c.in_default.is _ r, c.requires)

pub returns-clause-value : goal.returns-clause-value
returns-clause-value g c = c.read_planned-x.ensures.value
    ∙ second_answers c.args.bandwidth c.args.cc1.now c.args.cc2.now c.plan_row-plan.ensures c.in_default.is
    c.args.room

pub returns-clause-words_after : goal.returns-clause-words_after
returns-clause-words_after g c = c.read_planned-x.ensures.words_after ∙ second_writes c.args.bandwidth c.args.cc1.now c.args.cc2.now c.plan_row-plan.ensures
    c.in_default.is _ c.args.room _
