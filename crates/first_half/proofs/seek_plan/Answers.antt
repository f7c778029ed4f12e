-- `first_half::seek_plan` meets its contract.
use Rattle.std.proofs.Common.{sym, ◌∙◌}
use Rattle.answer.proofs.Order.{pass_not_refuse}
use Rattle.halves.proofs.Rows.{front}
use Rattle.halves.proofs.Stages.{five_pass}
use Rattle.first_half.proofs.Screens.{stopped_six, told_plans}
use Rattle.first_half.proofs.seek_plan.Goals as goal

pub not_carried-six-requires : goal.not_carried-six-requires
not_carried-six-requires c = ((five_pass c.args.bw c.args.a.now c.args.b.now c.requires.0).known, c.requires.1)

pub returns-in-Err : goal.returns-in-Err
returns-in-Err c =
    let six = stopped_six c.args.bw c.args.a.now c.args.b.now c.requires.0 _ _ c.not_carried-six.ensures c.in-Err.is in
    record {
      answers = c.stopped.ensures ∙ six;
      the_row = λ _. c.requires.1;
      the_plan = λ p. absurd
          (pass_not_refuse p (c.stopped.ensures ∙ c.in-Err.is));
    }

pub positions_of-requires : goal.positions_of-requires
positions_of-requires c = (five_pass c.args.bw c.args.a.now c.args.b.now c.requires.0).known

pub returns : goal.returns
returns c =
    let six = sym c.not_carried-six.ensures ∙ c.in_default.is in
    let f = front c.args.bw c.args.a.now c.args.b.now _ _ c.positions_of.ensures.value c.requires.1 in
    told_plans c.args.bw c.args.a.now c.args.b.now c.requires.0 _ _ _ six c.requires.1 (rw f at c.seek_front.ensures)
