-- `first_half::plan_row` meets its contract.
use Rattle.std.proofs.Common.{sym, ◌∙◌, ap, ℕ, arith}
use Rattle.answer.specs.Answer.{no}
use Rattle.std.specs.Prelude.{Err}
use Rattle.answer.proofs.Order.{pass_not_refuse}
use Rattle.answer.specs.declared.Refusal.TheVariants.{OverEightFields}
use Rattle.halves.proofs.Rows.{front}
use Rattle.halves.proofs.Stages.{five_pass}
use Rattle.first_half.proofs.Screens.{stopped_five, plan_six, told_eight, told_plans, remade}
use Rattle.first_half.proofs.plan_row.Goals as goal

pub returns-in-Err : goal.returns-in-Err
returns-in-Err c =
    let five = stopped_five c.args.bw c.args.a.now c.args.b.now _ _ c.first_five-five.ensures.value c.in-Err.is in
    record {
      answers = c.stopped.ensures ∙ five;
      the_row = λ p. absurd (pass_not_refuse p (c.stopped.ensures ∙ c.in-Err.is));
      the_plan = λ p. absurd (pass_not_refuse p (c.stopped.ensures ∙ c.in-Err.is));
    }

pub positions_of-requires : goal.positions_of-requires
positions_of-requires c = (five_pass c.args.bw c.args.a.now c.args.b.now (sym c.first_five-five.ensures.value ∙ c.in_default.is)).known

pub returns-then-told-lt65536 : goal.returns-then-told-lt65536
returns-then-told-lt65536 c =
    let five = sym c.first_five-five.ensures.value ∙ c.in_default.is in
    let r = c.first_five-five.ensures.row_after c.in_default.is in
    let f = front c.args.bw c.args.a.now c.args.b.now _ _ c.positions_of.ensures.value r in
    let w = rw f at (c.tell_front-told.ensures.1 (omega arith)) in
    let six = plan_six c.args.bw c.args.a.now c.args.b.now five (sym w.answers ∙ c.tell_front-told.ensures.0) in
    told_plans c.args.bw c.args.a.now c.args.b.now five _ _ _ six r (remade _ _ _ c.tell_front-told.ensures.0 w)

pub returns-then-s-lt4 : goal.returns-then-s-lt4
returns-then-s-lt4 c =
    let f = front c.args.bw c.args.a.now c.args.b.now _ _ c.positions_of.ensures.value (c.first_five-five.ensures.row_after c.in_default.is) in
    let l = rw c.over_in-s.ensures at c.if-s-lt4.true in
    let w = rw f at (c.tell_front-told.ensures.2 l) in
    let e = c.stopped-then-s-lt4.ensures ∙ ap (λ (k : ℕ). Err (OverEightFields k)) c.over_in-s.ensures in
    record {
      answers = e ∙ told_eight c.args.bw c.args.a.now c.args.b.now (sym c.first_five-five.ensures.value ∙ c.in_default.is) _ w;
      the_row = λ p. absurd (pass_not_refuse p e);
      the_plan = λ p. absurd (pass_not_refuse p e);
    }
