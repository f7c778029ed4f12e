-- `plan::counted` meets its contract.
use Rattle.std.proofs.Common.{ℕ, ◌/◌, ◌≤◌, ◌<◌, ◌∙◌, ap, arith, length}
use Rattle.answer.specs.Answer.{no}
use Rattle.std.specs.Prelude.{Err}
use Rattle.answer.proofs.Order.{pass_not_refuse}
use Rattle.answer.specs.declared.Refusal.TheVariants.{OverEightFields}
use Rattle.plan.specs.Engine.{first_over, with_kinds}
use Rattle.plan.proofs.Value.{over_refuses, none_passes, plan_is}
use Rattle.plan.proofs.counted.Goals as goal

pub returns-in-Err : goal.returns-in-Err
returns-in-Err c =
    let f = c.in-Err.ensures.over in
    let l : first_over c.args.row.now < length c.args.row.now = rw (← f.1) f.0 in
    record {
      answers = over_refuses c.args.row.now c.requires.2 _ l (c.refused.ensures ∙ ap (λ (p : ℕ). Err (OverEightFields (p / 4))) f.1);
      plans = λ p. absurd (pass_not_refuse p c.refused.ensures);
    }

pub returns-in-Ok : goal.returns-in-Ok
unfolding with_kinds
returns-in-Ok c =
    let f = c.in-Ok.ensures.shared in
    let l : length c.args.row.now ≤ first_over c.args.row.now = omega (arith, f.0) in
    let p = none_passes c.args.row.now c.requires.2 l in
    record {
      answers = p;
      plans = λ _. plan_is c.args.row.now _ _ _ _ p c.requires.1 f.1 c.channel_fields.ensures c.channel_fields-in-Ok.ensures;
    }
