-- `plan::seek` meets its contract.
use Rattle.std.proofs.Common.{ℕ, ◌<◌, ◌∙◌, ap, arith}
use Rattle.answer.specs.Answer.{no}
use Rattle.std.specs.Prelude.{Err}
use Rattle.answer.proofs.Order.{pass_not_refuse}
use Rattle.answer.specs.declared.Refusal.TheVariants.{NoPlan}
use Rattle.plan.specs.Answers.{segments}
use Rattle.plan.specs.Engine.{first_unheld}
use Rattle.plan.proofs.Value.{unheld_refuses}
use Rattle.plan.proofs.seek.Goals as goal

pub returns-in-Some : goal.returns-in-Some
returns-in-Some c =
    let f = c.in-Some.ensures in
    let l : first_unheld c.args.row.now < segments c.args.row.now = omega (arith, f.0, f.1) in
    record {
      answers = unheld_refuses c.args.row.now _ l (c.refused.ensures ∙ ap (λ (s : ℕ). Err (NoPlan s)) f.1);
      plans = λ p. absurd (pass_not_refuse p c.refused.ensures);
    }

pub returns-in-Some-unheld_in : goal.returns-in-Some-unheld_in
returns-in-Some-unheld_in c =
    let f = c.in-Some-unheld_in.ensures.found in
    let l : first_unheld c.args.row.now < segments c.args.row.now = omega (arith, f.0, f.1) in
    record {
      answers = unheld_refuses c.args.row.now _ l (c.refused-in-Some-unheld_in.ensures ∙ ap (λ (s : ℕ). Err (NoPlan s)) f.1);
      plans = λ p. absurd (pass_not_refuse p c.refused-in-Some-unheld_in.ensures);
    }
