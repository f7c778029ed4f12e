-- What is known of an accepted frame.
use mathlib.Core.Path.{◌≡◌, refl, sym, ◌∙◌}
use mathlib.Core.List.{List}
use Prim.Native.Nat.{ℕ, ◌≤◌}
use lib.ListN.{length}
use Rattle.answer.proofs.Order.{pass_left, pass_right, pass_not_refuse}
use Rattle.answer.specs.Answer.{Outcome}
use Rattle.std.specs.Prelude.{Ok}
use Rattle.channel.specs.Layout.{row}
use Rattle.answer.specs.Lists.{at}
use Rattle.kinds.specs.Signals.{Signals}
use Rattle.plan.specs.Engine.{only_plan, plan_outcome}
use Rattle.plan.specs.Answers.{Laid, accepted, no_plan, over_eight}
use Rattle.plan.proofs.Laid.{outcome_laid}
use Rattle.plan.proofs.Parts.{plan_holds, held_signals}
use Rattle.halves.specs.Table.{outcome11, outcome6}
use Rattle.halves.specs.Engine.{outcome9to11}
use Rattle.halves.proofs.Stages.{outcome11_stages, common_pass}

pub known_code : (bw : ℕ) (a b : List ℕ) → outcome11 bw a b ≡ Ok tt → bw ≤ 4
known_code bw a b e =
    (common_pass bw a b (pass_left _ _ (pass_left _ _ (sym (outcome11_stages bw a b) ∙ e)))).known

-- ---- the plan that is listed signals the row of an accepted frame
pub accepted_signals : (bw : ℕ) (a b : List ℕ) → outcome11 bw a b ≡ Ok tt → Signals (only_plan (at (row bw a b))) (at (row bw a b)) 0 (length (row bw a b))
accepted_signals bw a b e =
    go (outcome_laid r) (pass_right (outcome6 bw a b) (plan_outcome r) (pass_left _ (outcome9to11 bw a b) (sym (outcome11_stages bw a b) ∙ e)))
  where
    r : List ℕ
    r = row bw a b

    go : {o : Outcome} → Laid r o → o ≡ Ok tt → Signals (only_plan (at r)) (at r) 0 (length r)
    go (accepted w) f = held_signals r (λ s l. plan_holds r (w.0, w.1) s)
    go (no_plan s l n h) f = absurd (pass_not_refuse f refl)
    go (over_eight s l h n k) f = absurd (pass_not_refuse f refl)
