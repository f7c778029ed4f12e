-- The third demand, as far as it speaks of plans and of the answer.
use mathlib.Core.Path.{◌≡◌, refl, sym, ◌∙◌}
use mathlib.Core.Logic.{◌⊎◌, inl, inr}
use mathlib.Core.List.{List}
use Prim.Native.Nat.{ℕ, ◌<◌}
use lib.ListN.{length}
use Rattle.answer.specs.Answer.{no}
use Rattle.answer.specs.Answer.{Outcome}
use Rattle.std.specs.Prelude.{Ok, Err}
use Rattle.answer.specs.Lists.{at}
use Rattle.answer.specs.declared.Refusal.TheVariants.{NoPlan, OverEightFields}
use Rattle.kinds.specs.Signals.{Signals}
use Rattle.plan.specs.Answers.{segments, SomePlan, SomePlanOfEight, Held, Laid, accepted, no_plan, over_eight}
use Rattle.plan.specs.Engine.{only_plan, plan_outcome}
use Rattle.plan.proofs.Only.{whole_only}
use Rattle.plan.proofs.Parts.{plan_holds, held_signals}
use Rattle.plan.proofs.Laid.{laid_is}

module _ (row : List ℕ) where
  -- a row is accepted exactly when a plan signals it with at most eight User fields on each resource
  pub accepted_plan : Laid row (Ok tt) → SomePlanOfEight row 0 (length row)
  accepted_plan (accepted w) = w

  pub plan_accepted : SomePlanOfEight row 0 (length row) → plan_outcome row ≡ Ok tt
  plan_accepted w = sym (laid_is row (Ok tt) (accepted w))

  -- any plan that signals the row is the only plan, at every position of the row ..
  pub only_plan_lem : (o : ℕ → ℕ) → Signals o (at row) 0 (length row) → (p : ℕ) → p < length row → o p ≡ only_plan (at row) p
  only_plan_lem = whole_only row

  -- .. so no two differ
  pub one_plan : (o o' : ℕ → ℕ) → Signals o (at row) 0 (length row) → Signals o' (at row) 0 (length row)
      → (p : ℕ) → p < length row → o p ≡ o' p
  one_plan o o' w w' p u = only_plan_lem o w p u ∙ sym (only_plan_lem o' w' p u)

  -- a row has a plan exactly when each of its segments lies in a part with one
  pub plan_parts : SomePlan row 0 (length row) → (s : ℕ) → s < segments row → Held row s
  plan_parts w s l = plan_holds row w s

  pub parts_plan : ((s : ℕ) → s < segments row → Held row s) → SomePlan row 0 (length row)
  parts_plan f = (only_plan (at row), held_signals row f)

  -- a row that is not accepted is refused for its layout
  pub refused_layout : (x : Outcome) → Laid row x → (x ≡ Ok tt) ⊎ ((s : ℕ) × ((x ≡ Err (NoPlan s)) ⊎ (x ≡ Err (OverEightFields s))))
  refused_layout x (accepted w) = inl refl
  refused_layout x (no_plan s l n f) = inr (s, inl refl)
  refused_layout x (over_eight o w s v f) = inr (s, inr refl)
