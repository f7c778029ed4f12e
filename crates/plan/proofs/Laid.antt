-- The layout's answer is 01's, and 01 has one answer for a row.
use mathlib.Core.Path.{◌≡◌, refl, sym, ◌∙◌, ap, subst}
use mathlib.Core.Logic.{⊎_elim}
use mathlib.Core.Bool.{Bool, true, false, not}
use mathlib.Core.List.{List}
use Prim.Native.Nat.{ℕ, ◌/◌, ◌≤◌, ◌<◌}
use native.Mathlib.Omega.{arith}
use lib.Dec.{ltb}
use lib.ListN.{length}
use borrow.Author.Tests.{ltb-true, ltb-false, not-true, not-false}
use Rattle.answer.specs.Answer.{no, refuse_if, ◌or◌}
use Rattle.answer.proofs.Order.{pass_right, pass_if}
use Rattle.answer.proofs.Least.{least_holds, least_before, least_le}
use Rattle.answer.specs.Answer.{Outcome}
use Rattle.std.specs.Prelude.{Ok, Err}
use Rattle.answer.specs.Lists.{at}
use Rattle.answer.specs.declared.Refusal.TheVariants.{NoPlan, OverEightFields}
use Rattle.resource.proofs.Test.{below_or}
use Rattle.kinds.specs.Signals.{Signals}
use Rattle.kinds.specs.Fields.{together}
use Rattle.kinds.proofs.Tests.{Tested}
use Rattle.plan.specs.Answers.{segments, SomePlanOfEight, Held, Over, Laid, accepted, no_plan, over_eight}
use Rattle.plan.specs.Engine.{only_plan, held_by, first_unheld, over_at, first_over, plan_outcome}
use Rattle.plan.proofs.Only.{whole_only}
use Rattle.plan.proofs.Parts.{plan_holds, held_tested, held_signals}

-- what a test says
pub tested_yes : (t : Bool) (A : Type 0) → Tested t A → t ≡ true → A
tested_yes true A d e = d
tested_yes false A d e = absurd (let z : ◌≡◌ {A = ℕ} 0 1 = cc in omega arith)

pub tested_no : (t : Bool) (A : Type 0) → Tested t A → t ≡ false → A → ⊥
tested_no true A d e = absurd (let z : ◌≡◌ {A = ℕ} 0 1 = cc in omega arith)
tested_no false A d e = d

module _ (row : List ℕ) where
  unheld_is : first_unheld row < segments row → Held row (first_unheld row) → ⊥
  unfolding first_unheld
  unheld_is l = tested_no (held_by row _) (Held row _) (held_tested row _) (not-true _ (least_holds (λ s. not (held_by row s)) (segments row) l))

  held_before : (s : ℕ) → s < first_unheld row → Held row s
  unfolding first_unheld
  held_before s l = tested_yes (held_by row s) (Held row s) (held_tested row s) (not-false _ (least_before (λ s. not (held_by row s)) (segments row) s l))

  over_is : first_over row < length row → 8 < together (only_plan (at row) (first_over row)) (at row) (first_over row)
  unfolding first_over
  over_is l = ltb-true _ _ (least_holds (over_at row) (length row) l)

  pub within_before : (p : ℕ) → p < first_over row → together (only_plan (at row) p) (at row) p ≤ 8
  unfolding first_over
  within_before p l = ltb-false _ _ (least_before (over_at row) (length row) p l)

  over_most : first_over row ≤ length row
  unfolding first_over
  over_most = least_le (over_at row) (length row)

  pub outcome_laid : Laid row (plan_outcome row)
  unfolding plan_outcome
  outcome_laid = go (ltb (first_unheld row) (segments row)) (ltb (first_over row) (length row)) refl refl
    where
      go : (a b : Bool) → ltb (first_unheld row) (segments row) ≡ a → ltb (first_over row) (length row) ≡ b
          → Laid row (refuse_if a (NoPlan (first_unheld row)) or refuse_if b (OverEightFields (first_over row / 4)))
      go true b e f = let l = ltb-true (first_unheld row) (segments row) e in no_plan (first_unheld row) l (unheld_is l) held_before
      go false true e f =
          let l = ltb-true (first_over row) (length row) f in
          let u = ltb-false (first_unheld row) (segments row) e in
          over_eight (only_plan (at row)) (held_signals row (λ s m. held_before s (omega arith))) (first_over row / 4) (first_over row, l, refl, over_is l)
          (λ t m w. let v = within_before w.0 (omega (arith, w.2)) in omega (arith, w.3))
      go false false e f =
          let u = ltb-false (first_unheld row) (segments row) e in
          let v = ltb-false (first_over row) (length row) f in
          accepted (only_plan (at row), held_signals row (λ s m. held_before s (omega arith)), λ p k n. within_before p (omega arith))

-- ---- 01 has one answer for a row
lowest : (P : ℕ → Type 0) (s t : ℕ) → P s → P t → ((i : ℕ) → i < s → P i → ⊥) → ((i : ℕ) → i < t → P i → ⊥) → s ≡ t
lowest P s t a b f g = ⊎_elim (λ l. absurd (g s l a)) (λ l. ⊎_elim (λ m. absurd (f t m b)) (λ m. omega arith) (below_or t s)) (below_or s t)

module _ (row : List ℕ) where
  -- two plans of the row are one, so what is over eight in one is in the other
  pub over_same : (o o' : ℕ → ℕ) → Signals o (at row) 0 (length row) → Signals o' (at row) 0 (length row) → (s : ℕ) → Over o row s → Over o' row s
  over_same o o' w w' s v =
      (v.0, v.1, v.2, subst (λ (c : ℕ). 8 < together c (at row) v.0) (whole_only row o w v.0 v.1 ∙ sym (whole_only row o' w' v.0 v.1)) v.3)

  none_of_eight : SomePlanOfEight row 0 (length row) → (o : ℕ → ℕ) → Signals o (at row) 0 (length row) → (s : ℕ) → Over o row s → ⊥
  none_of_eight a o w s v =
      let x = over_same o a.0 w a.1 s v in
      let l = a.2 x.0 (omega arith) x.1 in
      omega (arith, x.3)

  pub laid_same : (x y : Outcome) → Laid row x → Laid row y → x ≡ y
  laid_same x y (accepted a) (accepted b) = refl
  laid_same x y (accepted a) (no_plan s l n f) = absurd (n (plan_holds row (a.0, a.1) s))
  laid_same x y (accepted a) (over_eight o w s v f) = absurd (none_of_eight a o w s v)
  laid_same x y (no_plan s l n f) (accepted a) = absurd (n (plan_holds row (a.0, a.1) s))
  laid_same x y (no_plan s l n f) (no_plan t m o g) =
      ap (λ (k : ℕ). Err (NoPlan k)) (lowest (λ s. Held row s → ⊥) s t n o (λ i m c. c (f i m)) (λ i m c. c (g i m)))
  laid_same x y (no_plan s l n f) (over_eight o w t v g) = absurd (n (plan_holds row (o, w) s))
  laid_same x y (over_eight o w s v f) (accepted a) = absurd (none_of_eight a o w s v)
  laid_same x y (over_eight o w s v f) (no_plan t m n g) = absurd (n (plan_holds row (o, w) t))
  laid_same x y (over_eight o w s v f) (over_eight o' w' t v' g) =
      ap (λ (k : ℕ). Err (OverEightFields k)) (lowest (Over o row) s t v (over_same o' o w' w t v') f (λ i m c. g i m (over_same o o' w w' i c)))

  -- so a layout's outcome is the one that is worked out
  pub laid_is : (x : Outcome) → Laid row x → x ≡ plan_outcome row
  laid_is x w = laid_same x (plan_outcome row) w (outcome_laid row)

  -- a row that is accepted has no resource over eight
  pub none_over : plan_outcome row ≡ Ok tt → first_over row ≡ length row
  unfolding plan_outcome
  none_over e =
      let l : length row ≤ first_over row = ltb-false (first_over row) (length row) (pass_if _ _ (pass_right _ _ e)) in
      omega (arith, over_most row)
