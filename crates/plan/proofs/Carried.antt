-- Every value of a row that has a plan is carried: none else may stand anywhere.
use Prim.Native.Nat.{ℕ, ◌%◌, ◌≤◌, ◌<◌}
use mathlib.Core.Path.{◌≡◌, refl, ◌∙◌, ap}
use mathlib.Core.Bool.{true}
use mathlib.Core.Logic.{⊎_elim}
use mathlib.Core.List.{List}
use native.Mathlib.Omega.{arith}
use lib.ListN.{length}
use borrow.Author.Tests.{le-leb}
use Rattle.answer.specs.Lists.{at}
use Rattle.answer.specs.Answer.{no}
use Rattle.answer.specs.declared.Answer.{Answer}
use Rattle.answer.specs.Answer.{Outcome}
use Rattle.std.specs.Prelude.{Ok, Err}
use Rattle.answer.proofs.Order.{pass_not_refuse, refuse_same}
use Rattle.answer.specs.declared.Refusal.TheVariants.{OverEightFields}
use Rattle.answer.specs.declared.Refusal.{Refusal}
use Rattle.answer.specs.Answer.{answer_of}
use Rattle.resource.specs.Values.{carried}
use Rattle.resource.proofs.Fields.{carried_family}
use Rattle.kinds.specs.Kinds.{span}
use Rattle.kinds.specs.Signals.{Fits, own, blank, smaller}
use Rattle.kinds.proofs.Fitting.{known, smaller_view, blank_most}
use Rattle.kinds.proofs.Table.{family_low, family_most}
use Rattle.plan.specs.Answers.{Laid, accepted, no_plan, over_eight}
use Rattle.plan.specs.Engine.{plan_outcome}
use Rattle.plan.proofs.Laid.{outcome_laid}
use Rattle.plan.proofs.Demand.{accepted_plan}

low_carried : (v : ℕ) → v ≤ 30 → carried v ≡ true
unfolding carried
low_carried v l = rw (le-leb v 30 l)

fits_carried : (c p v : ℕ) → Fits c p v → carried v ≡ true
fits_carried c p v (own t e) =
    let h = known c p v (own t e) in
    let l = family_low c h in
    let u = family_most c h in
    carried_family v (omega arith) (omega arith)
fits_carried c p v (blank t e) = low_carried v (omega (arith, blank_most c (p % span c), e))
fits_carried c p v (smaller w) =
    ⊎_elim (λ l. low_carried v (omega arith)) (λ z. ⊎_elim (λ e. ap carried e ∙ is_48) (λ e. ap carried e ∙ is_50) z) (smaller_view (p % 4) v w.1)
  where
    is_48 : carried 48 ≡ true
    is_48 = unfold carried in refl

    is_50 : carried 50 ≡ true
    is_50 = unfold carried in refl

pub plan_carried : (row : List ℕ) → plan_outcome row ≡ Ok tt → (p : ℕ) → p < length row → carried (at row p) ≡ true
plan_carried row e p l =
    let w = accepted_plan row (rw e at (outcome_laid row)) in
    fits_carried (w.0 p) p (at row p) (w.1.fits p (omega arith) l)

-- the same of one with a resource over eight
pub over_carried : (row : List ℕ) (s : ℕ) → plan_outcome row ≡ Err (OverEightFields s) → (p : ℕ) → p < length row → carried (at row p) ≡ true
over_carried row s e p l = go (plan_outcome row) (outcome_laid row) e
  where
    go : (x : Outcome) → Laid row x → x ≡ Err (OverEightFields s) → carried (at row p) ≡ true
    go x (accepted a) f = absurd (pass_not_refuse refl f)
    go x (no_plan t m n g) f = absurd (let z : ◌≡◌ {A = ℕ} 7 8 = ap (λ (y : Refusal). (answer_of y).number) (refuse_same refl f) in omega arith)
    go x (over_eight o w t v g) f = fits_carried (o p) p (at row p) (w.fits p (omega arith) l)
