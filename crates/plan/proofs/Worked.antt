-- What the engine works out is 01's: `Worked`, of every row.
use mathlib.Core.Path.{◌≡◌, refl, sym}
use mathlib.Core.Logic.{⊎_elim}
use mathlib.Core.Bool.{Bool, true, false, not}
use mathlib.Core.List.{List}
use Prim.Native.Nat.{ℕ, ◌*◌, ◌/◌, ◌≤◌, ◌<◌}
use native.Mathlib.Omega.{arith}
use lib.Dec.{ltb}
use borrow.Author.Tests.{ltb-true, ltb-false, le-ltb, not-true, not-false}
use Rattle.answer.specs.Answer.{no, refuse_if, ◌or◌}
use Rattle.answer.specs.Lists.{at}
use Rattle.answer.proofs.Least.{least_holds, least_before}
use Rattle.answer.specs.declared.Refusal.TheVariants.{NoPlan, OverEightFields}
use Rattle.resource.proofs.Test.{below_or}
use Rattle.kinds.specs.Fields.{together}
use Rattle.kinds.proofs.Tests.{Tested, decides, move, by_test}
use Rattle.plan.specs.Answers.{segments, segment_end, Held, Over, Laid, accepted, no_plan, over_eight}
use Rattle.plan.specs.Engine.{only_plan, over_at, every_from, plan_outcome}
use Rattle.plan.specs.Worked.{the_plan, is_held, at_most_eight, lowest_without, outcome7, outcome8, Worked}
use Rattle.plan.proofs.Only.{whole_only}
use Rattle.plan.proofs.Found.{every_tested, one_fails}
use Rattle.plan.proofs.Parts.{held_tested, held_signals}
use Rattle.plan.proofs.Laid.{tested_yes, tested_no, laid_same, laid_is}

-- ---- a segment
module _ (row : List ℕ) (s : ℕ) where
  pub is_held_tested : Tested (is_held row s) (Held row s)
  unfolding is_held
  is_held_tested = held_tested row s

  abbrev NoneOver : Type 0
  NoneOver = Over (the_plan row) row s → ⊥

  pub eight_tested : Tested (at_most_eight row s) NoneOver
  unfolding at_most_eight
  eight_tested = move (every_from (over_at row) (4 * s) (segment_end row s)) _ NoneOver
      (λ f w. let v : together (the_plan row w.0) (at row) w.0 ≤ 8 = ltb-false 8 _ (f w.0 (omega (arith, w.2)) (omega (arith, w.1, w.2))) in
      omega (arith, w.3))
      (λ f p l u. ⊎_elim (λ g. absurd (f (p, omega arith, omega arith, g))) (λ g. le-ltb 8 _ g) (below_or 8 (together (only_plan (at row) p) (at row) p)))
      (every_tested (over_at row) (4 * s) (segment_end row s))

  -- some place of it is a resource's over eight, if it is not so that none is
  pub over_or : (NoneOver → ⊥) → Over (the_plan row) row s
  over_or f = by_test (every_from (over_at row) (4 * s) (segment_end row s))
      (λ e. absurd (f (tested_yes (at_most_eight row s) NoneOver eight_tested (unfold at_most_eight in e))))
      (λ e. let w = one_fails (over_at row) (4 * s) (segment_end row s) e in (w.0, omega (arith, w.2), omega (arith, w.1, w.2), ltb-true 8 _ w.3))

-- ---- the lowest segment that fails
module _ (has : ℕ → Bool) (P : ℕ → Type 0) (n : ℕ) (tested : (s : ℕ) → Tested (has s) (P s)) where
  pub lowest_lacks : lowest_without has n < n → P (lowest_without has n) → ⊥
  unfolding lowest_without
  lowest_lacks l = tested_no (has _) (P _) (tested _) (not-true _ (least_holds (λ s. not (has s)) n l))

  pub below_holds : (t : ℕ) → t < lowest_without has n → P t
  unfolding lowest_without
  below_holds t l = tested_yes (has t) (P t) (tested t) (not-false _ (least_before (λ s. not (has s)) n t l))

module _ (row : List ℕ) where
  -- the lowest segment in no part with a plan; the lowest with a place of a resource over eight
  abbrev seventh : ℕ
  seventh = lowest_without (is_held row) (segments row)

  abbrev eighth : ℕ
  eighth = lowest_without (at_most_eight row) (segments row)

  below_7 : (t : ℕ) → t < seventh → Held row t
  below_7 = below_holds (is_held row) (Held row) (segments row) (is_held_tested row)

  below_8 : (t : ℕ) → t < eighth → NoneOver row t
  below_8 = below_holds (at_most_eight row) (NoneOver row) (segments row) (eight_tested row)

  -- a segment that fails the test has such a place
  over_there : eighth < segments row → Over (the_plan row) row eighth
  over_there l = over_or row eighth (lowest_lacks (at_most_eight row) (NoneOver row) (segments row) (eight_tested row) l)

  pub outcomes_laid : Laid row (outcome7 row or outcome8 row)
  unfolding outcome7 outcome8
  outcomes_laid = go (ltb seventh (segments row)) (ltb eighth (segments row)) refl refl
    where
      go : (a b : Bool) → ltb seventh (segments row) ≡ a → ltb eighth (segments row) ≡ b
          → Laid row (refuse_if a (NoPlan seventh) or refuse_if b (OverEightFields eighth))
      go true b e f =
          let l = ltb-true seventh (segments row) e in
          no_plan seventh l (lowest_lacks (is_held row) (Held row) (segments row) (is_held_tested row) l) below_7
      go false true e f =
          let l = ltb-true eighth (segments row) f in
          let u = ltb-false seventh (segments row) e in
          over_eight (only_plan (at row)) (held_signals row (λ s m. below_7 s (omega arith))) eighth (over_there l) below_8
      go false false e f =
          let u = ltb-false seventh (segments row) e in
          let v = ltb-false eighth (segments row) f in
          accepted (
            only_plan (at row),
            held_signals row (λ s m. below_7 s (omega arith)),
            λ p l m. ⊎_elim (λ g. absurd (below_8 (p / 4) (omega arith) (p, m, refl, g))) (λ g. g) (below_or 8 (together (only_plan (at row) p) (at row) p)),
          )

  -- so the engine's outcome is that of 7 and 8
  pub outcome_is : plan_outcome row ≡ outcome7 row or outcome8 row
  outcome_is = sym (laid_is row (outcome7 row or outcome8 row) outcomes_laid)

  pub worked : Worked row
  worked = record {
    the_plan_fact = whole_only row;
    is_held_fact = λ s h. decides (is_held row s) (Held row s) (is_held_tested row s);
    at_most_eight_fact = λ s h. decides (at_most_eight row s) (NoneOver row s) (eight_tested row s);
    is_laid = outcomes_laid;
    only_laid = λ x w. laid_same row x (outcome7 row or outcome8 row) w outcomes_laid;
  }
