-- What the code sees without a place: a frame that is lent as it may be passes 1 to 3, and one whose row has a plan passes 6. And the stages in
-- which it asks 1 to 8.
use mathlib.Core.Path.{◌≡◌, sym, ◌∙◌, ap₂, subst}
use mathlib.Core.Bool.{true}
use mathlib.Core.List.{List}
use Prim.Native.Nat.{ℕ, ◌≤◌, ◌<◌}
use lib.ListN.{length, replicate}
use borrow.Author.Tests.{le-ltb}
use Rattle.answer.specs.Answer.{no, ◌or◌}
use Rattle.answer.specs.Lists.{filled, at}
use Rattle.answer.specs.declared.Answer.{Answer}
use Rattle.answer.specs.Answer.{Outcome}
use Rattle.std.specs.Prelude.{Ok, Err}
use Rattle.answer.proofs.Every.{all_every}
use Rattle.answer.proofs.Order.{or_pass, if_pass, or_refuse, or_next, or_assoc}
use Rattle.answer.specs.declared.Refusal.TheVariants.{OverEightFields}
use Rattle.answer.specs.declared.Refusal.{Refusal}
use Rattle.resource.specs.Values.{carried}
use Rattle.plan.specs.declared.Rest.{Rest}
use Rattle.plan.specs.Engine.{plan_outcome, Tells}
use Rattle.plan.proofs.Carried.{plan_carried, over_carried}
use Rattle.channel.specs.Layout.{positions, row, row_in16}
use Rattle.channel.specs.declared.Parts.{Parts}
use Rattle.channel.specs.Engine.{parts_of, part_at}
use Rattle.channel.proofs.Held.{row_of_parts}
use Rattle.lengths.specs.Engine.{lent}
use Rattle.lengths.proofs.Lent.{lent_passes}
use Rattle.halves.specs.Table.{check1, check2, check3, check4, check5, check6, outcome6}
use Rattle.halves.specs.Engine.{outcome3, outcome5, all_carried, outcome1to8, Plans}
use Rattle.halves.proofs.Stages.{common_five, five_pass}
use Rattle.halves.proofs.Carried.{carried_passes}

pub lent_three : (bw : ℕ) (a b : List ℕ) → lent bw a b ≡ true → outcome3 bw a b ≡ Ok tt
unfolding outcome3 check1 check2 check3
lent_three bw a b e =
    let p = lent_passes bw a b e in
    or_pass _ _ (or_pass _ _ (if_pass _ _ (le-ltb 4 bw p.known)) (or_pass _ _ p.long_1 p.long_2)) (or_pass _ _ p.cut_1 p.cut_2)

-- ---- the stages

module _ (bw : ℕ) (a b : List ℕ) (o : Outcome) where
  pub stopped_three : (x : Refusal) → o ≡ outcome3 bw a b → o ≡ Err x → o ≡ outcome5 bw a b
  unfolding outcome5
  stopped_three x e f = f ∙ sym (or_refuse _ (check5 bw a b) x (or_refuse _ (check4 bw a b) x (sym e ∙ f)))

  pub passed_three : (r : Outcome) → o ≡ outcome3 bw a b → o ≡ Ok tt → r ≡ (check4 bw a b or check5 bw a b) → r ≡ outcome5 bw a b
  unfolding outcome5
  passed_three r e f g = g ∙ sym (or_assoc (outcome3 bw a b) (check4 bw a b) (check5 bw a b) ∙ or_next _ (check4 bw a b or check5 bw a b) (sym e ∙ f))

  pub stopped_five : (x : Refusal) → o ≡ outcome5 bw a b → o ≡ Err x → o ≡ outcome1to8 bw a b
  unfolding outcome1to8
  stopped_five x e f =
      f ∙ sym (or_refuse _ (plan_outcome (row bw a b)) x (common_five bw a b ∙ or_refuse _ (check6 bw a b) x (sym e ∙ f)))

-- what passes, made anew
abbrev again : Rest → Rest
again x = record { fields1 = x.fields1; outcome = (Ok tt); fields2 = x.fields2; shared = x.shared }

same : (x : Rest) → x.outcome ≡ Ok tt → x ≡ again x
same x e = λ i. record { fields1 = x.fields1; outcome = e i; fields2 = x.fields2; shared = x.shared }

pub remade : (row kinds : List ℕ) (x : Rest) → x.outcome ≡ Ok tt → Tells row x kinds → Tells row (again x) kinds
remade row kinds x e w = subst (λ (y : Rest). Tells row y kinds) (same x e) w

-- of a frame that passes 1 to 5
module _ (bw : ℕ) (a b : List ℕ) (five : outcome5 bw a b ≡ Ok tt) where
  common_is : outcome6 bw a b ≡ check6 bw a b
  common_is = common_five bw a b ∙ or_next _ (check6 bw a b) five

  pub stopped_six : (o : Outcome) (x : Refusal) → o ≡ check6 bw a b → o ≡ Err x → o ≡ outcome1to8 bw a b
  unfolding outcome1to8
  stopped_six o x e f = f ∙ sym (or_refuse _ (plan_outcome (row bw a b)) x (common_is ∙ sym e ∙ f))

  -- 7 and 8 are left where 6 passes
  pub passed_six : check6 bw a b ≡ Ok tt → plan_outcome (row bw a b) ≡ outcome1to8 bw a b
  unfolding outcome1to8
  passed_six e = sym (or_next _ (plan_outcome (row bw a b)) (common_is ∙ e))

  -- a row of carried values passes 6: one that has a plan, with at most eight fields on each resource or with more
  carried_six : ((p : ℕ) → p < length (row bw a b) → carried (at (row bw a b) p) ≡ true) → check6 bw a b ≡ Ok tt
  carried_six h =
      carried_passes bw a b (five_pass bw a b five).known
      (unfold all_carried in all_every (λ p. carried (at (row bw a b) p)) (length (row bw a b)) h)

  pub plan_six : plan_outcome (row bw a b) ≡ Ok tt → check6 bw a b ≡ Ok tt
  plan_six e = carried_six (plan_carried (row bw a b) e)

  pub told_eight : (s : ℕ) → plan_outcome (row bw a b) ≡ Err (OverEightFields s) → Err (OverEightFields s) ≡ outcome1to8 bw a b
  told_eight s e = sym e ∙ passed_six (carried_six (over_carried (row bw a b) s e))

  -- what is told of its row's plan
  pub told_plans : (x : Rest) (r kinds : List ℕ) → check6 bw a b ≡ Ok tt → r ≡ row_in16 bw a b → Tells (row bw a b) x kinds → Plans bw a b x r kinds
  told_plans x r kinds six e w = record { answers = w.answers ∙ passed_six six; the_row = λ _. e; the_plan = w.plans }

-- the row that is filled from the parts
pub put_is : (bw : ℕ) (a b : List ℕ) (p : Parts) (w r : List ℕ) → bw ≤ 4 → r ≡ filled (part_at bw p) (positions bw) w → p ≡ parts_of bw a b
    → w ≡ replicate 16 0 → r ≡ row_in16 bw a b
put_is bw a b p w r l e f g =
    e ∙ ap₂ (λ (q : Parts) (v : List ℕ). filled (part_at bw q) (positions bw) v) f g ∙ row_of_parts bw a b l
