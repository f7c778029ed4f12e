-- What the first half says of a frame.
use mathlib.Core.Path.{◌≡◌, refl, sym, ◌∙◌, ap}
use mathlib.Core.List.{List}
use Prim.Native.Nat.{ℕ, ◌/◌, ◌%◌, ◌^◌, ◌≤◌, ◌<◌}
use lib.Dec.{eqb}
use lib.ListN.{length}
use Rattle.answer.specs.Answer.{◌or◌}
use Rattle.answer.proofs.Order.{pass_left, pass_right, or_refuse, or_next}
use Rattle.answer.specs.declared.Answer.{Answer}
use Rattle.answer.specs.Answer.{Outcome}
use Rattle.std.specs.Prelude.{Ok, Err}
use Rattle.plan.specs.declared.Plan.{Plan}
use Rattle.plan.specs.declared.Rest.{Rest}
use Rattle.answer.specs.Lists.{at}
use Rattle.answer.specs.declared.Refusal.{Refusal}
use Rattle.kinds.specs.Fields as F
use Rattle.plan.specs.Engine.{only_plan, plan_outcome, kinds_of, passed_plan, plan_of, with_kinds}
use Rattle.kinds.specs.Fields.{fields_to}
use Rattle.plan.proofs.Value.{plan_outcome_lem, plan_passed, shared_bit}
use Rattle.channel.specs.Layout.{positions, row, row_in16, count}
use Rattle.channel.proofs.Laws.{row_length, count_le}
use Rattle.halves.specs.declared.Planned.{Planned}
use Rattle.halves.specs.Engine.{outcome9to11, no_plan, with_plan, planned_at, outcome1to8, planned_of, Plans}
use Rattle.halves.proofs.Stages.{common_pass, outcome11_stages}
use Rattle.halves.specs.Table.{outcome6, outcome11}
use Rattle.halves.proofs.Counts.{count_1, count_2}

-- of a frame that the first half passes
pub record Made (bw : ℕ) (a b : List ℕ) (p : Planned) : Type 0 where
  pub common : outcome6 bw a b ≡ Ok tt
  pub laid : plan_outcome (row bw a b) ≡ Ok tt
  pub the_row : p.row ≡ row_in16 bw a b
  pub the_kinds : p.kinds ≡ kinds_of (row bw a b)
  pub count1 : p.fields1 ≡ count bw 1 a
  pub count2 : p.fields2 ≡ count bw 2 b
  pub most1 : p.fields1 ≤ 72
  pub most2 : p.fields2 ≤ 72
  pub formats : (q : ℕ) → q < positions bw → eqb (p.shared / 2 ^ q % 2) 1 ≡ F.shared (only_plan (at (row bw a b))) (at (row bw a b)) q

-- the outcome of a result that is another
pub outcome_made : {p q : Planned} {o : Outcome} → p ≡ q → p.outcome ≡ o → q.outcome ≡ o
outcome_made e f = sym (ap (λ (p : Planned). p.outcome) e) ∙ f

module _ (bw : ℕ) (a b : List ℕ) where
  -- the two ways through it: refused, planned
  pub stopped : (o : Outcome) (x : Refusal) → o ≡ outcome1to8 bw a b → o ≡ Err x → no_plan o ≡ planned_of bw a b
  unfolding planned_of
  stopped o x e f = rw (sym e ∙ f, f)

  pub planned : (r : List ℕ) (p : Plan) → outcome1to8 bw a b ≡ Ok tt → r ≡ row_in16 bw a b → p ≡ plan_of (row bw a b) → with_plan r p ≡ planned_of bw a b
  unfolding planned_of
  planned r p e er ep = rw (e, er, ep)

  -- the first refusal of 1 to 8
  pub planned_out : (planned_of bw a b).outcome ≡ outcome6 bw a b or plan_outcome (row bw a b)
  unfolding planned_of no_plan with_plan outcome1to8
  planned_out = go (outcome6 bw a b or plan_outcome (row bw a b)) refl
    where
      go : (o : Outcome) → outcome6 bw a b or plan_outcome (row bw a b) ≡ o → (planned_at o (row_in16 bw a b) (plan_of (row bw a b))).outcome ≡ o
      go (Ok u) e = plan_outcome_lem (row bw a b) ∙ pass_right (outcome6 bw a b) _ e
      go (Err x) e = refl

  made : outcome6 bw a b ≡ Ok tt → plan_outcome (row bw a b) ≡ Ok tt → Made bw a b (with_plan (row_in16 bw a b) (passed_plan (row bw a b)))
  unfolding with_plan passed_plan
  made c d =
      let l : bw ≤ 4 = (common_pass bw a b c).known in
      let m : length (row bw a b) ≡ positions bw = row_length bw a b in
      let n : fields_to 1 (at (row bw a b)) (length (row bw a b)) ≡ count bw 1 a = ap (fields_to 1 (at (row bw a b))) m ∙ sym (count_1 bw a b l) in
      let k : fields_to 2 (at (row bw a b)) (length (row bw a b)) ≡ count bw 2 b = ap (fields_to 2 (at (row bw a b))) m ∙ sym (count_2 bw a b l) in
      record {
        common = c;
        laid = d;
        the_row = refl;
        the_kinds = refl;
        count1 = n;
        count2 = k;
        most1 = rw n (count_le bw 1 a);
        most2 = rw k (count_le bw 2 b);
        formats = λ q k. shared_bit (row bw a b) q (rw m k);
      }

  pub planned_pass : (planned_of bw a b).outcome ≡ Ok tt → Made bw a b (planned_of bw a b)
  unfolding planned_of outcome1to8
  planned_pass e =
      let f = sym planned_out ∙ e in
      let c : outcome6 bw a b ≡ Ok tt = pass_left _ (plan_outcome (row bw a b)) f in
      let d : plan_outcome (row bw a b) ≡ Ok tt = pass_right (outcome6 bw a b) _ f in
      rw (f, plan_passed (row bw a b) d) (made c d)

  -- the first half's refusals are the whole's ..
  pub planned_refuse : (x : Refusal) → (planned_of bw a b).outcome ≡ Err x → outcome11 bw a b ≡ Err x
  planned_refuse x e = outcome11_stages bw a b ∙ or_refuse _ (outcome9to11 bw a b) x (sym planned_out ∙ e)

  -- .. and where it passes, the second half's
  pub planned_rest : (planned_of bw a b).outcome ≡ Ok tt → outcome11 bw a b ≡ outcome9to11 bw a b
  planned_rest e = outcome11_stages bw a b ∙ or_next _ (outcome9to11 bw a b) (sym planned_out ∙ e)

  -- what a result of the first half that passes is
  pub planned_made : (p : Planned) → p ≡ planned_of bw a b → p.outcome ≡ Ok tt → Made bw a b p
  planned_made p e f = rw e (planned_pass (outcome_made e f))

-- ---- in room that is lent
module _ (bw : ℕ) (a b : List ℕ) (x : Rest) (r k : List ℕ) (w : Plans bw a b x r k) where
  -- it is the first half's result as a value
  pub lent_plan : x.outcome ≡ Ok tt → with_plan r (with_kinds x k) ≡ planned_of bw a b
  lent_plan e = planned bw a b r (with_kinds x k) (sym w.answers ∙ e) (w.the_row e) (w.the_plan e)

  pub lent_stops : (y : Refusal) → x.outcome ≡ Err y → no_plan x.outcome ≡ planned_of bw a b
  lent_stops y e = stopped bw a b x.outcome y w.answers e
