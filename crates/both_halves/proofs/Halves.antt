-- What the two halves of a reading tell together.
use mathlib.Core.Path.{◌≡◌, sym, ◌∙◌, ap}
use mathlib.Core.List.{List}
use Prim.Native.Nat.{ℕ, ◌≤◌}
use native.Mathlib.Omega.{arith}
use lib.ListN.{length, take}
use Rattle.answer.proofs.Order.{pass_left}
use Rattle.answer.specs.declared.Answer.{Answer}
use Rattle.answer.specs.Answer.{Outcome}
use Rattle.answer.specs.declared.Refusal.{Refusal}
use Rattle.std.specs.Prelude.{Ok, Err}
use Rattle.plan.specs.declared.Rest.{Rest}
use Rattle.plan.specs.Engine.{kinds_of, with_kinds}
use Rattle.channel.specs.Layout.{positions, row}
use Rattle.channel.proofs.Laws.{positions_le, row_length}
use Rattle.halves.specs.declared.Planned.{Planned}
use Rattle.halves.specs.Table.{outcome11}
use Rattle.halves.specs.Engine.{planned_of, with_plan, outcome1to8, outcome9to11, Plans}
use Rattle.halves.proofs.Stages.{outcome11_stages, common_pass}
use Rattle.halves.proofs.Half.{Made, outcome_made, planned_out, planned_pass, planned_refuse, planned_rest, planned_made, lent_plan}
use Rattle.halves.proofs.Rows.{front, sixteen}
use Rattle.both_halves.proofs.Accepted.{known_code}
use Rattle.both_halves.specs.Engine.{with_outcome, accepted_plan, Given, Handed}

module _ (bw : ℕ) (a b : List ℕ) (p : Planned) where
  -- refused by the first
  pub stopped : (x : Refusal) → p ≡ planned_of bw a b → p.outcome ≡ Err x → p ≡ accepted_plan bw a b
  unfolding accepted_plan
  stopped x e f =
      let g : p.outcome ≡ outcome11 bw a b = f ∙ sym (planned_refuse bw a b x (outcome_made e f)) in
      ap (with_outcome p.outcome) e ∙ ap (λ (o : Outcome). with_outcome o (planned_of bw a b)) g

  -- the second's outcome o, where the first passes
  pub both : (o : Outcome) → p ≡ planned_of bw a b → p.outcome ≡ Ok tt → o ≡ outcome9to11 bw a b → with_outcome o p ≡ accepted_plan bw a b
  unfolding accepted_plan
  both o e f h =
      let g : o ≡ outcome11 bw a b = h ∙ sym (planned_rest bw a b (outcome_made e f)) in
      ap (with_outcome o) e ∙ ap (λ (o : Outcome). with_outcome o (planned_of bw a b)) g

-- ---- the plan that both have told
module _ (bw : ℕ) (a b : List ℕ) {p : Planned} (e : p ≡ accepted_plan bw a b) where
  pub outcome : {o : Outcome} → p.outcome ≡ o → outcome11 bw a b ≡ o
  unfolding accepted_plan
  outcome f = sym (ap (λ (p : Planned). p.outcome) e) ∙ f

  -- of a frame that passes 1 to 11
  module _ (f : p.outcome ≡ Ok tt) where
    pub code : bw ≤ 4
    code = known_code bw a b (outcome f)

    made : Made bw a b (planned_of bw a b)
    made = planned_pass bw a b (planned_out bw a b ∙ pass_left _ (outcome9to11 bw a b) (sym (outcome11_stages bw a b) ∙ outcome f))

    pub row_16 : length p.row ≡ 16
    unfolding accepted_plan
    row_16 = ap (λ (p : Planned). length p.row) e ∙ ap length made.the_row ∙ sixteen bw a b code

    -- the front of its row, its kinds and its counts are what the lines are made of
    pub given : {n : ℕ} → n ≡ positions bw → Given bw a b (take n p.row) p.kinds p.fields1 p.fields2
    unfolding accepted_plan
    given {n} g =
        let r = front bw a b n p.row g (ap (λ (p : Planned). p.row) e ∙ made.the_row) in
        record {
          the_row = r;
          the_kinds = ap (λ (p : Planned). p.kinds) e ∙ made.the_kinds ∙ sym (ap kinds_of r);
          count1 = ap (λ (p : Planned). p.fields1) e ∙ made.count1;
          count2 = ap (λ (p : Planned). p.fields2) e ∙ made.count2;
        }

    pub given_front : {n : ℕ} → n ≡ positions bw → n ≡ length (take n p.row)
    given_front g = rw (given g).the_row (g ∙ sym (row_length bw a b))

-- a row that is given has at most sixteen positions
pub row_few : {bw : ℕ} {a b r c : List ℕ} {m k : ℕ} → bw ≤ 4 → Given bw a b r c m k → length r ≤ 16
row_few {bw} {a} {b} l g = rw g.the_row (omega (arith, row_length bw a b, positions_le bw l))

-- ---- what the first half has told in the room that is lent
module _ (bw : ℕ) (a b : List ℕ) {x : Rest} {r k : List ℕ} (w : Plans bw a b x r k) where
  out : {o : Outcome} → x.outcome ≡ o → (planned_of bw a b).outcome ≡ o
  out f = planned_out bw a b ∙ unfold outcome1to8 in (sym w.answers ∙ f)

  pub first_refuses : (y : Refusal) → x.outcome ≡ Err y → outcome11 bw a b ≡ Err y
  first_refuses y f = planned_refuse bw a b y (out f)

  module _ (f : x.outcome ≡ Ok tt) where
    lent : Made bw a b (with_plan r (with_kinds x k))
    unfolding with_plan with_kinds
    lent = planned_made bw a b _ (unfold with_plan with_kinds in lent_plan bw a b x r k w f) f

    pub lent_code : bw ≤ 4
    lent_code = (common_pass bw a b lent.common).known

    pub lent_16 : length r ≡ 16
    lent_16 = ap length (w.the_row f) ∙ sixteen bw a b lent_code

    -- the front of its row
    pub lent_row : {n : ℕ} → n ≡ positions bw → take n r ≡ row bw a b
    lent_row {n} g = front bw a b n r g (w.the_row f)

    pub lent_front : {n : ℕ} → n ≡ positions bw → n ≡ length (take n r)
    lent_front g = rw (lent_row g) (g ∙ sym (row_length bw a b))

    pub handed : {n : ℕ} → n ≡ positions bw → Handed bw a b (take n r) k x.fields1 x.fields2
    unfolding with_plan with_kinds
    handed g =
        let m = lent in
        record {
          known = lent_code;
          short = (common_pass bw a b m.common).short;
          given = record { the_row = lent_row g; the_kinds = m.the_kinds ∙ sym (ap kinds_of (lent_row g)); count1 = m.count1; count2 = m.count2 };
          most1 = m.most1;
          most2 = m.most2;
          rest = planned_rest bw a b (out f);
        }
