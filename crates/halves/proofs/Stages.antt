-- The table's checks in the groups in which the code runs them, and what passing a group says.
use mathlib.Core.Path.{◌≡◌, refl, sym, ◌∙◌, ap}
use mathlib.Core.Bool.{false, ◌||◌}
use mathlib.Core.List.{List}
use Prim.Native.Nat.{ℕ, ◌≤◌}
use lib.Dec.{ltb}
use lib.ListN.{length, drop}
use borrow.Author.Tests.{ltb-false}
use Rattle.answer.specs.Answer.{◌or◌}
use Rattle.answer.specs.Answer.{Outcome}
use Rattle.std.specs.Prelude.{Ok}
use Rattle.answer.proofs.First.{first_chain}
use Rattle.answer.proofs.Order.{pass_left, pass_right, or_pass, pass_if, or_assoc}
use Rattle.answer.specs.declared.Refusal.TheVariants.{UnknownBandwidth}
use Rattle.plan.specs.Engine.{plan_outcome}
use Rattle.plan.specs.Worked.{outcome7, outcome8}
use Rattle.plan.proofs.Worked.{outcome_is}
use Rattle.channel.specs.Layout.{row, count}
use Rattle.channel.proofs.Laws.{present_1}
use Rattle.faults.specs.Checks.{too_long, cut_common, short_users}
use Rattle.faults.proofs.Passing.{neither, cut_common_pass, cut_users_tested}
use Rattle.halves.specs.Table.{checks11, check1, check2, check3, check4, check5, check6, check7, check8, check9, outcome11, outcome6}
use Rattle.halves.specs.Engine.{outcome3, outcome5, outcome9to11, AtMost512, Whole}

pub outcome11_stages : (bw : ℕ) (a b : List ℕ) → outcome11 bw a b ≡ outcome6 bw a b or plan_outcome (row bw a b) or outcome9to11 bw a b
unfolding outcome11 outcome6 outcome9to11 check7 check8
outcome11_stages bw a b =
    in_order ∙ ap (λ (o : Outcome). outcome6 bw a b or o or outcome9to11 bw a b) (sym (outcome_is (row bw a b)))
  where
    in_order : outcome11 bw a b ≡ outcome6 bw a b or (outcome7 (row bw a b) or outcome8 (row bw a b)) or outcome9to11 bw a b
    in_order = first_chain (check1 bw) (drop 1 (checks11 bw a b)) ∙ simp or_assoc

not_long : (bw c : ℕ) (s : List ℕ) → too_long bw c s ≡ Ok tt → length s ≤ 512
unfolding too_long
not_long bw c s e = ltb-false 512 (length s) (neither (ltb 512 (length s)) _ (pass_if _ _ e)).0

pub at_most_512 : (bw : ℕ) (a b : List ℕ) → check1 bw or check2 bw a b ≡ Ok tt → AtMost512 a b
unfolding check2
at_most_512 bw a b e =
    let f = pass_right (check1 bw) _ e in
    record {
      first = not_long bw 1 a (pass_left _ (too_long bw 2 b) f);
      second = not_long bw 2 b (pass_right (too_long bw 1 a) _ f);
    }

-- where neither channel is cut short, 9 passes
pub none_short_9 : (bw : ℕ) (a b : List ℕ) (n m : ℕ) → n ≡ count bw 1 a → m ≡ count bw 2 b → short_users bw n a || short_users bw m b ≡ false
    → check9 bw a b ≡ Ok tt
unfolding check9
none_short_9 bw a b n m e f h =
    let t = neither (short_users bw n a) (short_users bw m b) h in
    or_pass _ _ (cut_users_tested bw 1 a n false e t.0) (cut_users_tested bw 2 b m false f t.1)

pub record Common (bw : ℕ) (a b : List ℕ) : Type 0 where
  pub known : bw ≤ 4
  pub short : AtMost512 a b

-- 1 to 6 are 1 to 5 and 6
pub common_five : (bw : ℕ) (a b : List ℕ) → outcome6 bw a b ≡ outcome5 bw a b or check6 bw a b
unfolding outcome6 outcome5 outcome3
common_five bw a b = refl

-- so much is known where 1 to 3 pass
pub three_pass : (bw : ℕ) (a b : List ℕ) → outcome3 bw a b ≡ Ok tt → Whole bw a b
unfolding outcome3 check3
three_pass bw a b e =
    let f = pass_left (check1 bw or check2 bw a b) (check3 bw a b) e in
    let g = pass_right (check1 bw or check2 bw a b) (check3 bw a b) e in
    record {
      known = unfold check1 in ltb-false 4 bw (pass_if (ltb 4 bw) UnknownBandwidth (pass_left (check1 bw) (check2 bw a b) f));
      short = at_most_512 bw a b f;
      reach1 = cut_common_pass bw 1 a (pass_left (cut_common bw 1 a) (cut_common bw 2 b) g) (present_1 bw);
      reach2 = cut_common_pass bw 2 b (pass_right (cut_common bw 1 a) (cut_common bw 2 b) g);
    }

-- and where 1 to 5 do
pub five_pass : (bw : ℕ) (a b : List ℕ) → outcome5 bw a b ≡ Ok tt → Whole bw a b
unfolding outcome5
five_pass bw a b e = three_pass bw a b (pass_left (outcome3 bw a b) (check4 bw a b) (pass_left (outcome3 bw a b or check4 bw a b) (check5 bw a b) e))

pub common_pass : (bw : ℕ) (a b : List ℕ) → outcome6 bw a b ≡ Ok tt → Common bw a b
common_pass bw a b e =
    let w = five_pass bw a b (pass_left (outcome5 bw a b) (check6 bw a b) (sym (common_five bw a b) ∙ e)) in
    record { known = w.known; short = w.short }

-- a check that runs only where the earlier ones pass
pub pass_next : {p q r : Outcome} → p ≡ Ok tt → r ≡ q → r ≡ (p or q)
pass_next e f = rw e f

-- the stages that are left where the common checks pass
pub outcome11_rest : (bw : ℕ) (a b : List ℕ) → outcome6 bw a b ≡ Ok tt → outcome11 bw a b ≡ plan_outcome (row bw a b) or outcome9to11 bw a b
outcome11_rest bw a b e =
    outcome11_stages bw a b ∙ ap (λ (o : Outcome). o or plan_outcome (row bw a b) or outcome9to11 bw a b) e
