-- Engine: the groups in which the code runs the checks, what its halves ask of their callers, and what they hand on. The contracts of the code
-- cite it; nobody has to believe it: `proofs/Stages.antt`, `proofs/Half.antt`.
use Rattle.std.specs.Prelude.{◌≡◌, Bool, true, List, ℕ, ◌*◌, ◌≤◌, length, replicate}
use Rattle.answer.specs.Answer.{◌or◌}
use Rattle.answer.specs.Every.{every}
use Rattle.answer.specs.Answer.{Outcome}
use Rattle.std.specs.Prelude.{Ok, Err}
use Rattle.resource.specs.Values.{carried}
use Rattle.plan.specs.declared.Plan.{Plan}
use Rattle.plan.specs.declared.Rest.{Rest}
use Rattle.answer.specs.Lists.{at}
use Rattle.plan.specs.Engine.{plan_outcome, plan_of, with_kinds}
use Rattle.channel.specs.Layout.{present, common, row, row_in16}
use Rattle.halves.specs.Table.{check1, check2, check3, check4, check5, check9, check10, check11, outcome6}
use Rattle.halves.specs.declared.Planned.{Planned}

-- 1 to 3
unfoldable pub outcome3 : ℕ → List ℕ → List ℕ → Outcome
outcome3 bw a b = check1 bw or check2 bw a b or check3 bw a b

-- 1 to 5
unfoldable pub outcome5 : ℕ → List ℕ → List ℕ → Outcome
outcome5 bw a b = outcome3 bw a b or check4 bw a b or check5 bw a b

-- 9 to 11
unfoldable pub outcome9to11 : ℕ → List ℕ → List ℕ → Outcome
outcome9to11 bw a b = check9 bw a b or check10 bw a b or check11 bw a b

-- ---- what passing says

-- neither channel is over 512 bytes
pub record AtMost512 (a b : List ℕ) : Type 0 where
  pub first : length a ≤ 512
  pub second : length b ≤ 512

-- channels of a bandwidth that there is, none over 512 bytes and each with its common field: what 1 to 3 ask
pub record Whole (bw : ℕ) (a b : List ℕ) : Type 0 where
  pub known : bw ≤ 4
  pub short : AtMost512 a b
  pub reach1 : common bw ≤ 8 * length a
  pub reach2 : present bw 2 ≡ true → common bw ≤ 8 * length b

-- channels whose every check and tail is right: all that 4 and 10 ask
pub record Sealed (bw : ℕ) (a b : List ℕ) : Type 0 where
  pub common_sealed : check4 bw a b ≡ Ok tt
  pub users_sealed : check10 bw a b ≡ Ok tt

-- every value of the row is one that 01 lists
unfoldable pub all_carried : List ℕ → Bool
all_carried row = every (λ p. carried (at row p)) (length row)

-- an outcome with no plan
unfoldable pub no_plan : Outcome → Planned
no_plan o = record { outcome = o; row = replicate 16 0; kinds = replicate 16 0; shared = 0; fields1 = 0; fields2 = 0 }

-- the plan of a row in room for sixteen
unfoldable pub with_plan : List ℕ → Plan → Planned
with_plan row p =
    record { outcome = p.outcome; row = row; kinds = p.kinds; shared = p.shared; fields1 = p.fields1; fields2 = p.fields2 }

-- a refusal has no plan
abbrev pub planned_at : Outcome → List ℕ → Plan → Planned
planned_at (Ok u) row p = with_plan row p
planned_at (Err x) row p = no_plan (Err x)

-- 1 to 8
unfoldable pub outcome1to8 : ℕ → List ℕ → List ℕ → Outcome
outcome1to8 bw a b = outcome6 bw a b or plan_outcome (row bw a b)

unfoldable pub planned_of : ℕ → List ℕ → List ℕ → Planned
planned_of bw a b = planned_at (outcome1to8 bw a b) (row_in16 bw a b) (plan_of (row bw a b))

-- the rest of it, and what lies in the room that is lent: 1 to 8, and of a frame that passes them its row and the row's plan
pub record Plans (bw : ℕ) (a b : List ℕ) (x : Rest) (r kinds : List ℕ) : Type 0 where
  pub answers : x.outcome ≡ outcome1to8 bw a b
  pub the_row : x.outcome ≡ Ok tt → r ≡ row_in16 bw a b
  pub the_plan : x.outcome ≡ Ok tt → with_kinds x kinds ≡ plan_of (row bw a b)
