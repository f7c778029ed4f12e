-- Engine: what both halves of a reading hand on, and what the functions above are given of it. The contracts of the code cite it; nobody has to
-- believe it: `proofs/Halves.antt`.
use Rattle.std.specs.Prelude.{◌≡◌, List, ℕ, ◌≤◌}
use Rattle.answer.specs.Answer.{Outcome}
use Rattle.plan.specs.Engine.{kinds_of}
use Rattle.channel.specs.Layout.{row, count}
use Rattle.halves.specs.declared.Planned.{Planned}
use Rattle.halves.specs.Table.{outcome11}
use Rattle.halves.specs.Engine.{planned_of, AtMost512, outcome9to11}

-- what the first half tells, with another outcome
abbrev pub with_outcome : Outcome → Planned → Planned
with_outcome o p =
    record { outcome = o; row = p.row; kinds = p.kinds; shared = p.shared; fields1 = p.fields1; fields2 = p.fields2 }

-- the outcome of both halves, 1 to 11, and the first one's plan
unfoldable pub accepted_plan : ℕ → List ℕ → List ℕ → Planned
accepted_plan bw a b = with_outcome (outcome11 bw a b) (planned_of bw a b)

-- r is the frame's row, c the kinds of its plan, and m and k are the User fields of its channels
pub record Given (bw : ℕ) (a b r c : List ℕ) (m k : ℕ) : Type 0 where
  pub the_row : r ≡ row bw a b
  pub the_kinds : c ≡ kinds_of r
  pub count1 : m ≡ count bw 1 a
  pub count2 : k ≡ count bw 2 b

-- the same of a frame that passes 1 to 8: what is left of 1 to 11 is the second half's
pub record Handed (bw : ℕ) (a b r c : List ℕ) (m k : ℕ) : Type 0 where
  pub known : bw ≤ 4
  pub short : AtMost512 a b
  pub given : Given bw a b r c m k
  pub most1 : m ≤ 72
  pub most2 : k ≤ 72
  pub rest : outcome11 bw a b ≡ outcome9to11 bw a b
