-- A list of checks, and the first that refuses.
use Rattle.std.specs.Prelude.{◌≡◌, List, [], ◌∷◌, ℕ, ◌<◌, get_or, Ok, Err}
use Rattle.answer.specs.Answer.{Outcome, ◌or◌, no, answer_of}
use Rattle.answer.specs.declared.Answer.{Answer}
use Rattle.answer.specs.declared.Refusal.{Refusal}

-- The same of a list of checks.
unfoldable pub first_of : List Outcome → Outcome
first_of [] = Ok tt
first_of (o ∷ os) = o or first_of os

-- 01, the table's heading: "given exactly when (nothing earlier applies)". Check k of the list refuses with x, and no
-- check before it does.
pub record Applies (os : List Outcome) (k : ℕ) (x : Refusal) : Type 0 where
  pub refuses : get_or os k (Ok tt) ≡ Err x
  pub nothing_earlier : (j : ℕ) → j < k → get_or os j (Ok tt) ≡ Ok tt

-- The same, told by its answer: number, channel and place are those of the check's refusal.
pub record Answers (os : List Outcome) (k : ℕ) (r : Answer) : Type 0 where
  pub refusal : Refusal
  pub answers : r ≡ answer_of refusal
  pub applies : Applies os k refusal

-- "given exactly when (nothing earlier applies)": number 0 with its count where no row applies; else the number, channel
-- and place of one row, which applies, and none before it does
pub record Judged (numbers : List ℕ) (rows : List Outcome) (count : ℕ) (r : Answer) : Type 0 where
  pub accepted : r.number ≡ 0 → (r ≡ no 0 0 count) × ((k : ℕ) → get_or rows k (Ok tt) ≡ Ok tt)
  pub refused : (r.number ≡ 0 → ⊥) → (k : ℕ) × (r.number ≡ get_or numbers k 0) × Answers rows k r
