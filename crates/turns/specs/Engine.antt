-- Engine: how the code holds the owners of the fields, and what it hands on of each. The contracts of the code cite it; nobody has to believe it:
-- `proofs/Owned.antt`.
use Rattle.std.specs.Prelude.{cond, List, ℕ, ◌+◌, ◌-◌, ◌*◌, ◌≤◌, ◌<◌, eqb, ltb}
use Rattle.answer.specs.Lists.{at}
use Rattle.answer.specs.Tally.{tally}
use Rattle.turns.specs.Turns.{users_of, turn_of}

-- the owner of field x, where channel 1's m are held in one list and channel 2's in another
unfoldable pub among : List ℕ → List ℕ → ℕ → ℕ → ℕ
among first second m x = cond (ltb x m) (at first x) (at second (x - m))

-- with these owners: how many of the first n resource i has
abbrev pub having : (ℕ → ℕ) → ℕ → ℕ → ℕ
having owner i n = tally (λ y. eqb (owner y) i) n

-- every one of the first n has a number below 144
pub record Numbered (owner : ℕ → ℕ) (n : ℕ) : Type 0 where
  pub low : (x : ℕ) → x < n → owner x < 144

-- none of the first n numbers is over 144
pub record Few (n : ℕ) (l : List ℕ) : Type 0 where
  pub few : (i : ℕ) → i < n → at l i ≤ 144

-- which of its resource's fields x is, and of how many, as one number
unfoldable pub turn_code : List ℕ → ℕ → ℕ
turn_code row x = turn_of row x + 256 * users_of row x
