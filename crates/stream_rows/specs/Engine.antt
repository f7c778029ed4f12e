-- Engine: the list of the rows for a number of users, and how the code counts in it. A row that never rises is known by how many of its entries
-- are at least 2, at least 3 and at least 4: a, b and c. Its sum is that of these and the users, and of two rows the one that has the lower a
-- comes first, then the lower b, then the lower c. The contracts of the code cite it; nobody has to believe it: `Worked.antt` says what it
-- comes to, and `proofs/Worked.antt` shows it.
use Rattle.std.specs.Prelude.{◌≡◌, Bool, cond, ◌&&◌, List, [], ◌++◌, ℕ, zero, suc, ◌+◌, ◌-◌, ◌≤◌, min, ltb, leb, length}
use Rattle.answer.specs.Every.{every}
use Rattle.answer.specs.Tally.{tally}
use Rattle.answer.specs.Lists.{at, build}

-- f 0, then f 1, .., then f (n - 1)
unfoldable pub gather : {A : Type 0} → (ℕ → List A) → ℕ → List A
gather f zero = []
gather f (suc n) = gather f n ++ f n

-- 1 for each of the first m entries
unfoldable pub over : ℕ → ℕ → ℕ
over m i = cond (ltb i m) 1 0

-- entry i of the row with a, b and c, and the row
unfoldable pub entry_of : ℕ → ℕ → ℕ → ℕ → ℕ
entry_of a b c i = 1 + over a i + over b i + over c i

unfoldable pub row_of : ℕ → ℕ → ℕ → ℕ → List ℕ
row_of users a b c = build (entry_of a b c) users

-- ---- how many a there are for the users, b for an a, c for a b: from 0 to what bounds them, and the sum at most 16
abbrev pub twos : ℕ → ℕ
twos users = min (users + 1) (17 - users)

abbrev pub threes : ℕ → ℕ → ℕ
threes users a = min (a + 1) (17 - (users + a))

abbrev pub fours : ℕ → ℕ → ℕ → ℕ
fours users a b = min (b + 1) (17 - (users + a + b))

-- the rows with this a and b, those with this a, and all
unfoldable pub with_three : ℕ → ℕ → ℕ → List (List ℕ)
with_three users a b = build (row_of users a b) (fours users a b)

unfoldable pub with_two : ℕ → ℕ → List (List ℕ)
with_two users a = gather (with_three users a) (threes users a)

unfoldable pub all_rows : ℕ → List (List ℕ)
all_rows users = gather (with_two users) (twos users)

-- how many come before the first with this a; of those with this a, before the first with this b
unfoldable pub before_two : ℕ → ℕ → ℕ
before_two users a = length (gather (with_two users) a)

unfoldable pub before_three : ℕ → ℕ → ℕ → ℕ
before_three users a b = length (gather (with_three users a) b)

-- the number of a row by its a, b and c
pub record Numbered (users number a b c : ℕ) : Type 0 where
  pub two : a ≤ users
  pub three : b ≤ a
  pub four : c ≤ b
  pub at_most_16 : users + a + b + c ≤ 16
  pub exactly : number ≡ before_two users a + (before_three users a b + c)

-- ---- a row as it is lent
-- the entry before, and 4 before the first
abbrev pub previous : (ℕ → ℕ) → ℕ → ℕ
previous row zero = 4
previous row (suc i) = row i

-- entry i is one of streams, and no more than the one before it
unfoldable pub fits : List ℕ → ℕ → Bool
fits row i = leb 1 (at row i) && leb (at row i) (previous (at row) i)

-- of the first n entries: whether each fits, and how many are at least 2, 3 and 4
pub record Counting (row : List ℕ) (n : ℕ) (fit : Bool) (a b c : ℕ) : Type 0 where
  pub fit_is : fit ≡ every (fits row) n
  pub two_is : a ≡ tally (λ i. leb 2 (at row i)) n
  pub three_is : b ≡ tally (λ i. leb 3 (at row i)) n
  pub four_is : c ≡ tally (λ i. leb 4 (at row i)) n
