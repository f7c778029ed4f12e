-- The rows of spatial streams, and the number that counts them (02, T-11).
--
-- "For 2 to 8 users the spatial configuration is a number counting, from 0, the rows of streams 1 to 4 that never rise and sum to at most 16,
-- ordered by last entry first, then the one before it."
use Rattle.std.specs.Prelude.{◌≡◌, List, [], ◌∷◌, ℕ, suc, ◌+◌, ◌≤◌, ◌<◌, length, get_or}
use Rattle.answer.specs.Lists.{at}

-- what the entries of a row come to
unfoldable pub sum : List ℕ → ℕ
sum [] = 0
sum (x ∷ xs) = x + sum xs

-- a row of as many entries as there are users
pub record Listed (users : ℕ) (row : List ℕ) : Type 0 where
  pub as_many : length row ≡ users
  -- "streams 1 to 4"
  pub from_1 : (i : ℕ) → i < users → 1 ≤ at row i
  pub to_4 : (i : ℕ) → i < users → at row i ≤ 4
  -- "that never rise"
  pub never_rise : (i : ℕ) → suc i < users → at row (suc i) ≤ at row i
  -- "and sum to at most 16"
  pub at_most_16 : sum row ≤ 16

-- "ordered by last entry first, then the one before it": at the last entry where the two differ, a's is the smaller
pub record Before (a b : List ℕ) : Type 0 where
  pub place : ℕ
  pub smaller : at a place < at b place
  pub same_past : (i : ℕ) → place < i → at a i ≡ at b i

-- row k of a list, from 0
abbrev pub row_in : List (List ℕ) → ℕ → List ℕ
row_in rows k = get_or rows k []

-- "a number counting, from 0, the rows": all of them, in that order, and so each once
pub record Counted (users : ℕ) (rows : List (List ℕ)) : Type 0 where
  pub listed : (k : ℕ) → k < length rows → Listed users (row_in rows k)
  pub all : (row : List ℕ) → Listed users row → (k : ℕ) × (k < length rows) × (row_in rows k ≡ row)
  pub ordered : (k k' : ℕ) → k < k' → k' < length rows → Before (row_in rows k) (row_in rows k')

-- "the spatial configuration is a number": number k is that of the row, in every list that counts the rows
pub record Configures (users k : ℕ) (row : List ℕ) : Type 0 where
  pub counted_so : (rows : List (List ℕ)) → Counted users rows → (k < length rows) × (row_in rows k ≡ row)
