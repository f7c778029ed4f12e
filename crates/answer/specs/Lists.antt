-- A list by its elements, and a lent buffer whose front is written.
--
-- 01, "What comes back": "Words past the count keep what they held"; "Bytes past the count keep what they held".
use Rattle.std.specs.Prelude.{◌≡◌, List, [], ◌∷◌, ◌++◌, ℕ, zero, suc, ◌<◌, get_or, drop}

-- element i of a list of numbers, from 0; 0 past its end
abbrev pub at : List ℕ → ℕ → ℕ
at l i = get_or l i 0

-- f 0, f 1, .., f (n - 1)
unfoldable pub build : {A : Type 0} → (ℕ → A) → ℕ → List A
build f zero = []
build f (suc n) = build f n ++ (f n ∷ [])

-- The first n of the buffer w are f's, and the rest is w's.
unfoldable pub filled : {A : Type 0} → (ℕ → A) → ℕ → List A → List A
filled f n w = build f n ++ drop n w

-- the first n of a list of numbers are f's
pub record Front (f : ℕ → ℕ) (n : ℕ) (l : List ℕ) : Type 0 where
  pub front : (i : ℕ) → i < n → at l i ≡ f i
