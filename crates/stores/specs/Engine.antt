-- Engine: short texts as numbers, so that they are stored whole. The contracts of the code cite it; nobody has to believe it: what is
-- written is text again by `proofs/Laws.antt`.
use Rattle.std.specs.Prelude.{cond, ◌≡◌, List, [], ◌∷◌, ◌++◌, ℕ, zero, suc, ◌+◌, ◌-◌, ◌*◌, ◌/◌, ◌%◌, ◌^◌, ◌≤◌, ltb, length}
use Rattle.std.specs.Int.Bits.{bit_and}
use Rattle.std.specs.Int.Count.{count_trailing_zeros}
use Rattle.text.specs.Text.{Wrote, codes}

-- the k lowest bytes of w, the lowest first
abbrev pub bytes_of : ℕ → ℕ → List ℕ
bytes_of zero w = []
bytes_of (suc k) w = (w % 256) ∷ bytes_of k (w / 256)

-- the four digits of a number below 10,000, zeros in front, the first lowest: hundreds and the rest side by side, the tens of both
unfoldable pub hundreds_of : ℕ → ℕ
hundreds_of n = n * 5243 / 2 ^ 19

unfoldable pub pair_of : ℕ → ℕ
pair_of n = hundreds_of n + 65536 * (n - 100 * hundreds_of n)

unfoldable pub tens_of : ℕ → ℕ
tens_of n = bit_and (pair_of n * 103 / 2 ^ 10) 983055

unfoldable pub values_of : ℕ → ℕ
values_of n = 256 * pair_of n - 2559 * tens_of n

-- as text
unfoldable pub four_of : ℕ → ℕ
four_of n = values_of n + 808464432

-- how many of the four are zeros in front, by their values and by the number
unfoldable pub zeros_in : ℕ → ℕ
zeros_in v = count_trailing_zeros 32 (v + 16777216) / 8

unfoldable pub lead_of : ℕ → ℕ
lead_of n = cond (ltb n 10) 1 0 + cond (ltb n 100) 1 0 + cond (ltb n 1000) 1 0

-- the number's own digits
unfoldable pub digits_of : ℕ → ℕ
digits_of n = four_of n / 2 ^ (8 * lead_of n)

-- with a byte after them
unfoldable pub ended_of : ℕ → ℕ → ℕ
ended_of n c = (four_of n + c * 4294967296) / 2 ^ (8 * lead_of n)

-- a number below 100 with a space after it
unfoldable pub spaced_of : ℕ → ℕ
spaced_of n = (2109488 + n / 10 + 256 * (n % 10)) / 2 ^ (8 * cond (ltb n 10) 1 0)

-- below 40, with how many bytes these are in the fourth
unfoldable pub spaced_word : ℕ → ℕ
spaced_word n = spaced_of n + 16777216 * (3 - cond (ltb n 10) 1 0)

-- ---- integers
unfoldable pub apart : ℕ → ℕ → ℕ
apart u z = cond (ltb u z) (z - u) (u - z)

unfoldable pub minus_if : ℕ → ℕ → List ℕ
minus_if u z = cond (ltb u z) (codes "-") []

-- e is the buffer d with the text t from place at, once m bytes or more are written after it, from r on: stores that are wider than what they
-- are for
pub record Over (m : ℕ) (d : List ℕ) (at : ℕ) (t : List ℕ) (e : List ℕ) (r : ℕ) : Type 0 where
  pub over : (u f : List ℕ) (o : ℕ) → m ≤ length u → Wrote e r u f o → Wrote d at (t ++ u) f o
  pub next : r ≡ at + length t

-- e is the buffer d with the text t from place at up to r, once m bytes or more are written before it, up to at
pub record Under (m : ℕ) (d : List ℕ) (at : ℕ) (t : List ℕ) (e : List ℕ) (r : ℕ) : Type 0 where
  pub under : (s f : List ℕ) (from : ℕ) → m ≤ length s → Wrote e from s f at → Wrote d from (s ++ t) f r
  pub size : length e ≡ length d
