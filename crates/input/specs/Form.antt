-- The program's text, as 01's "Listing" says it: "The program reads the lines bw= (one decimal digit), cc1=, cc2= (pairs
-- of hex digits, capital letters, perhaps none), each ended by a line feed and nothing after".
use Rattle.std.specs.Prelude.{◌≡◌, List, [], ◌∷◌, ◌++◌, ℕ, zero, suc, ◌+◌, ◌/◌, ◌%◌, ◌<◌, get_or}
use Rattle.text.specs.Text.{codes}

-- every number is a byte's
abbrev pub Bytes : List ℕ → Type 0
Bytes [] = Unit {0}
Bytes (x ∷ l) = (x < 256) × Bytes l

-- "hex digits, capital letters"
unfoldable pub hex_digit : ℕ → ℕ
hex_digit v = get_or (codes "0123456789ABCDEF") v 0

-- "pairs of hex digits": the high one first
abbrev pub pairs : List ℕ → List ℕ
pairs [] = []
pairs (x ∷ l) = hex_digit (x / 16) ∷ hex_digit (x % 16) ∷ pairs l

abbrev pub line1 : ℕ → List ℕ
line1 d = codes "bw=" ++ ((48 + d) ∷ codes "\n")

abbrev pub line2 : List ℕ → List ℕ
line2 a = codes "cc1=" ++ (pairs a ++ codes "\n")

abbrev pub line3 : List ℕ → List ℕ
line3 b = codes "cc2=" ++ (pairs b ++ codes "\n")

-- the text of a digit and two channels' bytes
abbrev pub text_of : ℕ → List ℕ → List ℕ → List ℕ
text_of d a b = line1 d ++ (line2 a ++ line3 b)

-- the first k of the three lines, and then the rest
abbrev pub first_lines : ℕ → ℕ → List ℕ → List ℕ → List ℕ → List ℕ
first_lines zero d a b rest = rest
first_lines (suc zero) d a b rest = line1 d ++ rest
first_lines (suc (suc zero)) d a b rest = line1 d ++ (line2 a ++ rest)
first_lines (suc (suc (suc k))) d a b rest = line1 d ++ (line2 a ++ (line3 b ++ rest))

-- the first k lines of s are right
pub record Begins (k : ℕ) (s : List ℕ) : Type 0 where
  pub digit : ℕ
  pub first : List ℕ
  pub second : List ℕ
  pub rest : List ℕ
  pub is_digit : digit < 10
  pub are_bytes : Bytes first × Bytes second
  pub is : s ≡ first_lines k digit first second rest

-- s is such a text, with "nothing after"
pub record Whole (s : List ℕ) : Type 0 where
  pub digit : ℕ
  pub first : List ℕ
  pub second : List ℕ
  pub is_digit : digit < 10
  pub are_bytes : Bytes first × Bytes second
  pub is : s ≡ text_of digit first second

-- "first wrong line, from 1 (text after the third is line 4)": the lines before are right, and it is not
abbrev pub IsWrongLine : ℕ → List ℕ → Type 0
IsWrongLine zero s = ⊥
IsWrongLine (suc zero) s = Begins 0 s × (Begins 1 s → ⊥)
IsWrongLine (suc (suc zero)) s = Begins 1 s × (Begins 2 s → ⊥)
IsWrongLine (suc (suc (suc zero))) s = Begins 2 s × (Begins 3 s → ⊥)
IsWrongLine (suc (suc (suc (suc zero)))) s = Begins 3 s × (Whole s → ⊥)
IsWrongLine (suc (suc (suc (suc (suc k))))) s = ⊥
