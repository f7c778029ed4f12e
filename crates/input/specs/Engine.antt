-- Engine: how the program reads its text, worked out from the left. The contracts of the code cite it; nobody has to believe it:
-- `proofs/Exact.antt` shows that it finds exactly the texts of `Form` and, in any other, the first wrong line.
use Rattle.std.specs.Prelude.{Option, Some, None, Result, Ok, Err, Bool, true, false, cond, List, [], ◌∷◌, ltb, eqb, length, drop, get_or}
use Rattle.std.specs.Prelude.{ℕ, suc, ◌+◌, ◌-◌, ◌*◌, ◌%◌, ◌<◌, ◌≤◌}
use Rattle.answer.specs.Lists.{build}
use Rattle.text.specs.Text.{codes}
use Rattle.input.specs.declared.Lines.{Lines}
use Rattle.input.specs.declared.WrongLine.{WrongLine}

-- what the reading comes to: the digit of the first line and how many pairs the others have, or the line that is wrong
abbrev pub Parsed : Type 0
Parsed = Result Lines WrongLine

abbrev pub wrong_at : ℕ → Parsed
wrong_at k = Err (record { line = k })

abbrev pub lines_of : ℕ → ℕ → ℕ → Parsed
lines_of d n m = Ok (record { bw = d; first = n; second = m })

-- the value of a hex digit, its letters capital; 16 for any other byte
abbrev pub hex_of : ℕ → ℕ
hex_of c = cond (ltb c 48) 16 (cond (ltb c 58) (c - 48) (cond (ltb c 65) 16 (cond (ltb c 71) (c - 55) 16)))

abbrev pub pick : {A : Type 0} → Bool → A → A → A
pick true a b = a
pick false a b = b

-- pairs of hex digits up to a line feed, after n pairs
abbrev pub hex_line : List ℕ → ℕ → Option ℕ
hex_line [] n = None
hex_line (a ∷ []) n = pick (eqb a 10) (Some n) None
hex_line (a ∷ b ∷ l) n = pick (eqb a 10) (Some n) (pick (ltb (hex_of a) 16) (pick (ltb (hex_of b) 16) (hex_line l (suc n)) None) None)

-- whether a text starts with a key
abbrev pub starts : List ℕ → List ℕ → Bool
starts [] l = true
starts (k ∷ ks) [] = false
starts (k ∷ ks) (x ∷ l) = cond (eqb x k) (starts ks l) false

-- a line of hex pairs with its key
abbrev pub keyed : List ℕ → List ℕ → Option ℕ
keyed k l = pick (starts k l) (hex_line (drop (length k) l) 0) None

-- `bw=`, a digit, a line feed
abbrev pub line_bw : List ℕ → Bool
line_bw s = cond (starts (codes "bw=") s) (cond (ltb (get_or s 3 0) 48) false (cond (ltb (get_or s 3 0) 58) (eqb (get_or s 4 0) 10) false)) false

abbrev pub after_two : List ℕ → ℕ → Option ℕ → Parsed
after_two s n None = wrong_at 3
after_two s n (Some m) = lines_of (get_or s 3 0 - 48) n m

abbrev pub after_one : List ℕ → Option ℕ → Parsed
after_one s None = wrong_at 2
after_one s (Some n) = after_two s n (keyed (codes "cc2=") (drop (10 + 2 * n) s))

-- the three lines at the front of a text, whatever comes after
unfoldable pub first_three : List ℕ → Parsed
first_three s = pick (line_bw s) (after_one s (keyed (codes "cc1=") (drop 5 s))) (wrong_at 1)

-- where they end, after n and m pairs
abbrev pub past_three : ℕ → ℕ → ℕ
past_three n m = 15 + 2 * n + 2 * m

-- the same with nothing after, of a text of so many bytes
abbrev pub nothing_after : ℕ → Parsed → Parsed
nothing_after len (Err w) = Err w
nothing_after len (Ok l) = pick (eqb len (past_three l.first l.second)) (Ok l) (wrong_at 4)

unfoldable pub three_lines : List ℕ → Parsed
three_lines s = nothing_after (length s) (first_three s)

-- the line that is wrong, 0 where the text is too long; or the digit of the first line and how many pairs the others have
unfoldable pub parsed : List ℕ → Parsed
parsed s = pick (ltb 8192 (length s)) (wrong_at 0) (three_lines s)

-- the pairs and the line feed lie within the text
abbrev pub Room : Option ℕ → ℕ → ℕ → Type 0
Room None at len = 0 ≤ len
Room (Some n) at len = at + 2 * n < len

-- the byte of two hex digits
abbrev pub pair_of : ℕ → ℕ → ℕ
pair_of x y = (16 * hex_of x + hex_of y) % 256

-- the i-th of the pairs that start at a place of the text
unfoldable pub byte_of : List ℕ → ℕ → ℕ → ℕ
byte_of s at i = pair_of (get_or s (at + 2 * i) 0) (get_or s (at + 2 * i + 1) 0)

-- the bytes of the second and third lines
abbrev pub bytes_at : List ℕ → ℕ → ℕ → List ℕ
bytes_at s at n = build (byte_of s at) n

-- where the third line's pairs start, after n pairs in the second
abbrev pub second_at : ℕ → ℕ
second_at n = 14 + 2 * n
