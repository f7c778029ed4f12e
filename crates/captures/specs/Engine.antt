-- Engine: how the text of two captures is read, the second from where the first ends. The contracts of the code cite it; nobody has to believe
-- it: `proofs/Exact.antt` shows that it finds exactly the texts of `Form` and, in any other, the first wrong line.
use Rattle.std.specs.Prelude.{Result, Ok, Err, List, ℕ, ◌+◌, ltb, length, drop}
use Rattle.input.specs.declared.WrongLine.{WrongLine}
use Rattle.input.specs.Engine.{Parsed, pick, first_three, past_three, three_lines, bytes_at, second_at}
use Rattle.captures.specs.declared.Capture.{Capture}

-- what the reading comes to: both captures, or the line that is wrong
abbrev pub Captures : Type 0
Captures = Result (Capture × Capture) WrongLine

abbrev pub wrong_of_six : ℕ → Captures
wrong_of_six k = Err (record { line = k })

abbrev pub both : Capture → Capture → Captures
both c c' = Ok (c, c')

abbrev pub capture_at : ℕ → ℕ → ℕ → ℕ → Capture
capture_at p d n m = record { at = p; bw = d; first = n; second = m }

-- where the text goes on after a capture at its front
abbrev pub past_of : Capture → ℕ
past_of c = past_three c.first c.second

abbrev pub then_second : Capture → Parsed → Captures
then_second c (Err w) = wrong_of_six (3 + w.line)
then_second c (Ok l) = both c (capture_at (past_of c) l.bw l.first l.second)

abbrev pub from_first : List ℕ → Parsed → Captures
from_first s (Err w) = Err w
from_first s (Ok l) = then_second (capture_at 0 l.bw l.first l.second) (three_lines (drop (past_three l.first l.second) s))

unfoldable pub six_lines : List ℕ → Captures
six_lines s = from_first s (first_three s)

-- the line that is wrong, 0 where the text is too long; or both captures
unfoldable pub two_parsed : List ℕ → Captures
two_parsed s = pick (ltb 16384 (length s)) (wrong_of_six 0) (six_lines s)

-- the bytes of a capture's second and third lines
abbrev pub first_bytes : List ℕ → Capture → List ℕ
first_bytes s c = bytes_at s (c.at + 9) c.first

abbrev pub second_bytes : List ℕ → Capture → List ℕ
second_bytes s c = bytes_at s (c.at + second_at c.first) c.second
