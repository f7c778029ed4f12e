-- What the program writes for the text of two captures (02, T-06: "Two frames in, the exact differences out").
use Rattle.std.specs.Prelude.{List, ℕ}
use Rattle.answer.specs.Answer.{no}
use Rattle.captures.specs.Worked.{SaidTwo, wrong_six, frames, said_two}
use Rattle.listed.specs.Listing.{refusal_of}
use Rattle.compared.specs.Text.{comparison_text}

-- "22 is first of all", in three lines; else the text of the comparison, in which a refused frame has its line
abbrev pub said_of_two : SaidTwo → List ℕ
said_of_two (wrong_six k) = refusal_of (no 22 0 k)
said_of_two (frames bw a b bw' a' b') = comparison_text bw a b bw' a' b'

unfoldable pub compared_text : List ℕ → List ℕ
compared_text s = said_of_two (said_two s)
