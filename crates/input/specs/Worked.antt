-- What a text says, as a function. An engine works it out, and nobody has to believe it: beside it stands that it is what `Form.antt` says of the
-- text (`Worked`), and `proofs/Worked.antt` shows it of every text (`worked`).
use Rattle.std.specs.Prelude.{◌≡◌, ◌⊎◌, Ok, Err, List, ℕ, ◌≤◌, ◌<◌, length}
use Rattle.input.specs.Form.{Bytes, text_of, IsWrongLine}
use Rattle.input.specs.Engine.{Parsed, parsed, bytes_at, second_at}

-- the place of 22; or the bandwidth code and both channels' bytes
pub data Said : Type 0 where
  wrong : ℕ → Said
  frame : ℕ → List ℕ → List ℕ → Said

-- by what `parse` found: the number of a wrong line is the place, and as many pairs as were found are the bytes
abbrev pub said_by : List ℕ → Parsed → Said
said_by s (Err w) = wrong w.line
said_by s (Ok l) = frame l.bw (bytes_at s 9 l.first) (bytes_at s (second_at l.first) l.second)

unfoldable pub said : List ℕ → Said
said s = said_by s (parsed s)

-- s is the text of this digit and these channels, and not "over 8,192 bytes"
pub record TextOf (s : List ℕ) (d : ℕ) (a b : List ℕ) : Type 0 where
  pub is_digit : d < 10
  pub are_bytes : Bytes a × Bytes b
  pub is : s ≡ text_of d a b
  pub most : length s ≤ 8192

-- 22: "program text over 8,192 bytes, else not the three lines named under Listing | 0, 0; else first wrong line"
abbrev pub PlaceOf22 : ℕ → List ℕ → Type 0
PlaceOf22 k s = ((8192 < length s) × (k ≡ 0)) ⊎ ((length s ≤ 8192) × IsWrongLine k s)

pub record Worked (s : List ℕ) : Type 0 where
  -- a text says a frame exactly where it is the frame's text
  pub says : (d : ℕ) (a b : List ℕ) → TextOf s d a b → said s ≡ frame d a b
  pub is_said : (d : ℕ) (a b : List ℕ) → said s ≡ frame d a b → TextOf s d a b
  -- and a place exactly where it is 22's
  pub is_wrong : (k : ℕ) → said s ≡ wrong k → PlaceOf22 k s
  pub wrong_said : (k : ℕ) → PlaceOf22 k s → said s ≡ wrong k
