-- What a text of two captures says, as a function. An engine works it out, and nobody has to believe it: beside it stands that it is what
-- `Form.antt` says of the text (`Worked`), and `proofs/Worked.antt` shows it of every text (`worked`).
use Rattle.std.specs.Prelude.{◌≡◌, ◌⊎◌, Ok, Err, List, ℕ, ◌≤◌, ◌<◌, length}
use Rattle.input.specs.Form.{Bytes}
use Rattle.captures.specs.Form.{text_of_two, WrongOfSix}
use Rattle.captures.specs.Engine.{Captures, two_parsed, first_bytes, second_bytes}

-- the place of 22; or of both frames the bandwidth code and the channels' bytes
pub data SaidTwo : Type 0 where
  wrong_six : ℕ → SaidTwo
  frames : ℕ → List ℕ → List ℕ → ℕ → List ℕ → List ℕ → SaidTwo

abbrev pub said_by_both : List ℕ → Captures → SaidTwo
said_by_both s (Err w) = wrong_six w.line
said_by_both s (Ok (c, c')) = frames c.bw (first_bytes s c) (second_bytes s c) c'.bw (first_bytes s c') (second_bytes s c')

unfoldable pub said_two : List ℕ → SaidTwo
said_two s = said_by_both s (two_parsed s)

-- s is the text of these two frames, and not over 16,384 bytes; neither capture has a limit of its own
pub record TextOfTwo (s : List ℕ) (d : ℕ) (a b : List ℕ) (d' : ℕ) (a' b' : List ℕ) : Type 0 where
  pub are_digits : (d < 10) × (d' < 10)
  pub first_bytes_fact : Bytes a × Bytes b
  pub second_bytes_fact : Bytes a' × Bytes b'
  pub is : s ≡ text_of_two d a b d' a' b'
  pub most : length s ≤ 16384

pub record Worked (s : List ℕ) : Type 0 where
  -- a text says two frames exactly where it is their text
  pub says : (d : ℕ) (a b : List ℕ) (d' : ℕ) (a' b' : List ℕ) → TextOfTwo s d a b d' a' b' → said_two s ≡ frames d a b d' a' b'
  pub is_said : (d : ℕ) (a b : List ℕ) (d' : ℕ) (a' b' : List ℕ) → said_two s ≡ frames d a b d' a' b' → TextOfTwo s d a b d' a' b'
  -- 22 as for one frame: over 16,384 bytes in all, else the first wrong line
  pub is_wrong : (k : ℕ) → said_two s ≡ wrong_six k → ((16384 < length s) × (k ≡ 0)) ⊎ ((length s ≤ 16384) × WrongOfSix k s)
