-- The text of two captures (02, T-06: "Two frames in"): six lines, the three of 01's "Listing" for the first frame, then the three for the second.
use Rattle.std.specs.Prelude.{◌≡◌, List, ◌++◌, ℕ, zero, suc}
use Rattle.input.specs.Form.{Whole, IsWrongLine, text_of}

abbrev pub text_of_two : ℕ → List ℕ → List ℕ → ℕ → List ℕ → List ℕ → List ℕ
text_of_two d a b d' a' b' = text_of d a b ++ text_of d' a' b'

-- a capture is whole, and of what comes after it line k is the first that is wrong
pub record WrongAfter (k : ℕ) (s : List ℕ) : Type 0 where
  pub capture : List ℕ
  pub rest : List ℕ
  pub is_whole : Whole capture
  pub is : s ≡ capture ++ rest
  pub is_wrong : IsWrongLine k rest

-- the first wrong line, from 1: 1 to 3 of the first capture, 4 to 6 of the second; text after the sixth is line 7
abbrev pub WrongOfSix : ℕ → List ℕ → Type 0
WrongOfSix zero s = ⊥
WrongOfSix (suc zero) s = IsWrongLine 1 s
WrongOfSix (suc (suc zero)) s = IsWrongLine 2 s
WrongOfSix (suc (suc (suc zero))) s = IsWrongLine 3 s
WrongOfSix (suc (suc (suc (suc k)))) s = WrongAfter (suc k) s
