-- Engine: a STA-ID's text in one number, a number with the end of its line, and the lines of the counts. The contracts of the code cite it; nobody has
-- to believe it: `proofs/LineLaws.antt`.
use Rattle.std.specs.Prelude.{◌≡◌, cond, List, ◌++◌, ℕ, ◌+◌, ◌/◌, ◌≤◌, take}
use Rattle.text.specs.Text.{codes, dec}
use Rattle.stores.specs.Engine.{bytes_of, digits_of}
use Rattle.lines.specs.Lines.{assigned}

-- its digits, or none
unfoldable pub id_word : ℕ → ℕ
id_word id = cond (assigned id) (digits_of id) 1701736302

-- w has n and the end of its line in its lowest bytes, and from bit 32 on how many these are
pub record Ended (n w : ℕ) : Type 0 where
  pub text : bytes_of (w / 4294967296) w ≡ dec n ++ codes "\n"
  pub least : 2 ≤ w / 4294967296
  pub most : w / 4294967296 ≤ 4

-- w has the last seven bytes of n after its key, and from bit 56 on how many digits n has
pub record Tailed (n w : ℕ) : Type 0 where
  pub text : take (3 + w / 72057594037927936) (codes " resourc") ++ bytes_of 7 w ≡ codes " resource=" ++ dec n
  pub least : 1 ≤ w / 72057594037927936
  pub most : w / 72057594037927936 ≤ 3

-- the lines of the counts, but the resources'
unfoldable pub counts_text : ℕ → ℕ → ℕ → List ℕ
counts_text fields1 fields2 stations =
    codes "fields1=" ++ ((dec fields1 ++ codes "\n") ++ (codes "fields2=" ++ ((dec fields2 ++ codes "\n")
    ++ (codes "stations" ++ (codes "=" ++ (dec stations ++ codes "\n"))))))
