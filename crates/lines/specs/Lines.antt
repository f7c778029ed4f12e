-- The lines of a listing beside those of its resources (01, "Listing"), as bytes.
use Rattle.std.specs.Prelude.{Bool, not, cond, List, ◌++◌, ℕ, eqb}
use Rattle.text.specs.Text.{codes, dec, line}

-- 02, T-01: "STA-ID 2046 marks a resource that nobody has."
abbrev pub assigned : ℕ → Bool
assigned id = not (eqb id 2046)

-- "its line has none for the number, resource= staying"
unfoldable pub id_text : ℕ → List ℕ
id_text id = cond (assigned id) (dec id) (codes "none")

-- "sta=11 resource=1", "sta=none resource=2"
unfoldable pub sta_line : ℕ → ℕ → List ℕ
sta_line id r = codes "sta=" ++ id_text id ++ line (codes " resource=") r

-- "A refusal is answer=, channel=, place=, three lines"
unfoldable pub refusal_text : ℕ → ℕ → ℕ → List ℕ
refusal_text number channel place =
    line (codes "answer=") number ++ line (codes "channel=") channel ++ line (codes "place=") place

-- the lines of a listing before its resources
unfoldable pub head_text : ℕ → ℕ → ℕ → ℕ → ℕ → List ℕ
head_text bw resources fields1 fields2 stations =
    line (codes "answer=") 0
    ++ line (codes "bw=") bw
    ++ line (codes "resources=") resources
    ++ line (codes "fields1=") fields1
    ++ line (codes "fields2=") fields2
    ++ line (codes "stations=") stations
