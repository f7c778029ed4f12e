-- Fields of a number, lowest first, by their widths: one law for every layout.
use Rattle.std.specs.Prelude.{List, [], ◌∷◌, ℕ, ◌+◌, ◌*◌, ◌/◌, ◌%◌, ◌^◌, ◌<◌}

-- the number whose fields of these widths have these values
abbrev pub pack : List ℕ → List ℕ → ℕ
pack [] vs = 0
pack (w ∷ ws) [] = 0
pack (w ∷ ws) (v ∷ vs) = v + 2 ^ w * pack ws vs

-- the values of the fields of these widths
abbrev pub unpack : List ℕ → ℕ → List ℕ
unpack [] x = []
unpack (w ∷ ws) x = x % 2 ^ w ∷ unpack ws (x / 2 ^ w)

-- each value fits its width
abbrev pub Fit : List ℕ → List ℕ → Type 0
Fit [] [] = Unit {0}
Fit [] (v ∷ vs) = ⊥
Fit (w ∷ ws) [] = ⊥
Fit (w ∷ ws) (v ∷ vs) = (v < 2 ^ w) × Fit ws vs

abbrev pub width : List ℕ → ℕ
width [] = 0
width (w ∷ ws) = w + width ws
