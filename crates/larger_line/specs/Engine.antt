-- Engine: the name and the index of a larger resource by its kind, and its runs as they are written. The contracts of the code cite it; nobody
-- has to believe it: `proofs/Larger.antt`.
use Rattle.std.specs.Prelude.{cond, List, [], ◌∷◌, ◌++◌, ℕ, ◌+◌, ◌/◌, eqb, get_or}
use Rattle.text.specs.Text.{codes, signed}
use Rattle.resource.specs.declared.Run.{Run}
use Rattle.resource.specs.Engine.{span_of}

unfoldable pub class_kind : ℕ → ℕ
class_kind c =
    get_or
    (0 ∷ 5 ∷ 6 ∷ 9 ∷ 9 ∷ 9 ∷ 9 ∷ 7 ∷ 10 ∷ 10 ∷ 10 ∷ 10
    ∷ 8 ∷ 8 ∷ 8 ∷ 8 ∷ 12 ∷ 12 ∷ 12 ∷ 12 ∷ 12 ∷ 12 ∷ 12 ∷ 12
    ∷ 11 ∷ 11 ∷ 11 ∷ 11 ∷ 11 ∷ 11 ∷ 11 ∷ 11 ∷ 11 ∷ 11 ∷ 11 ∷ 11 ∷ [])
    c 0

-- but a 484's
unfoldable pub index_kind : ℕ → ℕ
index_kind c =
    get_or
    (0 ∷ 0 ∷ 1 ∷ 1 ∷ 2 ∷ 3 ∷ 4 ∷ 1 ∷ 1 ∷ 2 ∷ 3 ∷ 4
    ∷ 1 ∷ 2 ∷ 3 ∷ 4 ∷ 1 ∷ 2 ∷ 3 ∷ 4 ∷ 5 ∷ 6 ∷ 7 ∷ 8
    ∷ 1 ∷ 2 ∷ 3 ∷ 4 ∷ 5 ∷ 6 ∷ 7 ∷ 8 ∷ 9 ∷ 10 ∷ 11 ∷ 12 ∷ [])
    c 0

-- which its place in the segment tells
unfoldable pub index_in : ℕ → ℕ → ℕ
index_in c q = cond (eqb c 1) (q / 2 + 1) (index_kind c)

-- runs in a channel of n positions, a comma after each
unfoldable pub comma_text : ℕ → List Run → List ℕ
comma_text n [] = []
comma_text n (r ∷ rs) =
    ((signed (span_of n r).lo ++ codes ":") ++ (signed (span_of n r).hi ++ codes ",")) ++ comma_text n rs
