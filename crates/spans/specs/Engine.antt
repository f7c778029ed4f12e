-- Engine: the only plan that can signal a part of a row, sought "in the whole width, then in each half, down to one segment" (02, T-07). The
-- contracts of the code cite it; nobody has to believe it: `plan/proofs/Only.antt` shows that any plan of the part is this one.
use Rattle.std.specs.Prelude.{cond, List, [], ◌∷◌, ℕ, ◌-◌, ◌*◌, ◌/◌, ◌%◌, leb}
use Rattle.kinds.specs.Kinds.{takes}
use Rattle.kinds.specs.Engine.{settled}
use Rattle.segments.specs.Engine.{first_named, segment_plan}

-- the kind that the n positions from b on name, of those sought among n
unfoldable pub named : ℕ → (ℕ → ℕ) → ℕ → ℕ
named n row b = settled row b (first_named n row b n)

-- to what position p is given: the kind that is named among the n positions around it, where it has this place; or else what is
-- found among fewer, at last by its segment
unfoldable pub search : List ℕ → (ℕ → ℕ) → ℕ → ℕ
search [] row p = segment_plan row p
search (n ∷ ns) row p = cond (takes (named n row (n * (p / n))) (p % n)) (named n row (n * (p / n))) (search ns row p)

-- what a part of n positions is searched in, from its whole width down to what is wider than a segment
unfoldable pub spans_in : ℕ → List ℕ
spans_in n = cond (leb 16 n) (16 ∷ 8 ∷ []) (cond (leb 8 n) (8 ∷ []) [])

-- the only plan that can signal a part of n positions
unfoldable pub part_plan : ℕ → (ℕ → ℕ) → ℕ → ℕ
part_plan n row p = search (spans_in n) row p

-- the kind c over what the positions from b on are given to, where it has their places
unfoldable pub overlaid : ℕ → ℕ → (ℕ → ℕ) → ℕ → ℕ
overlaid c b o p = cond (takes c (p - b)) c (o p)
