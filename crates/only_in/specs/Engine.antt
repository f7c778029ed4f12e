-- Engine: how the code finds the resources that only one of two plans has. The contracts of the code cite it; nobody has to believe it:
-- `proofs/Only.antt`.
use Rattle.std.specs.Prelude.{cond, List, [], ◌++◌, ℕ, zero, suc, ◌+◌, ◌/◌, ◌%◌, ◌^◌, eqb, length, get_or}
use Rattle.answer.specs.Lists.{at}
use Rattle.text.specs.Text.{upto}
use Rattle.resource.specs.declared.Size.{Size}
use Rattle.resource.specs.declared.Size.TheVariants.{S26, S52, S106, S242, S484, S996, S2x996}
use Rattle.resource.specs.declared.Piece.{Piece}
use Rattle.resource.specs.declared.Piece.TheVariants.{Part, With26}
use Rattle.resource.specs.Values.{own_pieces}
use Rattle.resource.specs.Engine.{piece_at}
use Rattle.kinds.specs.Kinds.{itself}
use Rattle.plan.specs.Engine.{only_plan}
use Rattle.records.specs.declared.Record.{Record}
use Rattle.records.specs.Records.{piece_record, list_at, blank}
use Rattle.position_lines.specs.Engine.{runs_line}
use Rattle.compared.specs.Text.{side_text}

-- a number for each piece that there is
unfoldable pub part_number : Size → ℕ → ℕ
part_number S26 i = i
part_number S52 i = 9 + i
part_number S106 i = 13 + i
part_number S242 i = 16
part_number S484 i = 16
part_number S996 i = 16
part_number S2x996 i = 16

unfoldable pub piece_number : Piece → ℕ
piece_number (Part s i) = part_number s i
piece_number (With26 i) = 16 + i

-- the first k pieces of a position that is given to itself, as a set
abbrev pub shape_of : ℕ → ℕ → ℕ
shape_of v zero = 0
shape_of v (suc k) = shape_of v k + 2 ^ piece_number (piece_at v k)

-- those of a position that is given to c
unfoldable pub shape_in : ℕ → ℕ → ℕ
shape_in c v = cond (eqb c itself) (shape_of v (length (own_pieces v))) 0

-- the line of frame s for the k-th piece of position p, unless it is in the set m
unfoldable pub only_piece : ℕ → ℕ → ℕ → ℕ → ℕ → ℕ → List ℕ
only_piece s n v p m k =
    cond (eqb (m / 2 ^ piece_number (piece_at v k) % 2) 1) [] (side_text s ++ runs_line n (piece_record (λ q. v) p (piece_at v k)))

-- the lines of frame s for resources
unfoldable pub sided_lines : ℕ → ℕ → List Record → List ℕ
sided_lines s n rs = upto (λ i. side_text s ++ runs_line n (get_or rs i blank)) (length rs)

-- for the larger resource of kind c, where p is its lowest position, unless the other has that kind there
unfoldable pub only_larger : ℕ → List ℕ → ℕ → ℕ → ℕ → List ℕ
only_larger s r c p d = cond (eqb c d) [] (sided_lines s (length r) (list_at c (at r) p))

-- for the resources whose lowest position is p, which is given to c, in the other row to d, its value there being w
unfoldable pub only_at : ℕ → List ℕ → ℕ → ℕ → ℕ → ℕ → List ℕ
only_at s r c p d w =
    cond (eqb c itself) (upto (only_piece s (length r) (at r p) p (shape_in d w)) (length (own_pieces (at r p)))) (only_larger s r c p d)

-- for all of the row r
unfoldable pub only_lines : ℕ → List ℕ → List ℕ → List ℕ
only_lines s r t = upto (λ p. only_at s r (only_plan (at r) p) p (only_plan (at t) p) (at t p)) (length r)
