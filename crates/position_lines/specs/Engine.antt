-- Engine: the lines of resources with the subcarriers that the code finds. The contracts of the code cite it; nobody has to believe
-- it: `listing_lines/proofs/Shown.antt`.
use Rattle.std.specs.Prelude.{List, map, ℕ, ◌+◌, ◌/◌, ◌%◌, length, get_or}
use Rattle.answer.specs.Lists.{at}
use Rattle.resource.specs.Index.{resource_at}
use Rattle.resource.specs.Engine.{span_of, runs_of}
use Rattle.piece_codes.specs.Engine.{piece_of}
use Rattle.records.specs.declared.Record.{Record}
use Rattle.records.specs.Records.{list_at, blank}
use Rattle.text.specs.Text.{upto}
use Rattle.resource_line.specs.ResourceLine.{ru_line}

-- the resources of the row r whose lowest position is p, which is given to c
abbrev pub listed_at : List ℕ → ℕ → ℕ → List Record
listed_at r c p = list_at c (at r) p

-- the line of a record, in a channel of n positions
abbrev pub runs_line : ℕ → Record → List ℕ
runs_line n x =
    ru_line x.segment x.resource (x.fields1 + x.fields2) (map (span_of n) (runs_of n x.segment x.resource))

unfoldable pub runs_lines : ℕ → List Record → List ℕ
runs_lines n rs = upto (λ i. runs_line n (get_or rs i blank)) (length rs)

-- the line of the piece of code c at position p, with u User fields, in a channel of n positions
unfoldable pub code_line : ℕ → ℕ → ℕ → ℕ → List ℕ
code_line n p c u =
    ru_line (p / 4) (resource_at (p % 4) (piece_of c)) u (map (span_of n) (runs_of n (p / 4) (resource_at (p % 4) (piece_of c))))
