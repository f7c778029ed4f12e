-- Engine: the listing by the numbers of the User fields, with the subcarriers that the code finds. The contracts of the code cite it; nobody has
-- to believe it: of an accepted frame it is the listing, `proofs/Shown.antt`.
use Rattle.std.specs.Prelude.{◌≡◌, List, ◌++◌, ℕ, ◌+◌, length}
use Rattle.answer.specs.Tally.{tally}
use Rattle.answer.specs.Lists.{at}
use Rattle.records.specs.Owns.{fields_before}
use Rattle.text.specs.Text.{upto}
use Rattle.stations.specs.Engine.{station_in}
use Rattle.lines.specs.Lines.{assigned, sta_line, head_text}
use Rattle.position_lines.specs.Engine.{runs_lines}
use Rattle.listed.specs.Listing.{resources, owner_in}

-- the row r gives channel 1 m fields and channel 2 k
pub record Counted (r : List ℕ) (m k : ℕ) : Type 0 where
  pub first : m ≡ fields_before 1 (at r) (length r)
  pub second : k ≡ fields_before 2 (at r) (length r)

-- the line of the i-th field, m of which are channel 1's
unfoldable pub field_line : List ℕ → List ℕ → ℕ → ℕ → List ℕ
field_line r fields m i = sta_line (station_in fields i) (owner_in r m i + 1)

-- of the row r, with m fields in channel 1 and k in channel 2
unfoldable pub fields_listing : ℕ → List ℕ → List ℕ → ℕ → ℕ → List ℕ
fields_listing bw r fields m k =
    head_text bw (length (resources r)) m k (tally (λ i. assigned (station_in fields i)) (m + k))
    ++ runs_lines (length r) (resources r)
    ++ upto (field_line r fields m) (m + k)
