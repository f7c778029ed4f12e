-- Engine: the line of a User field by the number of its owner. The contracts of the code cite it; nobody has to believe it:
-- `listing_lines/proofs/Channels.antt`.
use Rattle.std.specs.Prelude.{List, ℕ, ◌+◌, length}
use Rattle.answer.specs.Lists.{at}
use Rattle.plan.specs.Engine.{only_plan}
use Rattle.records.specs.Engine.{owner_at, owner_of}
use Rattle.stations.specs.Engine.{station_in}
use Rattle.lines.specs.Lines.{sta_line}

-- the line of the k-th field that position p of the row r gives its channel, the i-th of all fields being the first of these
abbrev pub given_line : List ℕ → ℕ → List ℕ → ℕ → ℕ → List ℕ
given_line fields i r p k = sta_line (station_in fields (i + k)) (owner_at (only_plan (at r)) (at r) p k + 1)

-- of field j of channel c, the i-th of all being the channel's first
abbrev pub owned_line : List ℕ → ℕ → List ℕ → ℕ → ℕ → List ℕ
owned_line fields i r c j = sta_line (station_in fields (i + j)) (owner_of (only_plan (at r)) (at r) c (length r) j + 1)
