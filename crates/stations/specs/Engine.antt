-- Engine: the STA-IDs of User fields that are held as numbers, and how one answer is gathered over all. The contracts of the code cite it;
-- nobody has to believe it: `proofs/Gathered.antt`.
use Rattle.std.specs.Prelude.{Bool, List, ℕ, ◌/◌, ◌%◌, ◌^◌, ltb}
use Rattle.answer.specs.Lists.{at}
use Rattle.stations.specs.Stations.{first_repeated}

-- the STA-ID of the i-th number: its 11 lowest bits
unfoldable pub station_in : List ℕ → ℕ → ℕ
station_in fields i = at fields i % 2048

-- the same where it stands from bit k on
unfoldable pub station_from : ℕ → List ℕ → ℕ → ℕ
station_from k numbers i = at numbers i / 2 ^ k % 2048

-- whether any of the first t stands again that may not
unfoldable pub any_repeated : (ℕ → ℕ) → ℕ → Bool
any_repeated id t = ltb (first_repeated id t) t
