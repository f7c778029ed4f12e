-- The rows for a number of users as a list, and whether a row is one of them, as functions. An engine works them out, and nobody has to believe
-- it: beside them stands that they are 02's (`Worked`, `WorkedTest`), and `proofs/Worked.antt` and `proofs/Count.antt` show it of every number
-- of users (`worked`) and of every row (`worked_test`).
use Rattle.std.specs.Prelude.{◌≡◌, Bool, ◌&&◌, List, ℕ, leb, length}
use Rattle.answer.specs.Decides.{Decides}
use Rattle.answer.specs.Every.{every}
use Rattle.stream_rows.specs.Rows.{sum, Listed, Counted}
use Rattle.stream_rows.specs.Engine.{all_rows, fits}

abbrev pub the_rows : ℕ → List (List ℕ)
the_rows users = all_rows users

-- it is a list of 02's rows, and the only one
pub record Worked (users : ℕ) : Type 0 where
  pub counted : Counted users (the_rows users)
  pub only : (rows : List (List ℕ)) → Counted users rows → rows ≡ the_rows users

-- whether a row is listed for as many users as it has entries
unfoldable pub is_listed : List ℕ → Bool
is_listed row = every (fits row) (length row) && leb (sum row) 16

-- it is true exactly where 02 lists it
pub record WorkedTest (row : List ℕ) : Type 0 where
  pub decides : Decides (is_listed row) (Listed (length row) row)
