-- The owner of a User field, as a function. An engine works it out, and nobody has to believe it: beside it stands that it is the one resource
-- that owns the field (`Worked`), and `proofs/Worked.antt` shows it of every row that a plan signals (`worked`).
use Rattle.std.specs.Prelude.{◌≡◌, List, ℕ, ◌<◌, length}
use Rattle.answer.specs.Lists.{at}
use Rattle.plan.specs.Worked.{the_plan}
use Rattle.records.specs.Records.{records_of}
use Rattle.records.specs.Owns.{Owns}
use Rattle.records.specs.Engine.{owner_of}

-- the number, from 0, of the resource of the row's plan that owns field j of channel c
abbrev pub the_owner : List ℕ → ℕ → ℕ → ℕ
the_owner row c j = owner_of (the_plan row) (at row) c (length row) j

-- of a plan o that signals the row: it is a resource of the plan that owns the field, and any that owns it is this one
pub record Worked (o : ℕ → ℕ) (row : List ℕ) (c j : ℕ) : Type 0 where
  pub listed : the_owner row c j < length (records_of o row)
  pub owns : Owns o (at row) (length row) (the_owner row c j) c j
  pub only : (i : ℕ) → Owns o (at row) (length row) i c j → i ≡ the_owner row c j
