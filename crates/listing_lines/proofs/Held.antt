-- The lines of a row's resources, position by position.
use mathlib.Core.Path.{◌≡◌}
use mathlib.Core.List.{List, ◌++◌}
use Prim.Native.Nat.{ℕ, ◌+◌, ◌≤◌}
use native.Mathlib.Omega.{arith}
use native.Mathlib.Numerals.{add-one}
use lib.ListN.{length}
use Rattle.answer.specs.Lists.{at}
use Rattle.plan.specs.Engine.{only_plan}
use Rattle.records.specs.Records.{list_at, records_from}
use Rattle.records.proofs.Listing.{records_most}
use Rattle.records.proofs.Entering.{few_fields}
use Rattle.position_lines.specs.Engine.{runs_lines}
use Rattle.position_lines.proofs.Lines.{lines_append}
use Rattle.listed.specs.Listing.{resources}
use Rattle.listing_lines.specs.Engine.{Counted}

-- a row of sixteen positions has at most 144 resources
pub resources_few : (r : List ℕ) → length r ≤ 16 → length (resources r) ≤ 144
resources_few r l = omega (arith, records_most (only_plan (at r)) (at r) (length r))

-- and at most 72 fields for each channel
pub counted_few : {r : List ℕ} {m k : ℕ} → Counted r m k → length r ≤ 16 → (m ≤ 72) × (k ≤ 72)
counted_few {r} h l = (rw h.first (few_fields 1 (at r) (length r) l), rw h.second (few_fields 2 (at r) (length r) l))

-- one position more
pub lines_next : (n : ℕ) (o row : ℕ → ℕ) (p : ℕ)
    → runs_lines n (records_from o row (p + 1)) ≡ runs_lines n (records_from o row p) ++ runs_lines n (list_at (o p) row p)
lines_next n o row p = rw (add-one p) (lines_append n (records_from o row p) (list_at (o p) row p))
