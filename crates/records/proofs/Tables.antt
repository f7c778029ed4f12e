-- What stands in the tables of a row.
use mathlib.Core.Path.{◌≡◌}
use mathlib.Core.List.{List}
use Prim.Native.Nat.{ℕ, ◌+◌, ◌<◌}
use lib.ListN.{length, get_or, replicate}
use Rattle.answer.proofs.Lists.{get_d_filled}
use Rattle.answer.specs.Lists.{at}
use Rattle.plan.specs.Engine.{only_plan, kinds_of}
use Rattle.plan.proofs.Only.{only_known}
use Rattle.records.specs.Records.{records_from}
use Rattle.records.specs.Engine.{numbers_of}

pub kind_at : (r : List ℕ) (p : ℕ) → p < length r → get_or (kinds_of r) p 0 ≡ only_plan (at r) p
unfolding kinds_of
kind_at r p l = get_d_filled (only_plan (at r)) (length r) (replicate {A = ℕ} 16 0) p 0 l

-- the same of a table k that is the row's, and it is a kind
pub kind_in : (k r : List ℕ) (p : ℕ) → k ≡ kinds_of r → p < length r → get_or k p 0 ≡ only_plan (at r) p
kind_in k r p e l = rw e (kind_at r p l)

pub kind_known : (k r : List ℕ) (p : ℕ) → k ≡ kinds_of r → p < length r → get_or k p 0 < 36
kind_known k r p e l = rw (kind_in k r p e l) (only_known (at r) p)

pub number_at : (r : List ℕ) (p : ℕ) → p < length r + 1 → get_or (numbers_of r) p 0 ≡ length (records_from (only_plan (at r)) (at r) p)
unfolding numbers_of
number_at r p l = get_d_filled (λ p. length (records_from (only_plan (at r)) (at r) p)) (length r + 1) (replicate {A = ℕ} 17 0) p 0 l
