-- The number of a field's owner is small.
use mathlib.Core.Bool.{Bool, true, false, cond}
use Prim.Native.Nat.{ℕ, ◌+◌, ◌*◌, ◌≤◌}
use native.Mathlib.Omega.{arith}
use Rattle.resource.specs.Values.{divides}
use Rattle.records.specs.Owns.{number}
use Rattle.records.specs.Engine.{lowest, owner_at}
use Rattle.records.proofs.Lead.{lowest_near}
use Rattle.records.proofs.Listing.{records_most}

module _ (o row : ℕ → ℕ) where
  pub at_small : (p k : ℕ) → owner_at o row p k ≤ 9 * p + 54 + k
  unfolding owner_at
  at_small p k = go (divides (row p))
    where
      go : (b : Bool) → cond b (number o row p k) (number o row (lowest (o p) p) 0) ≤ 9 * p + 54 + k
      go true = omega (arith, records_most o row p)
      go false = omega (arith, records_most o row (lowest (o p) p), lowest_near (o p) p)
