-- How many fields a value gives: laws of `carried` and `fields_of`.
use mathlib.Core.Path.{◌≡◌}
use mathlib.Core.Bool.{Bool, true, false}
use mathlib.Core.Logic.{⊎_elim}
use Prim.Native.Nat.{ℕ, ◌+◌, ◌%◌, ◌≤◌}
use native.Mathlib.Omega.{arith}
use borrow.Author.Tests.{le-ltb, le-leb, lt-leb, ne_eqb}
use lib.Dec.{leb, leb→le}
use Rattle.resource.specs.Values.{carried, fields_of, pieces}
use Rattle.resource.proofs.Test.{below_or, every_below}

-- from the first value of the families to their last
pub carried_family : (v : ℕ) → 64 ≤ v → v ≤ 303 → carried v ≡ true
unfolding carried
carried_family v h l =
    rw (lt-leb v 30 (omega arith), ne_eqb v 48 (λ e. omega arith), ne_eqb v 50 (λ e. omega arith), le-leb 64 v h, le-leb v 303 l)

pub fields_family : (v : ℕ) → 64 ≤ v → v ≤ 303 → fields_of v ≡ v % 8 + 1
unfolding fields_of
fields_family v h l = rw (le-ltb v 64 h, carried_family v h l)

-- past the last
pub carried_high : (v : ℕ) → 304 ≤ v → carried v ≡ false
unfolding carried
carried_high v h =
    rw (
      lt-leb v 30 (omega arith),
      ne_eqb v 48 (λ e. omega arith),
      ne_eqb v 50 (λ e. omega arith),
      le-leb 64 v (omega arith),
      lt-leb v 303 (omega arith),
    )

pub fields_high : (v : ℕ) → 304 ≤ v → fields_of v ≡ 0
unfolding fields_of
fields_high v h = rw (le-ltb v 64 (omega arith), carried_high v h)

-- no value gives more than nine
most_test : ℕ → Bool
most_test v = leb (fields_of v) 9

pub fields_most : (v : ℕ) → fields_of v ≤ 9
unfolding most_test fields_of pieces carried
fields_most v =
    ⊎_elim
    (λ h. leb→le (fields_of v) 9 (every_below most_test 304 tt v h))
    (λ (h : 304 ≤ v). rw (fields_high v h) (omega arith))
    (below_or v 304)
