-- `resource::is_smaller` meets its contract.
use mathlib.Core.Path.{◌≡◌, refl}
use mathlib.Core.Bool.{Bool, true, false, not, ◌||◌}
use Prim.Native.Nat.{ℕ, ◌≤◌, ◌<◌}
use native.Mathlib.Omega.{arith}
use borrow.Author.Tests.{le-leb, lt-leb, ne_eqb}
use lib.Dec.{eqb}
use Rattle.resource.specs.Values.{smaller_at}
use Rattle.resource.proofs.is_smaller.Goals as goal

or_false : (t : Bool) → t ≡ t || false
or_false true = refl
or_false false = refl

at_48 : (j v : ℕ) → v ≡ 48 → not (eqb j 3) ≡ smaller_at j v
unfolding smaller_at
at_48 j v e = rw e (or_false (not (eqb j 3)))

at_50 : (j v : ℕ) → v ≡ 50 → not (eqb j 2) ≡ smaller_at j v
unfolding smaller_at
at_50 j v e = rw e

low : (j v : ℕ) → v ≤ 27 → true ≡ smaller_at j v
unfolding smaller_at
low j v h = rw (le-leb v 27 h)

rest : (j v : ℕ) → 27 < v → (v ≡ 48 → ⊥) → (v ≡ 50 → ⊥) → false ≡ smaller_at j v
unfolding smaller_at
rest j v h m n = rw (lt-leb v 27 h, ne_eqb v 48 m, ne_eqb v 50 n)

pub returns-in-48 : goal.returns-in-48
returns-in-48 c = at_48 _ _ (omega arith)

pub returns-in-50 : goal.returns-in-50
returns-in-50 c = at_50 _ _ (omega arith)

pub returns-in-0-to-27 : goal.returns-in-0-to-27
returns-in-0-to-27 c = low _ _ (omega arith)

pub returns-in_default : goal.returns-in_default
returns-in_default c = rest _ _ (omega arith) (λ e. omega arith) (λ e. omega arith)
