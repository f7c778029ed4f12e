-- `resource::is_carried` meets its contract: every range of the `match` has one answer.
use mathlib.Core.Path.{◌≡◌, sym}
use mathlib.Core.Logic.{inl, inr, ⊎_elim}
use mathlib.Core.Bool.{true, false}
use Prim.Native.Nat.{ℕ, ◌≤◌, ◌<◌}
use native.Mathlib.Omega.{arith}
use borrow.Author.Tests.{le-leb, lt-leb, ne_eqb}
use Rattle.resource.specs.Values.{carried}
use Rattle.resource.proofs.Fields.{carried_family, carried_high}
use Rattle.resource.proofs.is_carried.Goals as goal

low : (v : ℕ) → v ≤ 30 → true ≡ carried v
unfolding carried
low v h = rw (le-leb v 30 h)

gap : (v : ℕ) → 30 < v → v < 64 → (v ≡ 48 → ⊥) → (v ≡ 50 → ⊥) → false ≡ carried v
unfolding carried
gap v a b m n = rw (lt-leb v 30 a, ne_eqb v 48 m, ne_eqb v 50 n, lt-leb 64 v b)

pub returns-in_default : goal.returns-in_default
returns-in_default c = gap _ (omega arith) (omega arith) (λ e. c.in_default.in_default-own.rest.1 (inl e)) (λ e. c.in_default.in_default-own.rest.1 (inr e))

pub returns-in_default-2 : goal.returns-in_default-2
returns-in_default-2 c = sym (carried_high _ (omega arith))

pub returns-in-0-to-30 : goal.returns-in-0-to-30
unfolding carried
returns-in-0-to-30 c = ⊎_elim (λ e. rw e) (λ e. rw e) c.in-0-to-30.in-0-to-30-own.keys1

pub returns-in-0-to-30-2 : goal.returns-in-0-to-30-2
returns-in-0-to-30-2 c = low _ (omega arith)

pub returns-in-0-to-30-3 : goal.returns-in-0-to-30-3
returns-in-0-to-30-3 c = sym (carried_family _ (omega arith) (omega arith))
