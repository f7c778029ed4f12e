-- `resource::is_divided` meets its contract.
use Rattle.resource.proofs.Apart.{not_divided}
use Rattle.resource.proofs.Test.{below_or, every_below, every_between, Missed, key_or, no_key}
use Rattle.resource.specs.Values.{divides, pieces}
use lib.Dec.{T}
use Prim.Native.Nat.{ℕ, ◌≤◌, ◌<◌}
use mathlib.Core.List.{List, [], ◌∷◌}
use mathlib.Core.Logic.{⊎_elim}
use mathlib.Core.Bool.{Bool, true, false, not}
use native.Mathlib.Omega.{arith}
use mathlib.Core.Path.{◌≡◌, refl}
use Rattle.resource.proofs.is_divided.Goals as goal

is_true : (t : Bool) → T t → true ≡ t
is_true true h = refl
is_true false h = absurd h

is_false : (t : Bool) → T (not t) → false ≡ t
is_false true h = absurd h
is_false false h = refl

small : (v : ℕ) → v < 26 → true ≡ divides v
unfolding divides pieces
small v h = is_true (divides v) (every_below divides 26 tt v h)

whole : ℕ → Bool
whole v = not (divides v)

keys : List (List ℕ)
keys = (48 ∷ 50 ∷ []) ∷ []

none : (v : ℕ) → 26 ≤ v → Missed keys v → false ≡ divides v
unfolding divides whole keys pieces
none v h m =
    ⊎_elim
    (λ l. is_false (divides v) (no_key whole keys v (every_between (key_or whole keys) 26 51 v tt h l) m))
    (λ l. rw (not_divided v l))
    (below_or v 51)

pub returns-in_default : goal.returns-in_default
unfolding keys
returns-in_default c = none _ (omega arith) c.in_default.in_default-own.rest

pub returns-in-0-to-25 : goal.returns-in-0-to-25
unfolding divides pieces
returns-in-0-to-25 c = ⊎_elim (λ e. rw e) (λ e. rw e) c.in-0-to-25.in-0-to-25-own.keys1

pub returns-in-0-to-25-2 : goal.returns-in-0-to-25-2
returns-in-0-to-25-2 c = small _ (omega arith)
