-- `resource::starts_of` meets its contract: each arm is computed at all of its values.
use Rattle.resource.proofs.Starts.{starts_high}
use Rattle.resource.proofs.Test.{every_between, Missed, key_or, no_key}
use Rattle.resource.specs.Engine.{starts}
use Rattle.resource.specs.Values.{own_pieces, pieces}
use lib.Dec.{eqb, eqb→eq}
use native.Mathlib.Omega.{arith}
use Prim.Native.Nat.{ℕ, ◌-◌, ◌*◌, ◌/◌, ◌%◌, ◌≤◌, ◌<◌}
use mathlib.Core.List.{List, [], ◌∷◌}
use mathlib.Core.Bool.{Bool}
use mathlib.Core.Path.{◌≡◌, sym}
use Rattle.resource.proofs.starts_of.Goals as goal

slots : ℕ → Bool
slots v = eqb (511 - v / 8 % 2 * 2 - v / 4 % 2 * 8 - v / 2 % 2 * 64 - v % 2 * 256) (starts v)

lower : ℕ → Bool
lower v = eqb (63 - v / 2 % 2 * 2 - v % 2 * 8) (starts v)

upper : ℕ → Bool
upper v = eqb (497 - v / 2 % 2 * 64 - v % 2 * 256) (starts v)

whole : ℕ → Bool
whole v = eqb 1 (starts v)

absent : ℕ → Bool
absent v = eqb 0 (starts v)

keys : List (List ℕ)
keys = (50 ∷ []) ∷ (48 ∷ []) ∷ (28 ∷ []) ∷ (25 ∷ []) ∷ (24 ∷ []) ∷ []

none : (v : ℕ) → 24 ≤ v → v < 64 → Missed keys v → 0 ≡ starts v
unfolding keys absent starts own_pieces pieces
none v h l m = eqb→eq 0 (starts v) (no_key absent keys v (every_between (key_or absent keys) 24 64 v tt h l) m)

pub returns-in-24 : goal.returns-in-24
unfolding starts own_pieces pieces
returns-in-24 c = rw c.in-24.is

pub returns-in-25 : goal.returns-in-25
unfolding starts own_pieces pieces
returns-in-25 c = rw c.in-25.is

pub returns-in-48 : goal.returns-in-48
unfolding starts own_pieces pieces
returns-in-48 c = rw c.in-48.is

pub returns-in-50 : goal.returns-in-50
unfolding starts own_pieces pieces
returns-in-50 c = rw c.in-50.is

pub returns-in-0-to-15 : goal.returns-in-0-to-15
unfolding slots starts own_pieces pieces
returns-in-0-to-15 c = eqb→eq _ _ (every_between slots 0 16 c.args.v tt (omega arith) (omega arith))

pub returns-in-16-to-19 : goal.returns-in-16-to-19
unfolding lower starts own_pieces pieces
returns-in-16-to-19 c = eqb→eq _ _ (every_between lower 16 20 c.args.v tt (omega arith) (omega arith))

pub returns-in-20-to-23 : goal.returns-in-20-to-23
unfolding upper starts own_pieces pieces
returns-in-20-to-23 c = eqb→eq _ _ (every_between upper 20 24 c.args.v tt (omega arith) (omega arith))

pub returns-in_default : goal.returns-in_default
unfolding keys
returns-in_default c = none _ (omega arith) (omega arith) c.in_default.in_default-own.rest

pub returns-in_default-2 : goal.returns-in_default-2
returns-in_default-2 c = sym (starts_high _ (omega arith))

pub returns-in-28 : goal.returns-in-28
unfolding starts own_pieces pieces
returns-in-28 c = rw c.in-28.in-28-own.keys3

pub returns-in-28-2 : goal.returns-in-28-2
unfolding whole starts own_pieces pieces
returns-in-28-2 c = eqb→eq _ _ (every_between whole 64 72 c.args.v tt (omega arith) (omega arith))
