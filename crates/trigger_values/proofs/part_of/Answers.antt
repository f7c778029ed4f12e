-- `trigger_values::part_of` meets its contract: a field by its first bit is the field of its turn.
use mathlib.Core.Path.{◌≡◌, sym}
use mathlib.Core.Logic.{⊎_elim}
use mathlib.Core.List.{List, [], ◌∷◌}
use Prim.Native.Nat.{ℕ, ◌/◌, ◌%◌, ◌≤◌}
use native.Mathlib.Omega.{arith}
use lib.Dec.{leb, leb→le}
use lib.ListN.{get_or-eq_default}
use Rattle.bits.specs.Pack.{unpack}
use Rattle.resource.proofs.Test.{Missed, key_or, no_key, below_or, every_below}
use Rattle.trigger_values.specs.UserInfo.{info_widths, part}
use Rattle.trigger_values.proofs.part_of.Goals as goal

field_0 : (x k : ℕ) → k ≡ 0 → x % 4096 ≡ part x k
unfolding part
field_0 x k e = rw e (omega arith)

field_1 : (x k : ℕ) → k ≡ 1 → x / 4096 % 2 ≡ part x k
unfolding part
field_1 x k e = rw e (omega arith)

field_2 : (x k : ℕ) → k ≡ 2 → x / 8192 % 128 ≡ part x k
unfolding part
field_2 x k e = rw e (omega arith)

field_3 : (x k : ℕ) → k ≡ 3 → x / 1048576 % 2 ≡ part x k
unfolding part
field_3 x k e = rw e (omega arith)

field_4 : (x k : ℕ) → k ≡ 4 → x / 2097152 % 16 ≡ part x k
unfolding part
field_4 x k e = rw e (omega arith)

field_5 : (x k : ℕ) → k ≡ 5 → x / 33554432 % 2 ≡ part x k
unfolding part
field_5 x k e = rw e (omega arith)

field_6 : (x k : ℕ) → k ≡ 6 → x / 67108864 % 64 ≡ part x k
unfolding part
field_6 x k e = rw e (omega arith)

field_7 : (x k : ℕ) → k ≡ 7 → x / 4294967296 % 128 ≡ part x k
unfolding part
field_7 x k e = rw e (omega arith)

field_8 : (x k : ℕ) → k ≡ 8 → x / 549755813888 % 2 ≡ part x k
unfolding part
field_8 x k e = rw e (omega arith)

arms : List (List ℕ)
arms = (8 ∷ []) ∷ (7 ∷ []) ∷ (6 ∷ []) ∷ (5 ∷ []) ∷ (4 ∷ []) ∷ (3 ∷ []) ∷ (2 ∷ []) ∷ (1 ∷ []) ∷ (0 ∷ []) ∷ []

past : (k : ℕ) → Missed arms k → 9 ≤ k
unfolding arms
past k m =
    ⊎_elim (λ h. leb→le 9 k (no_key (leb 9) arms k (every_below (key_or (leb 9) arms) 9 tt k h) m)) (λ h. h) (below_or k 9)

no_field : (x k : ℕ) → 9 ≤ k → 0 ≡ part x k
unfolding part
no_field x k h = sym (get_or-eq_default (unpack info_widths x) 0 h)

pub returns-in-0 : goal.returns-in-0
returns-in-0 c = field_0 _ _ c.in-0.is

pub returns-in-1 : goal.returns-in-1
returns-in-1 c = field_1 _ _ c.in-1.is

pub returns-in-2 : goal.returns-in-2
returns-in-2 c = field_2 _ _ c.in-2.is

pub returns-in-3 : goal.returns-in-3
returns-in-3 c = field_3 _ _ c.in-3.is

pub returns-in-4 : goal.returns-in-4
returns-in-4 c = field_4 _ _ c.in-4.is

pub returns-in-5 : goal.returns-in-5
returns-in-5 c = field_5 _ _ c.in-5.is

pub returns-in-6 : goal.returns-in-6
returns-in-6 c = field_6 _ _ c.in-6.is

pub returns-in-7 : goal.returns-in-7
returns-in-7 c = field_7 _ _ c.in-7.is

pub returns-in-8 : goal.returns-in-8
returns-in-8 c = field_8 _ _ c.in-8.is

pub returns-in_default : goal.returns-in_default
unfolding arms
returns-in_default c = no_field _ _ (past _ c.in_default.in_default-own.rest)
