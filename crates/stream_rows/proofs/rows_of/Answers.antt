-- `stream_rows::rows_of` meets its contract: the checker computes each number.
use mathlib.Core.Path.{◌≡◌}
use Prim.Native.Nat.{ℕ, ◌+◌, ◌≤◌}
use native.Mathlib.Nat.{le_antisymm}
use native.Mathlib.Omega.{arith}
use Rattle.answer.specs.Lists.{build}
use Rattle.stream_rows.specs.Engine.{gather, with_three, with_two, all_rows}
use Rattle.stream_rows.proofs.rows_of.Goals as goal

-- the numbers before the last are no more
next : {u : ℕ} (k : ℕ) → k ≤ u → (u ≡ k → ⊥) → k + 1 ≤ u
next k l n = omega arith

pub returns-in-0 : goal.returns-in-0
unfolding build gather with_three with_two all_rows
returns-in-0 c = rw c.in-0.is

pub returns-in-1 : goal.returns-in-1
unfolding build gather with_three with_two all_rows
returns-in-1 c = rw c.in-1.is

pub returns-in-2 : goal.returns-in-2
unfolding build gather with_three with_two all_rows
returns-in-2 c = rw c.in-2.is

pub returns-in-3 : goal.returns-in-3
unfolding build gather with_three with_two all_rows
returns-in-3 c = rw c.in-3.is

pub returns-in-4 : goal.returns-in-4
unfolding build gather with_three with_two all_rows
returns-in-4 c = rw c.in-4.is

pub returns-in-5 : goal.returns-in-5
unfolding build gather with_three with_two all_rows
returns-in-5 c = rw c.in-5.is

pub returns-in-6 : goal.returns-in-6
unfolding build gather with_three with_two all_rows
returns-in-6 c = rw c.in-6.is

pub returns-in-7 : goal.returns-in-7
unfolding build gather with_three with_two all_rows
returns-in-7 c = rw c.in-7.is

pub returns-in_default : goal.returns-in_default
unfolding build gather with_three with_two all_rows
returns-in_default c = let three = next 2 (next 1 (next 0 (omega arith) c.in_default.in_default-own.rest.0.0.0.0.0.0.0.1)
    c.in_default.in_default-own.rest.0.0.0.0.0.0.1) c.in_default.in_default-own.rest.0.0.0.0.0.1 in
    let six = next 5 (next 4 (next 3 three c.in_default.in_default-own.rest.0.0.0.0.1) c.in_default.in_default-own.rest.0.0.0.1)
    c.in_default.in_default-own.rest.0.0.1 in
    let last : c.args.users ≡ 8 = le_antisymm c.requires (next 7 (next 6 six c.in_default.in_default-own.rest.0.1) c.in_default.in_default-own.rest.1) in
    rw last
