-- `masks::mask_of` meets its contract: each arm is computed at all of its values.
use mathlib.Core.Path.{◌≡◌}
use Prim.Native.Nat.{ℕ, ◌+◌, ◌-◌, ◌*◌, ◌/◌, ◌%◌, ◌^◌, ◌≤◌, ◌<◌}
use native.Mathlib.Omega.{arith}
use borrow.Author.Tests.{lt-leb}
use lib.Dec.{T, leb, eqb, eqb→eq, leb→le}
use Rattle.resource.proofs.Test.{wherever, below, every_between}
use Rattle.masks.specs.Engine.{mask_of}
use Rattle.masks.proofs.mask_of.Goals as goal

as_mask : (f : ℕ → ℕ) (a b v : ℕ) → T (below (λ v. wherever (leb a v) (eqb (f v) (mask_of v))) b) → a ≤ v → v < b → f v ≡ mask_of v
as_mask f a b v t h l = eqb→eq (f v) (mask_of v) (every_between (λ v. eqb (f v) (mask_of v)) a b v t h l)

pub overflow_sub-result-in-90-to-93-2 : goal.overflow_sub-result-in-90-to-93-2
overflow_sub-result-in-90-to-93-2 c = let v = c.args.v in
    leb→le _ _ (every_between (λ v. leb (511 * 2 ^ (9 * (v - 90)) % 18446744073709551616) 68719476735) 90 94 v tt (omega arith) (omega arith))

pub returns-in-0-to-17 : goal.returns-in-0-to-17
unfolding mask_of
returns-in-0-to-17 c = as_mask (λ v. 1 * 2 ^ v % 18446744073709551616) 0 18 c.args.v
    tt (omega arith) (omega arith)

pub returns-in-18-to-36 : goal.returns-in-18-to-36
unfolding mask_of
returns-in-18-to-36 c = as_mask (λ v. 1 * 2 ^ (v - 1) % 18446744073709551616) 18 37 c.args.v
    tt (omega arith) (omega arith)

pub returns-in-37-to-52 : goal.returns-in-37-to-52
unfolding mask_of
returns-in-37-to-52 c = as_mask (λ v. 3 * 2 ^ (9 * ((v - 37) / 4) + 2 * ((v - 37) % 4) + (v - 37) % 4 / 2) % 18446744073709551616) 37 53
    c.args.v tt (omega arith) (omega arith)

pub returns-in-53-to-60 : goal.returns-in-53-to-60
unfolding mask_of
returns-in-53-to-60 c = as_mask (λ v. 15 * 2 ^ (9 * ((v - 53) / 2) + 5 * ((v - 53) % 2)) % 18446744073709551616) 53 61 c.args.v
    tt (omega arith) (omega arith)

pub returns-in-61-to-64 : goal.returns-in-61-to-64
unfolding mask_of
returns-in-61-to-64 c = as_mask (λ v. 511 * 2 ^ (9 * (v - 61)) % 18446744073709551616) 61 65 c.args.v
    tt (omega arith) (omega arith)

pub returns-in-65-to-66 : goal.returns-in-65-to-66
unfolding mask_of
returns-in-65-to-66 c = as_mask (λ v. 262143 * 2 ^ (18 * (v - 65)) % 18446744073709551616) 65 67 c.args.v
    tt (omega arith) (omega arith)

pub returns-in-67-to-81 : goal.returns-in-67-to-81
unfolding mask_of
returns-in-67-to-81 c = as_mask (λ v. 68719476735) 67 82 c.args.v
    tt (omega arith) (omega arith)

pub returns-in-82-to-89 : goal.returns-in-82-to-89
unfolding mask_of
returns-in-82-to-89 c = as_mask (λ v. 31 * 2 ^ (9 * ((v - 82) / 2) + 4 * ((v - 82) % 2)) % 18446744073709551616) 82 90 c.args.v
    tt (omega arith) (omega arith)

pub returns-in-90-to-93 : goal.returns-in-90-to-93
unfolding mask_of
returns-in-90-to-93 c = as_mask (λ v. 68719476735 - 511 * 2 ^ (9 * (v - 90)) % 18446744073709551616) 90 94 c.args.v
    tt (omega arith) (omega arith)

pub returns-in_default : goal.returns-in_default
unfolding mask_of
returns-in_default c = rw (
  lt-leb c.args.v 17 (omega arith),
  lt-leb c.args.v 36 (omega arith),
  lt-leb c.args.v 52 (omega arith),
  lt-leb c.args.v 60 (omega arith),
  lt-leb c.args.v 64 (omega arith),
  lt-leb c.args.v 66 (omega arith),
  lt-leb c.args.v 81 (omega arith),
  lt-leb c.args.v 89 (omega arith),
  lt-leb c.args.v 93 (omega arith),
)
