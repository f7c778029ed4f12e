-- `put_bits::merged` meets its contract.
use Prim.Native.Nat.{ℕ, ◌+◌, ◌*◌, ◌/◌, ◌%◌, ◌^◌, ◌≤◌}
use mathlib.Core.Path.{◌≡◌, ◌∙◌, ap}
use native.Mathlib.Nat.{mod-lt, add-mul}
use native.Mathlib.Omega.{arith}
use lib.Pow.{pow_pos, shl_exact, split}
use Rattle.bits.proofs.Fields.{shl_one}
use Rattle.put_bits.proofs.Stores.{merge_lt, merge_change}
use Rattle.put_bits.proofs.merged.Goals as goal

-- all that the needs want: no shift loses a bit, the bits that go were there, and the sum is as wide as x
module _ (c : goal.Start) where
  abbrev x : ℕ
  x = c.args.x

  abbrev a : ℕ
  a = c.args.a

  abbrev m : ℕ
  m = c.args.m

  abbrev w : ℕ
  w = c.args.w

  power : 1 * 2 ^ m % 4294967296 ≡ 2 ^ m
  power = shl_one m (omega arith)

  low : (y : ℕ) → y % 2 ^ m * 2 ^ a % 4294967296 ≡ y % 2 ^ m * 2 ^ a
  low y = shl_exact m a 32 (mod-lt y (pow_pos m)) (omega arith)

  -- the bits that stand there, where they stand
  held : x / 2 ^ a % 2 ^ m * 2 ^ a ≤ x
  held =
      let e : (x / 2 ^ a / 2 ^ m * 2 ^ m + x / 2 ^ a % 2 ^ m) * 2 ^ a + x % 2 ^ a ≡ x =
      ap (λ (y : ℕ). y * 2 ^ a + x % 2 ^ a) (split (x / 2 ^ a) m) ∙ split x a in
      omega (arith, e, add-mul (x / 2 ^ a / 2 ^ m * 2 ^ m) (x / 2 ^ a % 2 ^ m) (2 ^ a))

pub overflow_add-result : goal.overflow_add-result
overflow_add-result c = rw (power c, low c (x c / 2 ^ a c), low c (w c))
    (omega (arith, held c, merge_change (x c) (a c) (m c) (w c), merge_lt (x c) (a c) (m c) (w c) 32 c.ranges.x.fits (omega arith)))

pub returns : goal.returns
returns c = rw (power c, low c (x c / 2 ^ a c), low c (w c)) (omega (arith, held c, merge_change (x c) (a c) (m c) (w c)))
