-- Five bytes stored of 40 bits.
use mathlib.Core.Path.{◌≡◌, refl, sym, ◌∙◌, ap}
use mathlib.Core.List.{List}
use Prim.Native.Nat.{ℕ, ◌+◌, ◌*◌, ◌/◌, ◌%◌, ◌^◌, ◌≤◌, ◌<◌}
use native.Mathlib.Omega.{arith}
use native.Mathlib.Nat.{div-one, mod-eq_of_lt}
use lib.ListN.{length, set}
use lib.Pow.{shr-shr}
use Rattle.answer.specs.Lists.{filled, at}
use Rattle.answer.proofs.Lists.{filled_start, filled_step}
use Rattle.bits.specs.Bits.{field, bit, Small}
use Rattle.bits.proofs.Fields.{field_of, field_byte}
use Rattle.bits.proofs.Bytes.{length_bytes, bit_bytes, bytes_small}
use Rattle.trigger_values.specs.UserInfo.{entry_of}

-- bits below 40, and fields of them, are the number's
pub entry_bit : (x i : ℕ) → i < 40 → bit (entry_of x) i ≡ x / 2 ^ i % 2
unfolding entry_of
entry_bit x i l = bit_bytes (λ i. x / 2 ^ i) 5 i l

pub entry_length : (x : ℕ) → length (entry_of x) ≡ 5
unfolding entry_of
entry_length x = length_bytes (λ i. x / 2 ^ i) 5

pub entry_small : (x : ℕ) → Small (entry_of x)
unfolding entry_of
entry_small x = bytes_small (λ i. x / 2 ^ i) 5

pub entry_field : (x a n : ℕ) → a + n ≤ 40 → field (entry_of x) a n ≡ x / 2 ^ a % 2 ^ n
entry_field x a n l =
    field_of (entry_of x) a n (x / 2 ^ a) (λ k h. entry_bit x (a + k) (omega arith) ∙ ap (λ (y : ℕ). y % 2) (sym (shr-shr x a k)))

-- byte k
pub entry_byte : (x k : ℕ) → k < 5 → x / 2 ^ (8 * k) % 256 ≡ at (entry_of x) k
entry_byte x k l =
    sym (entry_field x (8 * k) 8 (omega arith)) ∙ field_byte (entry_of x) k ∙ mod-eq_of_lt ((entry_small x).small k)

module _ (x : ℕ) (d : List ℕ) (l : 5 ≤ length d) where
  step : (k y : ℕ) (o : List ℕ) → k < 5 → o ≡ filled (at (entry_of x)) k d → y ≡ x / 2 ^ (8 * k) % 256 → set o k y ≡ filled (at (entry_of x)) (k + 1) d
  step k y o h e f = rw e (filled_step (at (entry_of x)) k y d (omega arith) (f ∙ entry_byte x k h))

  pub five : set (set (set (set (set d 0 (x % 256)) 1 (x / 256 % 256)) 2 (x / 65536 % 256)) 3 (x / 16777216 % 256)) 4 (x / 4294967296 % 256)
      ≡ filled (at (entry_of x)) 5 d
  five =
      step 4 _ _ (omega arith)
      (step 3 _ _ (omega arith)
      (step 2 _ _ (omega arith) (step 1 _ _ (omega arith) (step 0 _ _ (omega arith) (filled_start _ d) (rw (div-one x))) refl) refl)
      refl)
      refl
