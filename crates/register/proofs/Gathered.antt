-- Many blocks tested at once: the ones that are common to what leaves them all, and those that any of them has.
use Prim.Native.Nat.{ℕ, ◌+◌, ◌*◌, ◌/◌, ◌%◌, ◌^◌, ◌<◌}
use mathlib.Core.Path.{◌≡◌, refl, ◌∙◌, ap, ap₂}
use mathlib.Core.Bool.{Bool, true, false, ◌&&◌}
use native.Mathlib.Omega.{arith}
use lib.Bits.{bit_and, bit_or, and_shr, and_mod, or_shr, or_mod}
use lib.Dec.{eqb}
use Rattle.answer.specs.Least.{least}
use Rattle.register.proofs.Word.{same, same_below}
use Rattle.register.specs.Engine.{all_right}

-- four ones in common: tested at all 256
ones_test : (k : ℕ) → k < 256 → eqb (bit_and (k / 16) (k % 16)) 15 ≡ eqb (k / 16) 15 && eqb (k % 16) 15
unfolding least same
ones_test = same_below (λ k. eqb (bit_and (k / 16) (k % 16)) 15) (λ k. eqb (k / 16) 15 && eqb (k % 16) 15) 256 refl

ones : (a b : ℕ) → a < 16 → b < 16 → eqb (bit_and a b) 15 ≡ eqb a 15 && eqb b 15
ones a b h l =
    let e : (a * 16 + b) / 16 ≡ a = omega arith in
    let f : (a * 16 + b) % 16 ≡ b = omega arith in
    rw (e, f) at (ones_test (a * 16 + b) (omega arith))

-- six zeros in both: tested at all 4,096
zeros_test : (k : ℕ) → k < 4096 → eqb (bit_or (k / 64) (k % 64)) 0 ≡ eqb (k / 64) 0 && eqb (k % 64) 0
unfolding least same
zeros_test = same_below (λ k. eqb (bit_or (k / 64) (k % 64)) 0) (λ k. eqb (k / 64) 0 && eqb (k % 64) 0) 4096 refl

zeros : (a b : ℕ) → a < 64 → b < 64 → eqb (bit_or a b) 0 ≡ eqb a 0 && eqb b 0
zeros a b h l =
    let e : (a * 64 + b) / 64 ≡ a = omega arith in
    let f : (a * 64 + b) % 64 ≡ b = omega arith in
    rw (e, f) at (zeros_test (a * 64 + b) (omega arith))

turn : (a b c d : Bool) → (a && b) && (c && d) ≡ (a && c) && (b && d)
turn true true c d = refl
turn true false true d = refl
turn true false false d = refl
turn false b c d = refl

-- one block more
pub right_more : (q x p y n : ℕ) → all_right (bit_and q p) (bit_or x y) n ≡ all_right q x n && all_right p y n
unfolding all_right
right_more q x p y n =
    let a = q / 2 ^ n in
    let b = p / 2 ^ n in
    let c = x / 2 ^ (n + 4) in
    let d = y / 2 ^ (n + 4) in
    ap₂ (λ (i j : ℕ). eqb i 15 && eqb j 0)
    (ap (λ (i : ℕ). i % 16) (and_shr q p n) ∙ and_mod a b 4)
    (ap (λ (i : ℕ). i % 64) (or_shr x y (n + 4)) ∙ or_mod c d 6)
    ∙ ap₂ ◌&&◌ (ones (a % 16) (b % 16) (omega arith) (omega arith)) (zeros (c % 64) (d % 64) (omega arith) (omega arith))
    ∙ turn (eqb (a % 16) 15) (eqb (b % 16) 15) (eqb (c % 64) 0) (eqb (d % 64) 0)
