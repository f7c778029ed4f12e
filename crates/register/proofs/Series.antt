-- The bits that leave the mirrored register are the quotient by p, the lowest first.
--
-- Moving down by a place takes p times the bit that leaves away, and halves what is left. So p times y moves down to p
-- times y / 2, whatever y is; and where z is p times y, the register's lowest bits after n places are y's from n on.
use Prim.Native.Nat.{ℕ, zero, suc, ◌+◌, ◌*◌, ◌/◌, ◌%◌, ◌^◌, ◌≤◌, ◌<◌}
use mathlib.Core.Path.{◌≡◌, refl, sym, ◌∙◌, ap, ap₂}
use native.Mathlib.Nat.{div-one}
use native.Mathlib.Numerals.{add-one}
use native.Mathlib.Omega.{arith}
use lib.Bits.{bit_xor, xor_mod, xor_zero_r}
use lib.Pow as P
use Rattle.answer.specs.Least.{least}
use Rattle.bits.proofs.Windows.{low_low}
use Rattle.register.specs.Engine.{shift, shifts, product, times, quotient}
use Rattle.register.proofs.Xor.{xor_shl, xor_split}
use Rattle.register.proofs.Linear.{Linear, itself, ups, lows, both, next, agree_tested}
use Rattle.register.proofs.Places.{shift_linear, shift_even, below}

-- ---- p times a number

product_linear : Linear product
unfolding product
product_linear = both _ _ (both _ _ (both _ _ itself (ups 6)) (ups 7)) (ups 8)

product_twice : (y : ℕ) → product (y * 2) ≡ product y * 2
unfolding product
product_twice y =
    let a : y * 2 * 2 ^ 6 ≡ y * 2 ^ 6 * 2 = omega arith in
    let b : y * 2 * 2 ^ 7 ≡ y * 2 ^ 7 * 2 = omega arith in
    let c : y * 2 * 2 ^ 8 ≡ y * 2 ^ 8 * 2 = omega arith in
    ap₂ bit_xor
    (ap₂ bit_xor (ap (λ (x : ℕ). bit_xor (y * 2) x) a ∙ sym (xor_shl y (y * 2 ^ 6) 1)) b
    ∙ sym (xor_shl (bit_xor y (y * 2 ^ 6)) (y * 2 ^ 7) 1)) c
    ∙ sym (xor_shl (bit_xor (bit_xor y (y * 2 ^ 6)) (y * 2 ^ 7)) (y * 2 ^ 8) 1)

-- one bit leaves, and nothing of p is left
bit_gone : (b : ℕ) → b < 2 → shift (product b) ≡ 0
unfolding shift product
bit_gone zero l = refl
bit_gone (suc zero) l = refl
bit_gone (suc (suc b)) l = absurd (omega arith)

shift_product : (y : ℕ) → shift (product y) ≡ product (y / 2)
shift_product y =
    let h = y / 2 in
    ap (λ (x : ℕ). shift (product x)) (xor_split y 1)
    ∙ ap shift (product_linear.adds (h * 2) (y % 2))
    ∙ shift_linear.adds (product (h * 2)) (product (y % 2))
    ∙ ap₂ bit_xor (ap shift (product_twice h) ∙ shift_even (product h)) (bit_gone (y % 2) (omega arith))
    ∙ xor_zero_r (product h)

shifts_product : (y n : ℕ) → shifts (product y) n ≡ product (y / 2 ^ n)
unfolding shifts
shifts_product y zero = ap product (sym (div-one y))
shifts_product y (suc n) =
    ap shift (shifts_product y n)
    ∙ shift_product (y / 2 ^ n)
    ∙ ap product (P.shr-shr y n 1 ∙ ap (λ (k : ℕ). y / 2 ^ k) (add-one n))

-- its lowest bits are the number's own
product_low : (y : ℕ) → product y % 16 ≡ y % 16
unfolding product
product_low y =
    let a : y * 2 ^ 6 % 16 ≡ 0 = omega arith in
    let b : y * 2 ^ 7 % 16 ≡ 0 = omega arith in
    let c : y * 2 ^ 8 % 16 ≡ 0 = omega arith in
    add (bit_xor (bit_xor y (y * 2 ^ 6)) (y * 2 ^ 7)) (y * 2 ^ 8) c
    ∙ add (bit_xor y (y * 2 ^ 6)) (y * 2 ^ 7) b
    ∙ add y (y * 2 ^ 6) a
  where
    add : (x z : ℕ) → z % 16 ≡ 0 → bit_xor x z % 16 ≡ x % 16
    add x z e = xor_mod x z 4 ∙ ap (λ (k : ℕ). bit_xor (x % 16) k) e ∙ xor_zero_r (x % 16)

-- ---- THE law of the quotient, over every number of places and every width b that holds four bits more

pub quotient_law : (b y z n : ℕ) → n + 4 ≤ b → product y % 2 ^ b ≡ z % 2 ^ b → y / 2 ^ n % 16 ≡ shifts z n % 16
quotient_law b y z n l e =
    sym
    (below z n 4
    ∙ ap (λ (x : ℕ). shifts x n % 16) (sym (low z) ∙ ap (λ (x : ℕ). x % 2 ^ (n + 4)) (sym e) ∙ low (product y))
    ∙ sym (below (product y) n 4)
    ∙ ap (λ (x : ℕ). x % 16) (shifts_product y n)
    ∙ product_low (y / 2 ^ n))
  where
    low : (x : ℕ) → x % 2 ^ b % 2 ^ (n + 4) ≡ x % 2 ^ (n + 4)
    low x = low_low x b (n + 4) l

-- ---- and of what the code makes of z: it is the quotient

times_linear : (i : ℕ) → Linear (λ z. times z i)
unfolding times
times_linear i = both _ _ itself (up _ _ (both _ _ itself (up _ _ (both _ _ itself (up _ _ itself)))))
  where
    up : (f : ℕ → ℕ) (k : ℕ) → Linear f → Linear (λ z. f z * 2 ^ k % 2 ^ 64)
    up f k p = next (λ z. f z * 2 ^ k) _ (next f _ p (ups k)) (lows 64)

pub four_factors : (z : ℕ) → z < 2 ^ 64 → product (quotient z) % 2 ^ 64 ≡ z
unfolding product times quotient least
four_factors =
    agree_tested (λ z. product (times (times (times (times z 1) 2) 4) 8) % 2 ^ 64) (λ z. z)
    (next (λ z. times (times (times (times z 1) 2) 4) 8) _
    (next (λ z. times (times (times z 1) 2) 4) _
    (next (λ z. times (times z 1) 2) _ (next (λ z. times z 1) _ (times_linear 1) (times_linear 2)) (times_linear 4)) (times_linear 8))
    (next product _ product_linear (lows 64)))
    itself 64 refl
