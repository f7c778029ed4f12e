-- Places of the mirrored register, over any number of them and numbers of any width.
use Prim.Native.Nat.{ℕ, zero, suc, ◌+◌, ◌*◌, ◌/◌, ◌%◌, ◌^◌, ◌<◌}
use mathlib.Core.Path.{◌≡◌, refl, sym, ◌∙◌, ap, ap₂}
use native.Mathlib.Nat.{add-zero, mul-one, mul_assoc, mul_comm, pow-suc}
use native.Mathlib.Omega.{arith}
use lib.Bits.{bit_xor, xor_mod, xor_comm, xor_zero_l, xor_zero_r}
use lib.Pow as P
use Rattle.register.specs.Engine.{shift, shifts}
use Rattle.register.proofs.Xor.{xor_odd, xor_half, xor_assoc, xor_swap, xor_split}
use Rattle.register.proofs.Linear.{Linear}

-- ---- moving down is linear

tap : (p q : ℕ) → p < 2 → q < 2 → 224 * ((p + q) % 2) ≡ bit_xor (224 * p) (224 * q)
tap zero zero h l = refl
tap zero (suc zero) h l = refl
tap (suc zero) zero h l = refl
tap (suc zero) (suc zero) h l = refl
tap (suc (suc p)) q h l = absurd (omega arith)
tap zero (suc (suc q)) h l = absurd (omega arith)
tap (suc zero) (suc (suc q)) h l = absurd (omega arith)

pub shift_linear : Linear shift
unfolding shift
shift_linear = record { adds = λ a b. sum a b }
  where
    sum : (a b : ℕ) → bit_xor (bit_xor a b / 2) (224 * (bit_xor a b % 2)) ≡ bit_xor (bit_xor (a / 2) (224 * (a % 2))) (bit_xor (b / 2) (224 * (b % 2)))
    sum a b =
        let e : bit_xor a b % 2 ≡ (a % 2 + b % 2) % 2 = omega (arith, xor_odd a b) in
        ap₂ (λ (x y : ℕ). bit_xor x (224 * y)) (xor_half a b) e
        ∙ ap (λ (x : ℕ). bit_xor (bit_xor (a / 2) (b / 2)) x) (tap (a % 2) (b % 2) (omega arith) (omega arith))
        ∙ xor_swap (a / 2) (b / 2) (224 * (a % 2)) (224 * (b % 2))

shifts_xor : (a b m : ℕ) → shifts (bit_xor a b) m ≡ bit_xor (shifts a m) (shifts b m)
unfolding shifts
shifts_xor a b zero = refl
shifts_xor a b (suc m) = ap shift (shifts_xor a b m) ∙ shift_linear.adds (shifts a m) (shifts b m)

-- ---- a number n places up is moved down by n places, and nothing leaves

pub shift_even : (x : ℕ) → shift (x * 2) ≡ x
unfolding shift
shift_even x =
    let e : x * 2 / 2 ≡ x = omega arith in
    let f : x * 2 % 2 ≡ 0 = omega arith in
    ap₂ (λ (y p : ℕ). bit_xor y (224 * p)) e f ∙ xor_zero_r x

shifts_first : (x m : ℕ) → shifts x (suc m) ≡ shifts (shift x) m
unfolding shifts
shifts_first x zero = refl
shifts_first x (suc m) = ap shift (shifts_first x m)

shifts_out : (x n : ℕ) → shifts (x * 2 ^ n) n ≡ x
unfolding shifts
shifts_out x zero = mul-one x
shifts_out x (suc n) =
    ap (λ (y : ℕ). shifts y (suc n)) (ap (λ (y : ℕ). x * y) (pow-suc 2 n) ∙ sym (mul_assoc x (2 ^ n) 2))
    ∙ shifts_first (x * 2 ^ n * 2) n
    ∙ ap (λ (y : ℕ). shifts y n) (shift_even (x * 2 ^ n))
    ∙ shifts_out x n

-- what stands above the n lowest bits of w moves down by n places, and that is all
pub above : (r w n : ℕ) → shifts (bit_xor r w) n ≡ bit_xor (w / 2 ^ n) (shifts (bit_xor r (w % 2 ^ n)) n)
above r w n =
    let x = w / 2 ^ n * 2 ^ n in
    let y = w % 2 ^ n in
    ap (λ (z : ℕ). shifts z n)
    (ap (λ (z : ℕ). bit_xor r z) (xor_split w n)
    ∙ sym (xor_assoc r x y)
    ∙ ap (λ (z : ℕ). bit_xor z y) (xor_comm r x)
    ∙ xor_assoc x r y)
    ∙ shifts_xor x (bit_xor r y) n
    ∙ ap (λ (z : ℕ). bit_xor z (shifts (bit_xor r y) n)) (shifts_out (w / 2 ^ n) n)

multiple : (x m : ℕ) → x * 2 ^ m % 2 ^ m ≡ 0
multiple x m = ap (λ (y : ℕ). y % 2 ^ m) (sym (add-zero (x * 2 ^ m))) ∙ P.low x m (P.pow_pos m)

-- and the m lowest bits after n places come from the n + m lowest before
pub below : (z n m : ℕ) → shifts z n % 2 ^ m ≡ shifts (z % 2 ^ (n + m)) n % 2 ^ m
below z n m =
    let x = z / 2 ^ (n + m) in
    let y = z % 2 ^ (n + m) in
    let e : x * 2 ^ (n + m) ≡ x * 2 ^ m * 2 ^ n =
    ap (λ (k : ℕ). x * k) (P.pow-add 2 n m ∙ mul_comm (2 ^ n) (2 ^ m)) ∙ sym (mul_assoc x (2 ^ m) (2 ^ n)) in
    ap (λ (k : ℕ). k % 2 ^ m)
    (ap (λ (k : ℕ). shifts k n) (xor_split z (n + m))
    ∙ shifts_xor (x * 2 ^ (n + m)) y n
    ∙ ap (λ (k : ℕ). bit_xor k (shifts y n)) (ap (λ (k : ℕ). shifts k n) e ∙ shifts_out (x * 2 ^ m) n))
    ∙ xor_mod (x * 2 ^ m) (shifts y n) m
    ∙ ap (λ (k : ℕ). bit_xor k (shifts y n % 2 ^ m)) (multiple x m)
    ∙ xor_zero_l (shifts y n % 2 ^ m)
