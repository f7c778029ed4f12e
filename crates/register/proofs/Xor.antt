-- Addition without carry.
use Prim.Native.Nat.{ℕ, ◌+◌, ◌*◌, ◌/◌, ◌%◌, ◌^◌}
use mathlib.Core.Path.{◌≡◌, refl, sym, ◌∙◌, ap}
use native.Mathlib.Nat.{mod-lt, add-zero}
use native.Mathlib.Omega.{arith}
use lib.Arith.{bin_ind}
use lib.Bits.{bit_xor, xor_add_and, xor_shr, xor_comm, xor_block, xor_shifted, xor_self, xor_zero_l}
use lib.Pow as P

pub xor_odd : (a b : ℕ) → bit_xor a b % 2 ≡ (a + b) % 2
xor_odd a b = omega (arith, xor_add_and a b)

pub xor_half : (a b : ℕ) → bit_xor a b / 2 ≡ bit_xor (a / 2) (b / 2)
xor_half a b = xor_shr a b 1

halves_same : (x y : ℕ) → x / 2 ≡ y / 2 → x % 2 ≡ y % 2 → x ≡ y
halves_same x y h o = omega arith

odd_left : (x a b c : ℕ) → x % 2 ≡ (a + b) % 2 → (x + c) % 2 ≡ (a + b + c) % 2
odd_left x a b c e = omega arith

odd_right : (x a b c : ℕ) → x % 2 ≡ (b + c) % 2 → (a + x) % 2 ≡ (a + b + c) % 2
odd_right x a b c e = omega arith

pub xor_assoc : (a b c : ℕ) → bit_xor (bit_xor a b) c ≡ bit_xor a (bit_xor b c)
xor_assoc =
    bin_ind (λ (a : ℕ). (b c : ℕ) → bit_xor (bit_xor a b) c ≡ bit_xor a (bit_xor b c))
    (λ b c. refl)
    (λ a h b c.
    halves_same (bit_xor (bit_xor a b) c) (bit_xor a (bit_xor b c))
    (xor_half (bit_xor a b) c
    ∙ ap (λ (x : ℕ). bit_xor x (c / 2)) (xor_half a b)
    ∙ h (b / 2) (c / 2)
    ∙ sym (xor_half a (bit_xor b c) ∙ ap (λ (x : ℕ). bit_xor (a / 2) x) (xor_half b c)))
    (xor_odd (bit_xor a b) c
    ∙ odd_left (bit_xor a b) a b c (xor_odd a b)
    ∙ sym (xor_odd a (bit_xor b c) ∙ odd_right (bit_xor b c) a b c (xor_odd b c))))

-- two sums, added place by place
pub xor_swap : (a b c d : ℕ) → bit_xor (bit_xor a b) (bit_xor c d) ≡ bit_xor (bit_xor a c) (bit_xor b d)
xor_swap a b c d =
    xor_assoc a b (bit_xor c d)
    ∙ ap (λ (x : ℕ). bit_xor a x)
    (sym (xor_assoc b c d) ∙ ap (λ (x : ℕ). bit_xor x d) (xor_comm b c) ∙ xor_assoc c b d)
    ∙ sym (xor_assoc a c (bit_xor b d))

-- what is added twice is gone
pub xor_again : (a c : ℕ) → bit_xor (bit_xor a c) a ≡ c
xor_again a c =
    xor_comm (bit_xor a c) a
    ∙ sym (xor_assoc a a c)
    ∙ ap (λ (x : ℕ). bit_xor x c) (xor_self a)
    ∙ xor_zero_l c

-- places up
pub xor_shl : (a b k : ℕ) → bit_xor a b * 2 ^ k ≡ bit_xor (a * 2 ^ k) (b * 2 ^ k)
xor_shl a b k =
    let e = xor_block k a b 0 0 (P.pow_pos k) (P.pow_pos k) in
    sym
    (sym
    (ap (λ (x : ℕ). bit_xor x (b * 2 ^ k + 0)) (add-zero (a * 2 ^ k))
    ∙ ap (λ (x : ℕ). bit_xor (a * 2 ^ k) x) (add-zero (b * 2 ^ k)))
    ∙ e
    ∙ add-zero (bit_xor a b * 2 ^ k))

-- a number is its upper part and its lower
pub xor_split : (z k : ℕ) → z ≡ bit_xor (z / 2 ^ k * 2 ^ k) (z % 2 ^ k)
xor_split z k = sym (xor_shifted (z / 2 ^ k) k (z % 2 ^ k) (mod-lt z (P.pow_pos k)) ∙ P.split z k)
