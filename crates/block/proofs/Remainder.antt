-- The register is the remainder, and the only one.
use Prim.Native.Nat.{ℕ, zero, suc, ◌+◌, ◌-◌, ◌*◌, ◌/◌, ◌%◌, ◌^◌, ◌≤◌, ◌<◌}
use mathlib.Core.Path.{◌≡◌, refl, sym, ◌∙◌, ap, ap₂, subst}
use mathlib.Core.List.{List, [], ◌∷◌}
use native.Mathlib.Nat.{mul-add, mul_assoc, mul_comm, pow-suc}
use native.Mathlib.Omega.{arith}
use lib.ListN.{drop}
use lib.Bits.{bit_xor, xor_add_and, xor_lt, xor_comm, xor_self, xor_shifted, xor_zero_l}
use Rattle.answer.specs.Least.{least}
use Rattle.answer.proofs.Least.{equal_below}
use Rattle.bits.specs.Bits.{bit}
use Rattle.bits.proofs.Fields.{bit_lt}
use Rattle.register.proofs.Xor.{xor_odd, xor_assoc, xor_swap, xor_again, xor_shl, xor_split}
use Rattle.register.proofs.Linear.{Linear, ups, both}
use Rattle.block.specs.Check.{step, register, sent, check}
use Rattle.block.specs.Remainder.{divisor, times, message, dividend, Remainder, CheckIs}
use Rattle.block.proofs.Checks.{step_lt, check_lt}

-- ---- multiples

times_linear : (ks : List ℕ) → Linear (λ q. times q ks)
unfolding times
times_linear [] = record { adds = λ x y. refl }
times_linear (k ∷ ks) = both _ _ (ups k) (times_linear ks)

-- x times q times a polynomial
times_up : (q : ℕ) (ks : List ℕ) → times (q * 2) ks ≡ times q ks * 2
unfolding times
times_up q [] = refl
times_up q (k ∷ ks) =
    let e : q * 2 * 2 ^ k ≡ q * 2 ^ k * 2 = mul_assoc q 2 (2 ^ k) ∙ ap (λ (x : ℕ). q * x) (mul_comm 2 (2 ^ k)) ∙ sym (mul_assoc q (2 ^ k) 2) in
    ap₂ bit_xor e (times_up q ks) ∙ sym (xor_shl (q * 2 ^ k) (times q ks) 1)

-- ---- one bit more

-- what a step puts in the place of x^8 differs from it by the divisor
replaced : (c : ℕ) → c < 2 → c * 2 ^ 8 ≡ bit_xor (times c divisor) (step 0 c)
unfolding times divisor step
replaced zero l = refl
replaced (suc zero) l = refl
replaced (suc (suc c)) l = absurd (omega arith)

-- the bit that leaves and the one that comes in both stand at x^8
step_parts : (r b : ℕ) → step r b ≡ bit_xor (r * 2 % 2 ^ 8) (step 0 ((r / 128 + b) % 2))
unfolding step
step_parts r b =
    let e : (0 / 128 + (r / 128 + b) % 2) % 2 ≡ (r / 128 + b) % 2 = omega arith in
    rw e (sym (ap (λ (x : ℕ). bit_xor (r * 2 % 2 ^ 8) x) (xor_zero_l _)))

leaves : (r b : ℕ) → r < 2 ^ 8 → b < 2 → bit_xor (r * 2) (b * 2 ^ 8) ≡ bit_xor (times ((r / 128 + b) % 2) divisor) (step r b)
leaves r b l m =
    let c = (r / 128 + b) % 2 in
    let top : r * 2 / 2 ^ 8 ≡ r / 128 = omega arith in
    let h : r / 128 < 2 = omega arith in
    let sum : bit_xor (r / 128) b ≡ c = omega (arith, xor_odd (r / 128) b, xor_lt 1 (r / 128) b h m) in
    let low = r * 2 % 2 ^ 8 in
    ap (λ (x : ℕ). bit_xor x (b * 2 ^ 8)) (xor_split (r * 2) 8 ∙ ap (λ (x : ℕ). bit_xor (x * 2 ^ 8) low) top ∙ xor_comm (r / 128 * 2 ^ 8) low)
    ∙ xor_assoc low (r / 128 * 2 ^ 8) (b * 2 ^ 8)
    ∙ ap (λ (x : ℕ). bit_xor low x)
    (sym (xor_shl (r / 128) b 8)
    ∙ ap (λ (x : ℕ). x * 2 ^ 8) sum
    ∙ replaced c (omega arith)
    ∙ xor_comm (times c divisor) (step 0 c))
    ∙ sym (xor_assoc low (step 0 c) (times c divisor))
    ∙ xor_comm (bit_xor low (step 0 c)) (times c divisor)
    ∙ ap (λ (x : ℕ). bit_xor (times c divisor) x) (sym (step_parts r b))

-- a step takes the remainder of p to that of x times p and b times x^8
pub step_remainder : (p r b : ℕ) → b < 2 → Remainder p r → Remainder (bit_xor (p * 2) (b * 2 ^ 8)) (step r b)
step_remainder p r b l h =
    let q = h.quotient in
    let c = (r / 128 + b) % 2 in
    record {
      lower = step_lt r b;
      quotient = bit_xor (q * 2) c;
      divided =
          ap (λ (x : ℕ). bit_xor (x * 2) (b * 2 ^ 8)) h.divided
          ∙ ap (λ (x : ℕ). bit_xor x (b * 2 ^ 8)) (xor_shl (times q divisor) r 1)
          ∙ xor_assoc (times q divisor * 2) (r * 2) (b * 2 ^ 8)
          ∙ ap₂ bit_xor (sym (times_up q divisor)) (leaves r b h.lower l)
          ∙ sym (xor_assoc (times (q * 2) divisor) (times c divisor) (step r b))
          ∙ ap (λ (x : ℕ). bit_xor x (step r b)) (sym ((times_linear divisor).adds (q * 2) c));
    }

-- as the dividend does with each bit
dividend_up : (s : List ℕ) (at n : ℕ) → dividend s at (suc n) ≡ bit_xor (dividend s at n * 2) (bit s (at + n) * 2 ^ 8)
unfolding dividend message
dividend_up s at n =
    let m = message s at n in
    let b = bit s (at + n) in
    let e : m * 2 * 2 ^ 8 ≡ m * 2 ^ 8 * 2 = omega arith in
    let f : 255 * 2 ^ suc n ≡ 255 * 2 ^ n * 2 = omega (arith, pow-suc 2 n) in
    ap₂ bit_xor
    (ap (λ (x : ℕ). x * 2 ^ 8) (sym (xor_shifted m 1 b (bit_lt s (at + n)))) ∙ xor_shl (m * 2) b 8 ∙ ap (λ (x : ℕ). bit_xor x (b * 2 ^ 8)) e)
    f
    ∙ xor_assoc (m * 2 ^ 8 * 2) (b * 2 ^ 8) (255 * 2 ^ n * 2)
    ∙ ap (λ (x : ℕ). bit_xor (m * 2 ^ 8 * 2) x) (xor_comm (b * 2 ^ 8) (255 * 2 ^ n * 2))
    ∙ sym (xor_assoc (m * 2 ^ 8 * 2) (255 * 2 ^ n * 2) (b * 2 ^ 8))
    ∙ ap (λ (x : ℕ). bit_xor x (b * 2 ^ 8)) (sym (xor_shl (m * 2 ^ 8) (255 * 2 ^ n) 1))

pub register_remainder : (s : List ℕ) (at n : ℕ) → Remainder (dividend s at n) (register s at n)
unfolding register dividend message times divisor
register_remainder s at zero = record { lower = omega arith; quotient = 0; divided = refl }
register_remainder s at (suc n) =
    subst (λ (p : ℕ). Remainder p (step (register s at n) (bit s (at + n)))) (sym (dividend_up s at n))
    (step_remainder (dividend s at n) (register s at n) (bit s (at + n)) (bit_lt s (at + n)) (register_remainder s at n))

-- ---- there is no other

xor_le : (a b : ℕ) → bit_xor a b ≤ a + b
xor_le a b = omega (arith, xor_add_and a b)

-- a sum with carry is no less than one without
carried : List ℕ → ℕ
carried [] = 0
carried (k ∷ ks) = 2 ^ k + carried ks

times_le : (q : ℕ) (ks : List ℕ) → times q ks ≤ q * carried ks
unfolding times carried
times_le q [] = omega arith
times_le q (k ∷ ks) =
    let e : q * (2 ^ k + carried ks) ≡ q * 2 ^ k + q * carried ks = mul-add q (2 ^ k) (carried ks) in
    sum (q * 2 ^ k) (times q ks) (q * carried ks) (q * (2 ^ k + carried ks)) (times_le q ks) e
  where
    sum : (a b c d : ℕ) → b ≤ c → d ≡ a + c → bit_xor a b ≤ d
    sum a b c d l e = omega (arith, xor_le a b)

-- x^2 + x + 1 is too little to take x^8 away
too_little : (q b : ℕ) → b ≤ q * 7 → bit_xor (q * 2 ^ 8) b < 2 ^ 8 → q ≤ 1
too_little q b l h = omega (arith, xor_comm (q * 2 ^ 8) b, xor_again b (q * 2 ^ 8), xor_le (bit_xor b (q * 2 ^ 8)) b)

-- so no multiple is below x^8 but that by 0
no_multiple : (q : ℕ) → times q divisor < 2 ^ 8 → q ≡ 0
unfolding times divisor carried
no_multiple zero l = refl
no_multiple (suc zero) l = absurd (omega arith)
no_multiple (suc (suc q)) l =
    let p = suc (suc q) in
    let few : p ≤ 1 = too_little p (times p (drop 1 divisor)) (times_le p (drop 1 divisor)) l in
    absurd (omega arith)

none_apart : (a b : ℕ) → bit_xor a b ≡ 0 → a ≡ b
none_apart a b e = sym (ap (λ (x : ℕ). bit_xor x a) e ∙ xor_zero_l a) ∙ xor_again a b

pub remainder_only : (p r r' : ℕ) → Remainder p r → Remainder p r' → r ≡ r'
unfolding times divisor
remainder_only p r r' h g =
    let q = h.quotient in
    let q' = g.quotient in
    let d = bit_xor q q' in
    let e : times d divisor ≡ bit_xor r r' =
    (times_linear divisor).adds q q'
    ∙ none_apart (bit_xor (times q divisor) (times q' divisor)) (bit_xor r r')
    (xor_swap (times q divisor) (times q' divisor) r r' ∙ ap₂ bit_xor (sym h.divided) (sym g.divided) ∙ xor_self p) in
    let z : d ≡ 0 = no_multiple d (rw e (xor_lt 8 r r' h.lower g.lower)) in
    none_apart r r' (sym e ∙ ap (λ (x : ℕ). times x divisor) z)

-- ---- the four bits sent

four_bits : (r k : ℕ) → r < 2 ^ 8 → k < 4 → sent (255 - r) / 2 ^ k % 2 ≡ 1 - r / 2 ^ (7 - k) % 2
unfolding sent least
four_bits r zero l m = equal_below (λ r. sent (255 - r) / 2 ^ 0 % 2) (λ r. 1 - r / 2 ^ 7 % 2) 256 refl r l
four_bits r (suc zero) l m = equal_below (λ r. sent (255 - r) / 2 ^ 1 % 2) (λ r. 1 - r / 2 ^ 6 % 2) 256 refl r l
four_bits r (suc (suc zero)) l m = equal_below (λ r. sent (255 - r) / 2 ^ 2 % 2) (λ r. 1 - r / 2 ^ 5 % 2) 256 refl r l
four_bits r (suc (suc (suc zero))) l m = equal_below (λ r. sent (255 - r) / 2 ^ 3 % 2) (λ r. 1 - r / 2 ^ 4 % 2) 256 refl r l
four_bits r (suc (suc (suc (suc k)))) l m = absurd (omega arith)

pub check_is : (s : List ℕ) (at n : ℕ) → CheckIs s at n
unfolding check
check_is s at n =
    record {
      remainder = register_remainder s at n;
      only = same;
      inverted = λ r h. ap (λ (x : ℕ). sent (255 - x)) (sym (same r h));
      highest_first = λ r k h l.
          ap (λ (x : ℕ). sent (255 - x) / 2 ^ k % 2) (sym (same r h)) ∙ four_bits r k h.lower l;
      four = check_lt s at n;
    }
  where
    same : (r : ℕ) → Remainder (dividend s at n) r → r ≡ register s at n
    same r h = remainder_only (dividend s at n) r (register s at n) h (register_remainder s at n)
