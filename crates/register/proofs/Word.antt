-- The check of a block that is held in one number, and the test of it, by the quotient.
use Prim.Native.Nat.{ℕ, ◌+◌, ◌-◌, ◌*◌, ◌/◌, ◌%◌, ◌^◌, ◌≤◌, ◌<◌}
use mathlib.Core.Path.{◌≡◌, refl, sym, ◌∙◌, ap, ap₂}
use mathlib.Core.Bool.{Bool, true, false, not, ◌&&◌}
use native.Mathlib.Decide.{ℕ_discrete}
use native.Mathlib.Omega.{arith}
use lib.Bits.{bit_xor, xor_mod, xor_shr, xor_lt}
use lib.Dec.{eqb}
use lib.Pow as P
use borrow.Author.Tests.{eq-eqb, ne_eqb, not-false}
use Rattle.answer.specs.Least.{least}
use Rattle.answer.proofs.Least.{least_all}
use Rattle.register.specs.Engine.{shifts, product, quotient, check_from, right_of, all_right}
use Rattle.register.proofs.Xor.{xor_again}
use Rattle.register.proofs.Places.{above}
use Rattle.register.proofs.Series.{quotient_law, four_factors}

-- what would leave after n places: the register's lowest, with what stands in w above its n bits
leaves : (r w q n : ℕ) → n ≤ 60 → product q % 2 ^ 64 ≡ bit_xor r w
    → q / 2 ^ n % 16 ≡ bit_xor (w / 2 ^ n % 16) (shifts (bit_xor r (w % 2 ^ n)) n % 16)
leaves r w q n l e =
    quotient_law 64 q (bit_xor r w) n (omega arith) (omega arith)
    ∙ ap (λ (x : ℕ). x % 16) (above r w n)
    ∙ xor_mod (w / 2 ^ n) (shifts (bit_xor r (w % 2 ^ n)) n) 4

pub check_quotient : (r w q n : ℕ) → n ≤ 60 → product q % 2 ^ 64 ≡ bit_xor r w → 15 - bit_xor q w / 2 ^ n % 16 ≡ check_from r w n
unfolding check_from
check_quotient r w q n l e =
    let a = w / 2 ^ n % 16 in
    ap (λ (x : ℕ). 15 - x)
    (ap (λ (x : ℕ). x % 16) (xor_shr q w n)
    ∙ xor_mod (q / 2 ^ n) (w / 2 ^ n) 4
    ∙ ap (λ (x : ℕ). bit_xor x a) (leaves r w q n l e)
    ∙ xor_again a (shifts (bit_xor r (w % 2 ^ n)) n % 16))

-- tests that the checker computes to be the same at every number below n
unfoldable pub same : Bool → Bool → Bool
same true b = b
same false b = not b

told_of : (a b : Bool) → same a b ≡ true → a ≡ b
unfolding same
told_of true true e = refl
told_of true false e = sym e
told_of false true e = e
told_of false false e = refl

pub same_below : (t u : ℕ → Bool) (n : ℕ) → least (λ k. not (same (t k) (u k))) n ≡ n → (k : ℕ) → k < n → t k ≡ u k
same_below t u n e k h = told_of (t k) (u k) (not-false _ (least_all (λ k. not (same (t k) (u k))) n e k h))

-- four bits and their complement, added, are four ones: tested at all 256
nibbles_test : (k : ℕ) → k < 256 → eqb (bit_xor (k / 16) (k % 16)) 15 ≡ eqb (k / 16) (15 - k % 16)
unfolding least same
nibbles_test = same_below (λ k. eqb (bit_xor (k / 16) (k % 16)) 15) (λ k. eqb (k / 16) (15 - k % 16)) 256 refl

nibbles : (a b : ℕ) → a < 16 → b < 16 → eqb (bit_xor a b) 15 ≡ eqb a (15 - b)
nibbles a b h l =
    let e : (a * 16 + b) / 16 ≡ a = omega arith in
    let f : (a * 16 + b) % 16 ≡ b = omega arith in
    rw (e, f) at (nibbles_test (a * 16 + b) (omega arith))

and_true : (p : Bool) → p && true ≡ p
and_true true = refl
and_true false = refl

and_false : (p : Bool) → p && false ≡ false
and_false true = refl
and_false false = refl

pub right_quotient : (w q n : ℕ) → n ≤ 60 → product q % 2 ^ 64 ≡ bit_xor 255 w
    → all_right q w n ≡ right_of w n
unfolding right_of all_right check_from
right_quotient w q n l e =
    let f : w / 2 ^ (n + 4) ≡ x / 16 = sym (P.shr-shr w n 4) in
    ap₂ (λ (y z : ℕ). eqb y 15 && eqb (z % 64) 0) (leaves 255 w q n l e) f ∙ go (ℕ_discrete (x / 16 % 64) 0)
  where
    x : ℕ
    x = w / 2 ^ n

    a : ℕ
    a = shifts (bit_xor 255 (w % 2 ^ n)) n % 16

    go : Dec (x / 16 % 64 ≡ 0) → eqb (bit_xor (x % 16) a) 15 && eqb (x / 16 % 64) 0 ≡ eqb (x % 1024) (15 - a)
    go (yes t) =
        let g : x % 16 ≡ x % 1024 = omega arith in
        ap (λ (p : Bool). eqb (bit_xor (x % 16) a) 15 && p) (eq-eqb (x / 16 % 64) 0 t)
        ∙ and_true _
        ∙ nibbles (x % 16) a (omega arith) (omega arith)
        ∙ ap (λ (y : ℕ). eqb y (15 - a)) g
    go (no t) =
        ap (λ (p : Bool). eqb (bit_xor (x % 16) a) 15 && p) (ne_eqb (x / 16 % 64) 0 t)
        ∙ and_false (eqb (bit_xor (x % 16) a) 15)
        ∙ sym (ne_eqb (x % 1024) (15 - a) (λ g. t (omega arith)))

pub right_leaving : (w n : ℕ) → w < 2 ^ 64 → n ≤ 60 → all_right (quotient (bit_xor 255 w)) w n ≡ right_of w n
right_leaving w n h l = right_quotient w _ n l (four_factors (bit_xor 255 w) (xor_lt 64 255 w (omega arith) h))
