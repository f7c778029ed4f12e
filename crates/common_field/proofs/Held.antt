-- 5 of the numbers that hold the common fields is 5 of the channels, its place too.
use mathlib.Core.Path.{◌≡◌, refl, sym, ◌∙◌, ap, ap₂}
use mathlib.Core.Bool.{false, cond, ◌&&◌}
use mathlib.Core.List.{List}
use Prim.Native.Nat.{ℕ, zero, suc, ◌+◌, ◌/◌, ◌%◌, ◌^◌, ◌≤◌, ◌<◌}
use native.Mathlib.Nat.{zero-add, zero-div, div-one, div-eq_of_lt, mod-lt, lt_of_lt_of_le}
use native.Mathlib.Numerals.{add-one}
use native.Mathlib.Decide.{dec_lt, ℕ_discrete}
use native.Mathlib.Omega.{arith}
use lib.Bits.{bit_xor, xor_shr, xor_mod}
use lib.Count.{count_trailing_zeros, under}
use lib.Dec.{eqb, ltb}
use lib.Pow as P
use borrow.Author.Tests.{lt-ltb, le-ltb, eq-eqb, ne_eqb}
use Rattle.answer.specs.Answer as A
use Rattle.answer.specs.Answer.{refuse_if, ◌or◌}
use Rattle.answer.specs.Least.{least}
use Rattle.std.specs.Prelude.{Ok}
use Rattle.answer.proofs.Least.{least_none, least_found}
use Rattle.answer.specs.declared.Refusal.TheVariants.{WrongOverflow}
use Rattle.bits.specs.Bits.{bit, field, differs}
use Rattle.bits.proofs.Differs.{differ, agree}
use Rattle.bits.proofs.Fields.{bit_lt, field_part, field_bit}
use Rattle.bits.proofs.Windows.{field_low}
use Rattle.register.proofs.Xor.{xor_odd}
use Rattle.channel.specs.Layout.{present, first_bits, second_at, ltf_symbols}
use Rattle.channel.specs.Engine.{first_width, first_part, parts_of}
use Rattle.channel.proofs.Laws.{present_wide, absent_2}
use Rattle.channel.proofs.Held.{first_held}
use Rattle.faults.specs.Checks.{overflow_differs}
use Rattle.common_field.specs.Engine.{differ_in, overflow_in}

-- ---- the lowest one of a number

shifted : (x k : ℕ) → x / 2 / 2 ^ k ≡ x / 2 ^ suc k
shifted x k = P.shr-shr x 1 k ∙ ap (λ (j : ℕ). x / 2 ^ j) (omega arith)

-- below it are zeros
zeros_below : (d x k : ℕ) → k < count_trailing_zeros d x → x / 2 ^ k % 2 ≡ 0
unfolding count_trailing_zeros
zeros_below zero x k l = omega arith
zeros_below (suc d) x k l = go (x % 2) k (zeros_below d (x / 2)) refl l
  where
    go : (r k : ℕ) → ((j : ℕ) → j < count_trailing_zeros d (x / 2) → x / 2 / 2 ^ j % 2 ≡ 0) → x % 2 ≡ r → k < under r (count_trailing_zeros d (x / 2))
        → x / 2 ^ k % 2 ≡ 0
    go zero zero f e l = ap (λ (y : ℕ). y % 2) (div-one x) ∙ e
    go zero (suc k) f e l = ap (λ (y : ℕ). y % 2) (sym (shifted x k)) ∙ f k (omega arith)
    go (suc r) k f e l = omega arith

-- and it is one
one_there : (d x : ℕ) → 0 < x → x < 2 ^ d → x / 2 ^ count_trailing_zeros d x % 2 ≡ 1
unfolding count_trailing_zeros
one_there zero x l h = omega arith
one_there (suc d) x l h = go (x % 2) refl (λ g. one_there d (x / 2) g (P.shr_lt d 1 (rw (add-one d) h)))
  where
    go : (r : ℕ) → x % 2 ≡ r → (0 < x / 2 → x / 2 / 2 ^ count_trailing_zeros d (x / 2) % 2 ≡ 1) → x / 2 ^ under r (count_trailing_zeros d (x / 2)) % 2 ≡ 1
    go zero e f = ap (λ (y : ℕ). y % 2) (sym (shifted x (count_trailing_zeros d (x / 2)))) ∙ f (omega arith)
    go (suc r) e f = ap (λ (y : ℕ). y % 2) (div-one x) ∙ omega arith

-- ---- the parts

-- the overflow is the first of what is held
within : (bw : ℕ) → 17 ≤ first_width bw
unfolding second_at first_bits
within bw = omega (arith, first_held bw)

symbols : (bw : ℕ) (s : List ℕ) → first_part bw s / 2 ^ 6 % 8 ≡ ltf_symbols s
unfolding first_part
symbols bw s = field_part s 0 (first_width bw) 6 3 (omega (arith, within bw))

low_17 : (bw : ℕ) (s : List ℕ) → first_part bw s % 2 ^ 17 ≡ field s 0 17
unfolding first_part
low_17 bw s = field_low s 0 (first_width bw) 17 (within bw)

even_same : (m n : ℕ) → m < 2 → n < 2 → (m + n) % 2 ≡ 0 → m ≡ n
even_same m n l h e = omega arith

odd_apart : (m n : ℕ) → m ≡ n → (m + n) % 2 ≡ 1 → ⊥
odd_apart m n e h = omega arith

-- what the overflows of two first parts differ in
module _ (bw : ℕ) (a b : List ℕ) where
  abbrev apart : ℕ
  apart = bit_xor (first_part bw a) (first_part bw b) % 131072

  apart_is : apart ≡ bit_xor (field a 0 17) (field b 0 17)
  apart_is = xor_mod (first_part bw a) (first_part bw b) 17 ∙ ap₂ bit_xor (low_17 bw a) (low_17 bw b)

  apart_lt : apart < 2 ^ 17
  apart_lt = mod-lt (bit_xor (first_part bw a) (first_part bw b)) (P.pow_pos 17)

  apart_bit : (k : ℕ) → k < 17 → apart / 2 ^ k % 2 ≡ (bit a k + bit b k) % 2
  apart_bit k l =
      let e : apart / 2 ^ k ≡ bit_xor (field a 0 17 / 2 ^ k) (field b 0 17 / 2 ^ k) =
      ap (λ (x : ℕ). x / 2 ^ k) apart_is ∙ xor_shr (field a 0 17) (field b 0 17) k in
      let f : field a 0 17 / 2 ^ k % 2 ≡ bit a k = field_bit a 0 17 k l ∙ ap (bit a) (zero-add k) in
      let g : field b 0 17 / 2 ^ k % 2 ≡ bit b k = field_bit b 0 17 k l ∙ ap (bit b) (zero-add k) in
      ap (λ (x : ℕ). x % 2) e ∙ summed _ _ _ _ (xor_odd _ _) f g
    where
      summed : (x y m n : ℕ) → bit_xor x y % 2 ≡ (x + y) % 2 → x % 2 ≡ m → y % 2 ≡ n → bit_xor x y % 2 ≡ (m + n) % 2
      summed x y m n e f g = omega arith

  apart_none : apart ≡ 0 → least (differs a b) 17 ≡ 17
  apart_none e =
      let even : (k : ℕ) → k < 17 → (bit a k + bit b k) % 2 ≡ 0 =
      λ k l. sym (apart_bit k l) ∙ ap (λ (x : ℕ). x / 2 ^ k % 2) e ∙ none k in
      least_none (differs a b) 17 (λ k l. agree a b k (even_same _ _ (bit_lt a k) (bit_lt b k) (even k l)))
    where
      none : (k : ℕ) → 0 / 2 ^ k % 2 ≡ 0
      none k = ap (λ (x : ℕ). x % 2) (zero-div (2 ^ k))

  one : 0 < apart → apart / 2 ^ count_trailing_zeros 64 apart % 2 ≡ 1
  one l = one_there 64 apart l (omega (arith, apart_lt))

  inside : 0 < apart → count_trailing_zeros 64 apart < 17
  inside l = go (dec_lt (count_trailing_zeros 64 apart) 17)
    where
      go : Dec (count_trailing_zeros 64 apart < 17) → count_trailing_zeros 64 apart < 17
      go (yes h) = h
      go (no h) =
          let z : apart / 2 ^ count_trailing_zeros 64 apart ≡ 0 =
          div-eq_of_lt (lt_of_lt_of_le apart_lt (P.pow_mono {i = 17} {j = count_trailing_zeros 64 apart} (omega arith))) in
          absurd (omega (arith, z, one l))

  apart_some : 0 < apart → least (differs a b) 17 ≡ count_trailing_zeros 64 apart
  apart_some l =
      let t = count_trailing_zeros 64 apart in
      least_found (differs a b) 17 t (inside l)
      (differ a b t (λ e. odd_apart _ _ e (sym (apart_bit t (inside l)) ∙ one l)))
      (λ k h. agree a b k (even_same _ _ (bit_lt a k) (bit_lt b k) (sym (apart_bit k (omega (arith, inside l))) ∙ zeros_below 64 apart k h)))

  found : Dec (0 < apart) → differ_in apart ≡ refuse_if (ltb (least (differs a b) 17) 17) (WrongOverflow 2 (least (differs a b) 17))
  unfolding differ_in
  found (yes l) = rw (lt-ltb 0 apart l, apart_some l, lt-ltb (count_trailing_zeros 64 apart) 17 (inside l)) refl
  found (no l) = rw (le-ltb 0 apart (omega arith), apart_none (omega arith)) refl

-- so 5 of the numbers is 5 of the channels
pub parts_differ : (bw : ℕ) (a b : List ℕ) → overflow_in bw (parts_of bw a b) ≡ overflow_differs bw a b
unfolding overflow_in parts_of overflow_differs
parts_differ bw a b = ap₂ ◌or◌ (ap (λ (n : ℕ). refuse_if (ltb 4 n) (WrongOverflow 1 6)) (symbols bw a)) (go (ℕ_discrete bw 0))
  where
    go : Dec (bw ≡ 0)
        → cond (eqb bw 0) (Ok tt) (differ_in (bit_xor (first_part bw a) (cond (present bw 2) (first_part bw b) 0) % 131072))
        ≡ refuse_if (present bw 2 && ltb (least (differs a b) 17) 17) (WrongOverflow 2 (least (differs a b) 17))
    go (yes o) =
        let n : present bw 2 ≡ false = rw o absent_2 in
        rw (eq-eqb bw 0 o, n) refl
    go (no o) = rw (ne_eqb bw 0 o, present_wide bw 2 (omega arith)) (found bw a b (dec_lt 0 (apart bw a b)))
