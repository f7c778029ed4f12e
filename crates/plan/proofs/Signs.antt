-- The marks of four segments in one number, and the segment of the refusal with 8 that they tell.
use mathlib.Core.Path.{◌≡◌, refl, sym, ◌∙◌}
use mathlib.Core.Bool.{Bool, true, false, cond, ◌||◌}
use Prim.Native.Nat.{ℕ, zero, suc, ◌+◌, ◌*◌, ◌/◌, ◌%◌, ◌≤◌, ◌<◌}
use native.Mathlib.Omega.{arith}
use lib.Dec.{ltb, eqb}
use borrow.Author.Tests.{eqb-true, eqb-false}
use Rattle.kinds.proofs.Tests.{not_both}
use Rattle.roles.proofs.Told.{at_place}
use Rattle.plan.specs.Engine.{over_of, over_in, segment_of, glance_marks}

-- marks of places, or one of the two signs
pub record Digit (m : ℕ) : Type 0 where
  pub places : m % 65536 < 16
  pub sign : m / 65536 ≤ 2

-- r is the lowest of four with a sign, and no sign is 1
pub record Lowest (m : ℕ → ℕ) (r : ℕ) : Type 0 where
  pub inside : r < 4
  pub never : (s : ℕ) → s < 4 → m s / 65536 ≡ 1 → ⊥
  pub there : m r / 65536 ≡ 0 → ⊥
  pub before : (s : ℕ) → s < r → m s / 65536 ≡ 0

or_no : (a b : Bool) → (a || b) ≡ false → (a ≡ false) × (b ≡ false)
or_no true b e = not_both true refl e
or_no false b e = (refl, e)

signs : (a b c d x : ℕ) → a % 65536 < 16 → b % 65536 < 16 → c % 65536 < 16 → d % 65536 < 16 → x ≡ a + b * 16 + c * 256 + d * 4096
    → x / 65536 ≡ a / 65536 + b / 65536 * 16 + c / 65536 * 256 + d / 65536 * 4096
signs a b c d x k l m n e = omega arith

-- the digits of signs
parts : (a b c d h : ℕ) → a ≤ 2 → b ≤ 2 → c ≤ 2 → d ≤ 2 → h ≡ a + b * 16 + c * 256 + d * 4096
    → (h % 16 ≡ a) × (h / 16 % 16 ≡ b) × (h / 256 % 16 ≡ c) × (h / 4096 % 16 ≡ d)
parts a b c d h k l m n e = (omega arith, omega arith, omega arith, omega arith)

module _ (m : ℕ → ℕ) (view : (s : ℕ) → s < 4 → Digit (m s)) (x : ℕ) (is : x ≡ m 0 + m 1 * 16 + m 2 * 256 + m 3 * 4096) where
  abbrev sign : ℕ → ℕ
  sign s = m s / 65536

  h_is : x / 65536 ≡ sign 0 + sign 1 * 16 + sign 2 * 256 + sign 3 * 4096
  h_is = signs (m 0) (m 1) (m 2) (m 3) x (view 0 (omega arith)).places (view 1 (omega arith)).places (view 2 (omega arith)).places
      (view 3 (omega arith)).places is

  digits : (x / 65536 % 16 ≡ sign 0) × (x / 65536 / 16 % 16 ≡ sign 1) × (x / 65536 / 256 % 16 ≡ sign 2) × (x / 65536 / 4096 % 16 ≡ sign 3)
  digits = parts (sign 0) (sign 1) (sign 2) (sign 3) (x / 65536) (view 0 (omega arith)).sign (view 1 (omega arith)).sign (view 2 (omega arith)).sign
      (view 3 (omega arith)).sign h_is

  at_place_below : (r : ℕ) → (0 < r → sign 0 ≡ 0) → (1 < r → sign 1 ≡ 0) → (2 < r → sign 2 ≡ 0) → r ≤ 3 → (s : ℕ) → s < r → sign s ≡ 0
  at_place_below r a b c u zero l = a l
  at_place_below r a b c u (suc zero) l = b l
  at_place_below r a b c u (suc (suc zero)) l = c l
  at_place_below r a b c u (suc (suc (suc s))) l = absurd (omega arith)

  pub lowest_over : over_in x < 4 → Lowest m (over_in x)
  unfolding over_of
  lowest_over = go _ _ _ _ _ refl refl refl refl refl
    where
      never : ((eqb (x / 65536 % 2) 1 || eqb (x / 65536 / 16 % 2) 1) || eqb (x / 65536 / 256 % 2) 1) || eqb (x / 65536 / 4096 % 2) 1 ≡ false
          → (s : ℕ) → s < 4 → sign s ≡ 1 → ⊥
      never e =
          let w = or_no _ _ e in
          let v = or_no _ _ w.0 in
          let u = or_no _ _ v.0 in
          at_place (λ s. sign s ≡ 1 → ⊥)
          (λ f. eqb-false (x / 65536 % 2) 1 u.0 (omega (arith, digits.0)))
          (λ f. eqb-false (x / 65536 / 16 % 2) 1 u.1 (omega (arith, digits.1)))
          (λ f. eqb-false (x / 65536 / 256 % 2) 1 v.1 (omega (arith, digits.2)))
          (λ f. eqb-false (x / 65536 / 4096 % 2) 1 w.1 (omega (arith, digits.3)))

      go : (o z0 z1 z2 z3 : Bool)
          → ((eqb (x / 65536 % 2) 1 || eqb (x / 65536 / 16 % 2) 1) || eqb (x / 65536 / 256 % 2) 1) || eqb (x / 65536 / 4096 % 2) 1 ≡ o
          → eqb (x / 65536 % 16) 0 ≡ z0 → eqb (x / 65536 / 16 % 16) 0 ≡ z1 → eqb (x / 65536 / 256 % 16) 0 ≡ z2 → eqb (x / 65536 / 4096 % 16) 0 ≡ z3
          → cond o 4 (cond z0 (cond z1 (cond z2 (cond z3 4 3) 2) 1) 0) < 4 → Lowest m (cond o 4 (cond z0 (cond z1 (cond z2 (cond z3 4 3) 2) 1) 0))
      go true z0 z1 z2 z3 e a b c d l = absurd (omega arith)
      go false false z1 z2 z3 e a b c d l = record {
        inside = l;
        never = never e;
        there = λ f. eqb-false _ 0 a (digits.0 ∙ f);
        before = λ s k. absurd (omega arith);
      }
      go false true false z2 z3 e a b c d l = record {
        inside = l;
        never = never e;
        there = λ f. eqb-false _ 0 b (digits.1 ∙ f);
        before = at_place_below 1 (λ _. sym digits.0 ∙ eqb-true _ 0 a) (λ k. absurd (omega arith)) (λ k. absurd (omega arith)) (omega arith);
      }
      go false true true false z3 e a b c d l = record {
        inside = l;
        never = never e;
        there = λ f. eqb-false _ 0 c (digits.2 ∙ f);
        before = at_place_below 2 (λ _. sym digits.0 ∙ eqb-true _ 0 a) (λ _. sym digits.1 ∙ eqb-true _ 0 b) (λ k. absurd (omega arith)) (omega arith);
      }
      go false true true true false e a b c d l = record {
        inside = l;
        never = never e;
        there = λ f. eqb-false _ 0 d (digits.3 ∙ f);
        before = at_place_below 3 (λ _. sym digits.0 ∙ eqb-true _ 0 a) (λ _. sym digits.1 ∙ eqb-true _ 0 b) (λ _. sym digits.2 ∙ eqb-true _ 0 c)
            (omega arith);
      }
      go false true true true true e a b c d l = absurd (omega arith)

-- ---- the marks of a row of at most four segments
abbrev pub marks_of : (ℕ → ℕ) → ℕ → ℕ → ℕ
marks_of r k s = cond (ltb s k) (segment_of r s).marks 0

pub four_marks : (r : ℕ → ℕ) (k : ℕ) → k ≤ 4 → glance_marks r k ≡ marks_of r k 0 + marks_of r k 1 * 16 + marks_of r k 2 * 256 + marks_of r k 3 * 4096
unfolding glance_marks
four_marks r zero l = refl
four_marks r (suc zero) l = omega arith
four_marks r (suc (suc zero)) l = omega arith
four_marks r (suc (suc (suc zero))) l = omega arith
four_marks r (suc (suc (suc (suc zero)))) l = omega arith
four_marks r (suc (suc (suc (suc (suc k))))) l = absurd (omega arith)
