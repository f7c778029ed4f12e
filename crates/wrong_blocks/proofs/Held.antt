-- 4 of the numbers that hold the common fields is 4 of the channels: where it passes, and its place.
use mathlib.Core.Path.{◌≡◌, refl, sym, ◌∙◌, ap₂}
use mathlib.Core.Bool.{Bool, true, false, cond, not, ◌&&◌, false≢true}
use mathlib.Core.List.{List}
use Prim.Native.Nat.{ℕ, ◌+◌, ◌≤◌, ◌<◌}
use native.Mathlib.Omega.{arith}
use borrow.Author.Tests.{lt-ltb, le-ltb, ne_eqb}
use Rattle.answer.specs.Answer as A
use Rattle.answer.specs.Answer.{refuse_if, ◌or◌}
use Rattle.answer.specs.declared.Refusal.TheVariants.{WrongCommonCheck}
use Rattle.std.specs.Prelude.{Ok, Err}
use Rattle.register.specs.Engine.{right_of}
use Rattle.block.specs.Check.{right}
use Rattle.block.proofs.Word.{right_whole}
use Rattle.channel.specs.Layout.{present, firsts, seconds, first_bits, second_at, second_bits, has_second}
use Rattle.channel.specs.declared.Parts.{Parts}
use Rattle.channel.specs.Engine.{first_part, second_part, parts_of}
use Rattle.channel.proofs.Laws.{present_1, present_wide, absent_2}
use Rattle.channel.proofs.Held.{first_low, second_low}
use Rattle.faults.specs.Checks.{wrong_first, wrong_second, wrong_common}
use Rattle.faults.proofs.Passing.{pass_wrong_common}
use Rattle.wrong_blocks.specs.Engine.{second_right, wrong_held, wrong_parts}

-- ---- the widths, by code

pub first_narrow : (bw : ℕ) → bw < 2 → first_bits bw ≡ 26
unfolding first_bits firsts
first_narrow bw l = rw (lt-ltb bw 2 l)

pub first_wide : (bw : ℕ) → 2 ≤ bw → first_bits bw ≡ 35
unfolding first_bits firsts
first_wide bw l = rw (le-ltb bw 2 l)

-- whether there is a second part
has_none : (bw : ℕ) → bw < 3 → has_second bw ≡ false
unfolding has_second seconds
has_none bw l = rw (ne_eqb bw 3 (λ e. omega arith), ne_eqb bw 4 (λ e. omega arith)) refl

-- the test of the second part, by code
module _ (bw z : ℕ) where
  pub tested_none : bw < 3 → true ≡ second_right bw z
  unfolding second_right
  tested_none l = rw (has_none bw l)

  pub tested_160 : bw ≡ 3 → right_of z 18 ≡ second_right bw z
  unfolding second_right has_second second_bits seconds
  tested_160 e = rw e refl

  pub tested_320 : bw ≡ 4 → right_of z 54 ≡ second_right bw z
  unfolding second_right has_second second_bits seconds
  tested_320 e = rw e refl

-- ---- 4, place and all: the first part that is wrong gives the answer

module _ (bw : ℕ) (p : Parts) where
  pub wrong_first_lem : right_of p.first1 (first_bits bw) ≡ false → Err (WrongCommonCheck 1 (first_bits bw)) ≡ wrong_parts bw p
  unfolding wrong_parts wrong_held
  wrong_first_lem e = rw e refl

  module _ (f : right_of p.first1 (first_bits bw) ≡ true) where
    pub right_20 : bw ≡ 0 → Ok tt ≡ wrong_parts bw p
    unfolding wrong_parts wrong_held
    right_20 e =
        let n : present bw 2 ≡ false = rw e absent_2 in
        let s : second_right bw p.second1 ≡ true = sym (tested_none bw p.second1 (omega arith)) in
        rw (f, n, s) refl

    pub wrong_second_lem : second_right bw p.second1 ≡ false → Err (WrongCommonCheck 1 (second_at bw + second_bits bw)) ≡ wrong_parts bw p
    unfolding wrong_parts wrong_held
    wrong_second_lem e = rw (f, e) refl

    module _ (s : second_right bw p.second1 ≡ true) (d : bw ≡ 0 → ⊥) where
      there : present bw 2 ≡ true
      there = present_wide bw 2 (omega arith)

      pub wrong_first_2 : right_of p.first2 (first_bits bw) ≡ false → Err (WrongCommonCheck 2 (first_bits bw)) ≡ wrong_parts bw p
      unfolding wrong_parts wrong_held
      wrong_first_2 e = rw (f, s, there, e) refl

      pub wrong_second_2 : right_of p.first2 (first_bits bw) ≡ true
          → refuse_if (not (second_right bw p.second2)) (WrongCommonCheck 2 (second_at bw + second_bits bw)) ≡ wrong_parts bw p
      unfolding wrong_parts wrong_held
      wrong_second_2 e = rw (f, s, there, e) refl

-- a channel's parts are wrong where 4 says so
second_common : (bw : ℕ) (s : List ℕ) (t : Bool) → has_second bw ≡ t
    → not (second_right bw (second_part bw s)) ≡ has_second bw && not (right s (second_at bw) (second_bits bw))
unfolding second_right
second_common bw s true h = rw (h, right_whole s (second_at bw) (second_bits bw) (second_part bw s) (second_low bw s h)) refl
second_common bw s false h = rw h refl

held_common : (bw c : ℕ) (s : List ℕ) → present bw c ≡ true → wrong_held bw c (first_part bw s) (second_part bw s) ≡ wrong_common bw c s
unfolding wrong_held wrong_common wrong_first wrong_second
held_common bw c s e =
    let f = right_whole s 0 (first_bits bw) (first_part bw s) (unfold second_at in first_low bw s) in
    rw (e, f, second_common bw s (has_second bw) refl) refl

absent_pass : (bw c : ℕ) (s : List ℕ) → present bw c ≡ false → wrong_common bw c s ≡ Ok tt
absent_pass bw c s e = pass_wrong_common bw c s (λ p. absurd (false≢true (sym e ∙ p)))

-- so 4 of the numbers is 4 of the channels, its place too
pub parts_wrong : (bw : ℕ) (a b : List ℕ) → wrong_parts bw (parts_of bw a b) ≡ (wrong_common bw 1 a or wrong_common bw 2 b)
unfolding wrong_parts parts_of
parts_wrong bw a b = ap₂ ◌or◌ (held_common bw 1 a (present_1 bw)) (two (present bw 2) refl)
  where
    two : (t : Bool) → present bw 2 ≡ t
        → cond (present bw 2) (wrong_held bw 2 (cond (present bw 2) (first_part bw b) 0) (second_part bw b)) (Ok tt) ≡ wrong_common bw 2 b
    two true e = rw e (held_common bw 2 b e)
    two false e = rw e (sym (absent_pass bw 2 b e))
