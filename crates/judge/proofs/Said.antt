-- What the candidate's channels carry, in the numbers that the words tell.
use mathlib.Core.Path.{◌≡◌, refl, sym, ◌∙◌, ap, ap₂}
use mathlib.Core.Bool.{Bool, true, false, cond}
use mathlib.Core.List.{List}
use Prim.Native.Nat.{ℕ, ◌+◌, ◌-◌, ◌*◌, ◌/◌, ◌%◌, ◌^◌, ◌≤◌, ◌<◌}
use native.Mathlib.Decide.{ℕ_discrete}
use native.Mathlib.Nat.{mod-eq_of_lt}
use native.Mathlib.Omega.{arith}
use lib.Dec.{eqb}
use borrow.Author.Tests.{eq-eqb, ne_eqb}
use Rattle.answer.proofs.Lists.{build_cong}
use Rattle.bits.specs.Bits.{field}
use Rattle.bits.proofs.Fields.{field_lt, field_split}
use Rattle.block.specs.Check.{Right}
use Rattle.block.proofs.Word.{check_whole}
use Rattle.register.specs.Engine.{check_from}
use Rattle.resource.specs.Values.{fields_of}
use Rattle.channel.specs.Layout.{positions, present, first_bits, second_at, second_bits, has_second, subfields_in}
use Rattle.channel.specs.Layout.{value, row_at, row, total, count}
use Rattle.channel.proofs.Laws.{position_subfield, total_cong}
use Rattle.words.specs.Engine.{value_of}
use Rattle.candidate.specs.Engine.{first_of, second_of, overflow_in, value_in, count_in, candidate}
use Rattle.candidate.proofs.Held.{Holds, candidate_carries, holds_1, holds_2}
use Rattle.candidate.proofs.Said.{said_value, first_part, second_part_lem}
use Rattle.faults.proofs.Padding.{present_of}
use Rattle.judge.specs.Engine.{row_in}

-- ---- one channel that is there

module _ (bw : ℕ) (w : List ℕ) (c : ℕ) (h : Holds bw w c) where
  abbrev s : List ℕ
  s = candidate bw w c

  -- check and tail of a block together: the check of its number
  ten : (i n x : ℕ) → Right s i n → field s i n ≡ x → field s (i + n) 10 ≡ check_from 255 x n
  ten i n x r e =
      field_split s (i + n) 4 6
      ∙ ap₂ (λ (a b : ℕ). a + b * 2 ^ 4) r.checked r.ended
      ∙ omega arith
      ∙ sym (check_whole s i n x (rw (← e) (low s i n)))
    where
      low : (t : List ℕ) (i n : ℕ) → field t i n % 2 ^ n ≡ field t i n
      low t i n = mod-eq_of_lt (field_lt t i n)

  pub first_ten : field s (first_bits bw) 10 ≡ check_from 255 (first_of bw (overflow_in w) (value_in w c)) (first_bits bw)
  first_ten =
      let z : 0 + first_bits bw ≡ first_bits bw = omega arith in
      rw z at (ten 0 (first_bits bw) (first_of bw (overflow_in w) (value_in w c)) (candidate_carries bw w c h).common_right.first_right (first_part bw w c h))

  pub second_ten : has_second bw ≡ true → field s (second_at bw + second_bits bw) 10 ≡ check_from 255 (second_of bw (value_in w c)) (second_bits bw)
  second_ten e = ten (second_at bw) (second_bits bw) (second_of bw (value_in w c)) ((candidate_carries bw w c h).common_right.second_right e)
      (second_part_lem bw w c h)

-- ---- both channels

-- a channel that the bandwidth lacks has no field
count_absent : (bw c : ℕ) (w : List ℕ) → present bw c ≡ false → count bw c (candidate bw w c) ≡ count_in bw w c
unfolding count count_in subfields_in total
count_absent bw c w p = rw p refl

pub said_count : (bw : ℕ) (w : List ℕ) (c : ℕ) → (present bw c ≡ true → Holds bw w c) → count bw c (candidate bw w c) ≡ count_in bw w c
unfolding count count_in
said_count bw w c h = go (present bw c) refl
  where
    there : present bw c ≡ true → count bw c (candidate bw w c) ≡ count_in bw w c
    there p =
        total_cong (λ k. fields_of (value bw (candidate bw w c) k)) (λ k. fields_of (value_in w c k)) (subfields_in bw c)
        (λ k l. ap fields_of (said_value bw w c (h p) k l))

    go : (t : Bool) → present bw c ≡ t → count bw c (candidate bw w c) ≡ count_in bw w c
    go true p = there p
    go false p = count_absent bw c w p

module _ (bw : ℕ) (w : List ℕ) (l : bw ≤ 4) where
  abbrev a : List ℕ
  a = candidate bw w 1

  abbrev b : List ℕ
  b = candidate bw w 2

  pub count_1 : count bw 1 a ≡ count_in bw w 1
  count_1 = said_count bw w 1 (λ p. holds_1 bw w)

  pub count_2 : count bw 2 b ≡ count_in bw w 2
  count_2 = said_count bw w 2 (holds_2 bw w)

  row_at_lem : (p : ℕ) → p < positions bw → row_at bw a b p ≡ value_of w p
  unfolding row_at value_in
  row_at_lem p m = go (ℕ_discrete (p % 2) 0) (position_subfield bw p l m)
    where
      go : Dec (p % 2 ≡ 0) → p / 2 < subfields_in bw (1 + p % 2) → cond (eqb (p % 2) 0) (value bw a (p / 2)) (value bw b (p / 2)) ≡ value_of w p
      go (yes e) k =
          let f : 1 + p % 2 ≡ 1 = omega arith in
          let i : 2 * (p / 2) + (1 - 1) ≡ p = omega arith in
          rw (eq-eqb (p % 2) 0 e) (said_value bw w 1 (holds_1 bw w) (p / 2) (rw f at k) ∙ ap (value_of w) i)
      go (no d) k =
          let f : 1 + p % 2 ≡ 2 = omega arith in
          let i : 2 * (p / 2) + (2 - 1) ≡ p = omega arith in
          let m : p / 2 < subfields_in bw 2 = rw f at k in
          rw (ne_eqb (p % 2) 0 d) (said_value bw w 2 (holds_2 bw w (present_of bw 2 (p / 2) m)) (p / 2) m ∙ ap (value_of w) i)

  -- the row that the words tell is the candidate's
  pub row_is : row bw a b ≡ row_in bw w
  unfolding row row_in
  row_is = build_cong (row_at bw a b) (value_of w) (positions bw) row_at_lem
