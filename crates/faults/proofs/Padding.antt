-- What each check, value and count looks at (01: "What follows is padding, not looked at."): channels that agree up to
-- an end have the same outcome, whatever follows.
use mathlib.Core.Path.{◌≡◌, refl, ◌∙◌, ap}
use mathlib.Core.Bool.{Bool, true, false, cond, not, ◌&&◌}
use mathlib.Core.List.{List}
use Prim.Native.Nat.{ℕ, ◌+◌, ◌/◌, ◌%◌, ◌≤◌, ◌<◌}
use native.Mathlib.Omega.{arith}
use native.Mathlib.Decide.{ℕ_discrete}
use lib.Dec.{ltb, eqb}
use borrow.Author.Tests.{eq-eqb, ne_eqb}
use Rattle.answer.specs.Answer as A
use Rattle.answer.specs.Answer.{refuse_if, ◌or◌}
use Rattle.answer.specs.Least.{least}
use Rattle.answer.proofs.Lists.{build_cong}
use Rattle.answer.proofs.Least.{least_cong}
use Rattle.answer.specs.declared.Refusal.TheVariants.{WrongOverflow, ValueNotCarried, WrongUserCheck}
use Rattle.bits.specs.Bits.{bit, field, differs, Same}
use Rattle.bits.proofs.Fields.{field_ext}
use Rattle.block.specs.Check.{right}
use Rattle.block.proofs.Checks.{right_ext}
use Rattle.resource.specs.Values.{fields_of, carried}
use Rattle.channel.specs.Layout.{positions, present, ltf_symbols, first_bits, second_at, second_bits, has_second, common, subfields}
use Rattle.channel.specs.Layout.{subfields_in, value_at, value, row_at, row, count, total, user_at, block_at, blocks, covered, end_of}
use Rattle.channel.proofs.Laws.{first_inside, second_inside, common_ge, subfields_in_le, total_cong, position_subfield}
use Rattle.channel.proofs.Values.{value_inside}
use Rattle.channel.proofs.Blocks.{block_inside, user_end, end_after}
use Rattle.faults.specs.Checks.{wrong_first, wrong_second, wrong_common, overflow_differs, uncarried}
use Rattle.faults.specs.Checks.{first_uncarried, not_carried, wrong_block, first_wrong, wrong_users_of, wrong_users}

pub same_less : {s t : List ℕ} (n m : ℕ) → m ≤ n → Same s t n → Same s t m
same_less n m l h = record { same = λ i k. h.same i (omega arith) }

pub field_in : (s t : List ℕ) (n at m : ℕ) → Same s t n → at + m ≤ n → field s at m ≡ field t at m
field_in s t n at m h l = field_ext s t at at m (λ k j. h.same (at + k) (omega arith))

pub right_in : (s t : List ℕ) (n at m : ℕ) → Same s t n → at + m + 10 ≤ n → right s at m ≡ right t at m
right_in s t n at m h l = right_ext s t at at m (λ k j. h.same (at + k) (omega arith))

-- ---- the common field. A channel that the bandwidth lacks is not looked at at all.

-- channel c, where it is there, has the same common field in s and t
pub record Alike (bw c : ℕ) (s t : List ℕ) : Type 0 where
  pub alike : present bw c ≡ true → Same s t (common bw)

guarded_same : (t x y : Bool) → (t ≡ true → x ≡ y) → t && x ≡ t && y
guarded_same true x y h = h refl
guarded_same false x y h = refl

guarded_same2 : (t u x y : Bool) → (t ≡ true → u ≡ true → x ≡ y) → t && u && x ≡ t && u && y
guarded_same2 true true x y h = h refl refl
guarded_same2 true false x y h = refl
guarded_same2 false u x y h = refl

pub wrong_common_same : (bw c : ℕ) (s t : List ℕ) → Alike bw c s t → wrong_common bw c s ≡ wrong_common bw c t
unfolding wrong_common wrong_first wrong_second
wrong_common_same bw c s t h =
    let f : present bw c && not (right s 0 (first_bits bw)) ≡ present bw c && not (right t 0 (first_bits bw)) =
    guarded_same (present bw c) _ _ (λ p. ap not (right_in s t (common bw) 0 (first_bits bw) (h.alike p) (omega (arith, first_inside bw)))) in
    let g : present bw c && has_second bw && not (right s (second_at bw) (second_bits bw))
    ≡ present bw c && has_second bw && not (right t (second_at bw) (second_bits bw)) =
    guarded_same2 (present bw c) (has_second bw) _ _
    (λ p q. ap not (right_in s t (common bw) (second_at bw) (second_bits bw) (h.alike p) (omega (arith, second_inside bw q)))) in
    rw (f, g)

-- a channel that has a subfield is there
pub present_of : (bw c k : ℕ) → k < subfields_in bw c → present bw c ≡ true
unfolding subfields_in
present_of bw c k l = go (present bw c) l
  where
    go : (t : Bool) → k < cond t (subfields bw) 0 → t ≡ true
    go true m = refl
    go false m = absurd (omega arith)

pub value_same : (bw c : ℕ) (s t : List ℕ) → Alike bw c s t → (k : ℕ) → k < subfields_in bw c → value bw s k ≡ value bw t k
unfolding value
value_same bw c s t h k l =
    field_in s t (common bw) (value_at bw k) 9 (h.alike (present_of bw c k l)) (value_inside bw k (omega (arith, subfields_in_le bw c)))

pub not_carried_same : (bw c : ℕ) (s t : List ℕ) → Alike bw c s t → not_carried bw c s ≡ not_carried bw c t
unfolding not_carried first_uncarried uncarried
not_carried_same bw c s t h =
    let e : least (uncarried bw s) (subfields_in bw c) ≡ least (uncarried bw t) (subfields_in bw c) =
    least_cong (uncarried bw s) (uncarried bw t) (subfields_in bw c) (λ k l. ap (λ (v : ℕ). not (carried v)) (value_same bw c s t h k l)) in
    ap (λ (k : ℕ). refuse_if (ltb k (subfields_in bw c)) (ValueNotCarried c (value_at bw k))) e

pub count_same : (bw c : ℕ) (s t : List ℕ) → Alike bw c s t → count bw c s ≡ count bw c t
unfolding count
count_same bw c s t h =
    total_cong (λ k. fields_of (value bw s k)) (λ k. fields_of (value bw t k)) (subfields_in bw c) (λ k l. ap fields_of (value_same bw c s t h k l))

-- ---- both channels

module _ (bw : ℕ) (a b a' b' : List ℕ) (h1 : Alike bw 1 a a') (h2 : Alike bw 2 b b') where
  symbols_same : present bw 1 ≡ true → ltf_symbols a ≡ ltf_symbols a'
  symbols_same p = field_in a a' (common bw) 6 3 (h1.alike p) (omega (arith, common_ge bw))

  differs_same : present bw 1 ≡ true → present bw 2 ≡ true → least (differs a b) 17 ≡ least (differs a' b') 17
  unfolding differs
  differs_same p q =
      least_cong (differs a b) (differs a' b') 17 (λ k l.
      let x : bit a k ≡ bit a' k = (h1.alike p).same k (omega (arith, common_ge bw)) in
      let y : bit b k ≡ bit b' k = (h2.alike q).same k (omega (arith, common_ge bw)) in
      rw (x, y))

  pub overflow_differs_same : overflow_differs bw a b ≡ overflow_differs bw a' b'
  unfolding overflow_differs present
  overflow_differs_same = rw (symbols_same refl) (go (present bw 2) refl)
    where
      go : (t : Bool) → present bw 2 ≡ t
          → refuse_if (ltb 4 (ltf_symbols a')) (WrongOverflow 1 6) or refuse_if (t && ltb (least (differs a b) 17) 17) (WrongOverflow 2 (least
          (differs a b) 17))
          ≡ refuse_if (ltb 4 (ltf_symbols a')) (WrongOverflow 1 6) or refuse_if (t && ltb (least (differs a' b') 17) 17) (WrongOverflow 2 (least
          (differs a' b') 17))
      go true p = rw (differs_same refl p)
      go false p = refl

  row_same_at : bw ≤ 4 → (p : ℕ) → p < positions bw → row_at bw a b p ≡ row_at bw a' b' p
  unfolding row_at
  row_same_at l p m = go (ℕ_discrete (p % 2) 0)
    where
      k : p / 2 < subfields_in bw (1 + p % 2)
      k = position_subfield bw p l m

      even : p % 2 ≡ 0 → value bw a (p / 2) ≡ value bw a' (p / 2)
      even e = let f : 1 + p % 2 ≡ 1 = omega arith in value_same bw 1 a a' h1 (p / 2) (rw f at k)

      odd : (p % 2 ≡ 0 → ⊥) → value bw b (p / 2) ≡ value bw b' (p / 2)
      odd d = let f : 1 + p % 2 ≡ 2 = omega arith in value_same bw 2 b b' h2 (p / 2) (rw f at k)

      go : Dec (p % 2 ≡ 0)
          → cond (eqb (p % 2) 0) (value bw a (p / 2)) (value bw b (p / 2)) ≡ cond (eqb (p % 2) 0) (value bw a' (p / 2)) (value bw b' (p / 2))
      go (yes e) = rw (eq-eqb (p % 2) 0 e) (even e)
      go (no d) = rw (ne_eqb (p % 2) 0 d) (odd d)

  pub row_same : bw ≤ 4 → row bw a b ≡ row bw a' b'
  unfolding row
  row_same l = build_cong (row_at bw a b) (row_at bw a' b') (positions bw) (row_same_at l)

-- ---- the User blocks

-- channel c, where it is there, is the same up to its last block's end
pub record AlikeToEnd (bw c : ℕ) (s t : List ℕ) : Type 0 where
  pub to_end : present bw c ≡ true → Same s t (end_of bw (count bw c s))

pub alike_of : (bw c : ℕ) (s t : List ℕ) → AlikeToEnd bw c s t → Alike bw c s t
alike_of bw c s t h = record { alike = λ p. same_less _ _ (end_after bw (count bw c s)) (h.to_end p) }

-- only a channel that is there has fields
pub present_count : (bw c : ℕ) (s : List ℕ) → 0 < count bw c s → present bw c ≡ true
unfolding count subfields_in total
present_count bw c s l = go (present bw c) l
  where
    go : (t : Bool) → 0 < total (λ k. fields_of (value bw s k)) (cond t (subfields bw) 0) → t ≡ true
    go true m = refl
    go false m = absurd (omega arith)

blocks_some : (n b : ℕ) → b < blocks n → 0 < n
unfolding blocks
blocks_some n b l = omega arith

pub wrong_users_same : (bw c : ℕ) (s t : List ℕ) → AlikeToEnd bw c s t → wrong_users bw c s ≡ wrong_users bw c t
unfolding wrong_users wrong_users_of first_wrong wrong_block
wrong_users_same bw c s t h =
    let n = count bw c s in
    let e : least (wrong_block bw s n) (blocks n) ≡ least (wrong_block bw t n) (blocks n) =
    least_cong (wrong_block bw s n) (wrong_block bw t n) (blocks n) (λ b l.
    ap not (right_in s t (end_of bw n) (block_at bw b) (covered n b)
    (h.to_end (present_count bw c s (blocks_some n b l))) (block_inside bw n b l))) in
    ap (λ (b : ℕ). refuse_if (ltb b (blocks n)) (WrongUserCheck c (block_at bw b + covered n b))) e
    ∙ ap (wrong_users_of bw c t) (count_same bw c s t (alike_of bw c s t h))

pub user_same : (bw c : ℕ) (s t : List ℕ) → AlikeToEnd bw c s t → (i : ℕ) → i < count bw c s → field s (user_at bw i) 22 ≡ field t (user_at bw i) 22
user_same bw c s t h i l =
    field_in s t (end_of bw (count bw c s)) (user_at bw i) 22
    (h.to_end (present_count bw c s (omega arith))) (omega (arith, user_end bw (count bw c s) i l))
