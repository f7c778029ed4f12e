-- The candidate is the inverse of reading: channels that are accepted are the candidate of their words up to their ends,
-- so words are read back from the candidate exactly where any channels read to them.
use mathlib.Core.Path.{◌≡◌, refl, sym, ◌∙◌, ap, subst}
use mathlib.Core.Bool.{Bool, true, false}
use mathlib.Core.List.{List}
use Prim.Native.Nat.{ℕ, ◌+◌, ◌*◌, ◌%◌, ◌^◌, ◌≤◌, ◌<◌}
use native.Mathlib.Nat.{mod-eq_of_lt}
use native.Mathlib.Omega.{arith}
use lib.ListN.{length, get_or, take}
use lib.Seq.{get_or-take}
use borrow.Author.Tests.{ltb-false}
use Rattle.answer.specs.Answer.{passes}
use Rattle.std.specs.Prelude.{Ok}
use Rattle.answer.proofs.First.{first_pass, pass_first}
use Rattle.answer.proofs.Every.{both_left, both_right}
use Rattle.answer.proofs.Order.{pass_left, pass_right, pass_if, passes_true}
use Rattle.bits.specs.Bits.{bit, field, Same}
use Rattle.bits.proofs.Fields.{field_lt}
use Rattle.block.specs.Check.{Right}
use Rattle.resource.specs.Values.{fields_of}
use Rattle.channel.specs.Layout.{present, overflow, subfields_in, value, count, user_at, block_at, blocks, covered, end_of}
use Rattle.channel.proofs.Laws.{place_1, place_2, present_1, total_cong, value_lt}
use Rattle.faults.specs.Checks.{wrong_common, wrong_users}
use Rattle.faults.proofs.Passing.{CommonRight, wrong_common_pass, overflow_differs_pass, wrong_users_pass}
use Rattle.answer.specs.Lists.{at}
use Rattle.words.specs.Engine.{value_of, user_field}
use Rattle.halves.specs.Table.{check1, check4, check5, check10, checks11, outcome11}
use Rattle.frame_words.specs.Words.{words_of}
use Rattle.frame_words.proofs.Determine.{overflow_back, value_back, user_back_1, user_back_2, value_1, value_2}
use Rattle.reader.specs.Padding.{Agree, Nine}
use Rattle.reader.proofs.Padding.{outcome11_same, words_same}
use Rattle.candidate.specs.Engine.{overflow_in, value_in, count_in, first_in, field_in, needed, candidate}
use Rattle.candidate.specs.Length.{bytes_for}
use Rattle.candidate.proofs.Contents.{determined}
use Rattle.candidate.proofs.Held.{needed_1, needed_2, needed_le, present_length, absent_length, Holds, ContentsSaid}
use Rattle.candidate.proofs.Held.{all_subfields, candidate_carries, candidate_zero, holds_1, holds_2}
use Rattle.judge.specs.Engine.{same_words}
use Rattle.judge.proofs.Decided.{same_words_says, says_same_words}
use Rattle.judge.specs.Engine.{reads_to}
use Rattle.writer.specs.Worked.{ReadsTo}

-- ---- channels that the words speak of

-- s, as channel c, is what the words say, with every check and tail right
pub record Said (bw : ℕ) (w : List ℕ) (c : ℕ) (s : List ℕ) : Type 0 where
  pub said_overflow : overflow s ≡ overflow_in w
  pub said_value : (k : ℕ) → k < subfields_in bw c → value bw s k ≡ value_in w c k
  pub said_field : (i : ℕ) → i < count_in bw w c → field s (user_at bw i) 22 ≡ field_in bw w c i
  pub said_common : CommonRight bw s
  pub said_block : (b : ℕ) → b < blocks (count_in bw w c) → Right s (block_at bw b) (covered (count_in bw w c) b)

cut : (x y m : ℕ) → x < m → x ≡ y → x ≡ y % m
cut x y m l e = let z : y % m ≡ y = mod-eq_of_lt (rw e at l) in e ∙ sym z

module _ (bw : ℕ) (w : List ℕ) (c : ℕ) (s : List ℕ) (h : Holds bw w c) (q : Said bw w c s) where
  said_carries : ContentsSaid bw w c s
  said_carries =
      record {
        the_overflow = cut (overflow s) (overflow_in w) (2 ^ 17) (field_lt s 0 17) q.said_overflow;
        the_value = λ k l. cut (value bw s k) (value_in w c k) (2 ^ 9) (value_lt bw s k) (q.said_value k (rw (all_subfields bw w c h) l));
        the_field = λ i l. cut (field s (user_at bw i) 22) (field_in bw w c i) (2 ^ 22) (field_lt s (user_at bw i) 22) (q.said_field i l);
        common_right = q.said_common;
        block_right = q.said_block;
      }

  -- it is the candidate up to its end
  pub said_same : Same s (candidate bw w c) (end_of bw (count_in bw w c))
  said_same =
      determined bw (overflow_in w % 2 ^ 17) (λ k. value_in w c k % 2 ^ 9) (count_in bw w c) (λ i. field_in bw w c i % 2 ^ 22)
      s (candidate bw w c) said_carries (candidate_carries bw w c h)

-- ---- accepted channels

module _ (bw : ℕ) (a b : List ℕ) (e : outcome11 bw a b ≡ Ok tt) where
  each : (k : ℕ) → get_or (checks11 bw a b) k (Ok tt) ≡ Ok tt
  unfolding outcome11
  each = first_pass (checks11 bw a b) e

  pub accepted_known : bw ≤ 4
  unfolding check1
  accepted_known = ltb-false 4 bw (pass_if _ _ (each 0))

  nine : Nine bw a b
  nine = record { passed = pass_first (take 9 (checks11 bw a b)) (λ k l. get_or-take 9 (checks11 bw a b) k (Ok tt) l ∙ each k) }

  abbrev w : List ℕ
  w = words_of bw a b

  value_in_1 : (k : ℕ) → k < subfields_in bw 1 → value bw a k ≡ value_in w 1 k
  unfolding value_in
  value_in_1 k l =
      sym (value_1 bw a b k)
      ∙ sym (value_back bw a b accepted_known (2 * k) (place_1 bw k accepted_known l))
      ∙ ap (value_of w) (omega arith)

  value_in_2 : (k : ℕ) → k < subfields_in bw 2 → value bw b k ≡ value_in w 2 k
  unfolding value_in
  value_in_2 k l =
      sym (value_2 bw a b k)
      ∙ sym (value_back bw a b accepted_known (2 * k + 1) (place_2 bw k accepted_known l))

  count_in_1 : count bw 1 a ≡ count_in bw w 1
  unfolding count count_in
  count_in_1 = total_cong (λ k. fields_of (value bw a k)) (λ k. fields_of (value_in w 1 k)) (subfields_in bw 1) (λ k l. ap fields_of (value_in_1 k l))

  count_in_2 : count bw 2 b ≡ count_in bw w 2
  unfolding count count_in
  count_in_2 = total_cong (λ k. fields_of (value bw b k)) (λ k. fields_of (value_in w 2 k)) (subfields_in bw 2) (λ k l. ap fields_of (value_in_2 k l))

  said_1 : Said bw w 1 a
  unfolding check4 check10 overflow_in field_in first_in
  said_1 =
      record {
        said_overflow = sym (overflow_back bw a b);
        said_value = value_in_1;
        said_field = λ i l. sym (user_back_1 bw a b i (omega (arith, count_in_1)));
        said_common = wrong_common_pass bw 1 a (pass_left (wrong_common bw 1 a) (wrong_common bw 2 b) (each 3)) (present_1 bw);
        said_block = subst (λ (n : ℕ). (i : ℕ) → i < blocks n → Right a (block_at bw i) (covered n i)) count_in_1
            (wrong_users_pass bw 1 a (pass_left (wrong_users bw 1 a) (wrong_users bw 2 b) (each 9)));
      }

  said_2 : present bw 2 ≡ true → Said bw w 2 b
  unfolding check4 check5 check10 overflow_in field_in first_in
  said_2 p =
      record {
        said_overflow = sym ((overflow_differs_pass bw a b (each 4)).overflow_same p) ∙ sym (overflow_back bw a b);
        said_value = value_in_2;
        said_field = λ i l.
            sym (user_back_2 bw a b i (omega (arith, count_in_2)))
            ∙ ap (λ (n : ℕ). user_field (at w (10 + n + i))) count_in_1;
        said_common = wrong_common_pass bw 2 b (pass_right (wrong_common bw 1 a) (wrong_common bw 2 b) (each 3)) p;
        said_block = subst (λ (n : ℕ). (i : ℕ) → i < blocks n → Right b (block_at bw i) (covered n i)) count_in_2
            (wrong_users_pass bw 2 b (pass_right (wrong_users bw 1 a) (wrong_users bw 2 b) (each 9)));
      }

  -- up to its own end each channel that is there is the candidate of the words
  pub same_1 : Same a (candidate bw w 1) (end_of bw (count bw 1 a))
  same_1 = rw count_in_1 (said_same bw w 1 a (holds_1 bw w) said_1)

  pub same_2 : present bw 2 ≡ true → Same b (candidate bw w 2) (end_of bw (count bw 2 b))
  same_2 p = rw count_in_2 (said_same bw w 2 b (holds_2 bw w p) (said_2 p))

  -- and past it the candidate is zero
  pub zero_1 : (i : ℕ) → end_of bw (count bw 1 a) ≤ i → bit (candidate bw w 1) i ≡ 0
  zero_1 = rw count_in_1 (candidate_zero bw w 1 (holds_1 bw w))

  pub zero_2 : present bw 2 ≡ true → (i : ℕ) → end_of bw (count bw 2 b) ≤ i → bit (candidate bw w 2) i ≡ 0
  zero_2 p = rw count_in_2 (candidate_zero bw w 2 (holds_2 bw w p))

  -- the bytes of each: "just enough for the longer"
  pub needed_of : needed bw w ≡ bytes_for bw (count bw 1 a) (count bw 2 b)
  unfolding needed
  needed_of = rw (count_in_1, count_in_2)

  -- which reach each channel's own end
  pub reach_1 : end_of bw (count bw 1 a) ≤ 8 * needed bw w
  reach_1 = rw count_in_1 (needed_1 bw w)

  pub reach_2 : end_of bw (count bw 2 b) ≤ 8 * needed bw w
  reach_2 = rw count_in_2 (needed_2 bw w)

  candidate_short : (c : ℕ) → length (candidate bw w c) ≤ 512
  candidate_short c = go (present bw c) refl
    where
      go : (t : Bool) → present bw c ≡ t → length (candidate bw w c) ≤ 512
      go true p = omega (arith, present_length bw w c p, needed_le bw w)
      go false p = omega (arith, absent_length bw w c p)

  candidate_agrees : Agree bw a b (candidate bw w 1) (candidate bw w 2)
  candidate_agrees =
      record {
        first = record {
          short = candidate_short 1;
          empty = absent_length bw w 1;
          reach = λ p. rw count_in_1 (omega (arith, needed_1 bw w, present_length bw w 1 p));
          agree = λ p. same_1;
        };
        second = record {
          short = candidate_short 2;
          empty = absent_length bw w 2;
          reach = λ p. rw count_in_2 (omega (arith, needed_2 bw w, present_length bw w 2 p));
          agree = same_2;
        };
      }

  -- so the candidate is accepted with the same words
  pub candidate_accepted : outcome11 bw (candidate bw w 1) (candidate bw w 2) ≡ Ok tt
  candidate_accepted = sym (outcome11_same nine candidate_agrees) ∙ e

  pub candidate_words : words_of bw (candidate bw w 1) (candidate bw w 2) ≡ w
  candidate_words = sym (words_same nine candidate_agrees)

-- ---- 13's question

pub reads_to_says : (bw : ℕ) (a b w : List ℕ) → reads_to bw a b w ≡ true → ReadsTo bw a b w
unfolding reads_to
reads_to_says bw a b w e =
    let p = passes (outcome11 bw a b) in
    let q = same_words (words_of bw a b) w in
    record { accepted = passes_true (outcome11 bw a b) (both_left p q e); the_words = same_words_says (words_of bw a b) w (both_right p q e) }

pub says_reads_to : (bw : ℕ) (a b w : List ℕ) → ReadsTo bw a b w → reads_to bw a b w ≡ true
unfolding reads_to
says_reads_to bw a b w r = rw r.accepted (says_same_words (words_of bw a b) w r.the_words)

-- where any channels read to the words, the candidate does
pub candidate_reads : (bw : ℕ) (a b w : List ℕ) → ReadsTo bw a b w → ReadsTo bw (candidate bw w 1) (candidate bw w 2) w
candidate_reads bw a b w r =
    let e = r.accepted in
    subst (λ (v : List ℕ). ReadsTo bw (candidate bw v 1) (candidate bw v 2) v) r.the_words
    (record { accepted = candidate_accepted bw a b e; the_words = candidate_words bw a b e })
