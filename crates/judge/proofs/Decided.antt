-- The candidate's channels are accepted and read to the words exactly where the words are told.
use mathlib.Core.Path.{◌≡◌, refl, sym, ◌∙◌, ap, ap₂}
use mathlib.Core.Bool.{Bool, true, false, cond, not}
use mathlib.Core.List.{List, [], ◌∷◌, ◌++◌}
use Prim.Native.Nat.{ℕ, zero, suc, ◌+◌, ◌-◌, ◌*◌, ◌/◌, ◌%◌, ◌^◌, ◌≤◌, ◌<◌}
use native.Mathlib.Decide.{dec_lt}
use native.Mathlib.Nat.{div-one}
use native.Mathlib.Omega.{arith}
use lib.Pow.{pow_pos}
use lib.Dec.{eqb, ltb}
use lib.ListN.{length, get_or-append}
use lib.Seq.{ext_get_or}
use borrow.Author.Tests.{lt-ltb, le-ltb, ltb-true, ltb-false, eqb-true, eq-eqb, not-false}
use Rattle.answer.specs.Answer.{refuse_if, passes, ◌or◌}
use Rattle.answer.specs.Decides.{Decides}
use Rattle.answer.specs.Least.{least}
use Rattle.answer.specs.Lists.{at}
use Rattle.std.specs.Prelude.{Ok}
use Rattle.answer.proofs.Every.{both_left, both_right, all_every}
use Rattle.answer.proofs.Least.{least_none, least_all}
use Rattle.answer.proofs.Lists.{get_d_build}
use Rattle.answer.proofs.Order.{pass_left, pass_right, or_pass, pass_if, if_pass, passes_true}
use Rattle.bits.specs.Bits.{field}
use Rattle.bits.specs.Pack.{pack, unpack, Fit}
use Rattle.bits.proofs.Fields.{field_part}
use Rattle.bits.proofs.Pack.{unpack_pack, unpack_fit}
use Rattle.bits.proofs.Windows.{field_low}
use Rattle.register.specs.Engine.{check_from}
use Rattle.plan.specs.Engine.{plan_outcome}
use Rattle.channel.specs.Fields.{overflow_widths}
use Rattle.channel.specs.Layout.{positions, present, first_bits, second_at, second_bits, has_second, ltf_symbols, row, count}
use Rattle.channel.specs.Layout.{user_at, user, end_of}
use Rattle.channel.proofs.Laws.{present_1, row_length}
use Rattle.channel.proofs.Blocks.{end_after}
use Rattle.faults.proofs.Padding.{present_count}
use Rattle.faults.proofs.Passing.{pass_too_long, pass_cut_common, pass_overflow_differs, overflow_differs_pass, pass_cut_users}
use Rattle.stations.specs.Stations.{station_at, station_of, station_place, first_repeated, station_twice}
use Rattle.stations.specs.Engine.{any_repeated}
use Rattle.stations.proofs.Gathered.{repeat_cong}
use Rattle.header_values.specs.Header.{known}
use Rattle.words.specs.Words.{data0_widths, data0_of, overflow_word, value_slot, first_word, triple_word, second_word, user_word}
use Rattle.words.specs.Engine.{overflow_of, value_of, user_field}
use Rattle.words.proofs.Laws.{overflow_word_lt}
use Rattle.halves.specs.Table.{check1, check2, check3, check5, check6, check9, check10, check11, outcome6, outcome11}
use Rattle.halves.specs.Engine.{all_carried, outcome9to11}
use Rattle.halves.proofs.Carried.{carried_passes}
use Rattle.halves.proofs.Stages.{outcome11_stages}
use Rattle.frame_words.specs.Words.{position_in, giver, shared_at, user_word_at, user_words, header_of, words_of_row, words_of, word_count}
use Rattle.frame_words.proofs.Determine.{words_length, word_1, word_2}
use Rattle.candidate.specs.Engine.{second_of, overflow_in, value_in, count_in, first_in, field_in, needed, candidate}
use Rattle.candidate.proofs.Held.{needed_1, needed_2, needed_le, present_length, absent_length, holds_1, holds_2}
use Rattle.judge.specs.Engine.{unlike, same_words}
use Rattle.judge.specs.Engine.{reads_to, slot_of, first_from, three_from, Header, row_in, first_check, second_check}
use Rattle.judge.specs.Engine.{format_in, Formatted, station_on, Told}
use Rattle.candidate.proofs.Said.{said_overflow, said_field}
use Rattle.judge.proofs.Said.{first_ten, second_ten, count_1, count_2, row_is}
use Rattle.judge.proofs.Words.{decides, few_size, top_part, formatted_made, made_formatted, station_bits}
use Rattle.judge.proofs.Steps.{value_at, has_second_lem}
use Rattle.plan.proofs.Carried.{plan_carried}
use Rattle.judge.proofs.Sealed.{candidate_sealed}

-- ---- the header, remade from its own words

slot_is : (row : ℕ → ℕ) (n q x : ℕ) → (q < n → row q ≡ x % 2 ^ 9) → value_slot row n q ≡ slot_of (ltb q n) x
unfolding value_slot
slot_is row n q x h = go (ltb q n) refl
  where
    go : (t : Bool) → ltb q n ≡ t → cond t (pack (9 ∷ 1 ∷ []) (row q % 2 ^ 9 ∷ 1 ∷ [])) 0 ≡ cond t (x % 2 ^ 9 + 512) 0
    go true e = let f = h (ltb-true q n e) in omega arith
    go false e = refl

data0_fit : (v t : ℕ) → t < 2 ^ 10 → Fit data0_widths (data0_of (unpack overflow_widths v) t)
data0_fit v t l =
    let u = unpack_fit overflow_widths v in
    let g = few_size (at (unpack overflow_widths v) 1) u.1.0 in
    (omega arith, (u.0, (g.0, (g.1, (u.1.1.0, (u.1.1.1.0, (u.1.1.1.1.0, (u.1.1.1.1.1.0, (u.1.1.1.1.1.1.0, (l, tt))))))))))

-- the check and tail of data[0]
overflow_top : (v t : ℕ) → t < 2 ^ 10 → overflow_word v t / 2 ^ 22 ≡ t
overflow_top v t l =
    sym (top_part (overflow_word v t) (overflow_word_lt v t l))
    ∙ unfold overflow_word in ap (λ (vs : List ℕ). at vs 9) (unpack_pack data0_widths (data0_of (unpack overflow_widths v) t) (data0_fit v t l))

check_small : (r x n : ℕ) → check_from r x n < 2 ^ 10
unfolding check_from
check_small r x n = omega arith

module _ (bw : ℕ) (w : List ℕ) (l : bw ≤ 4) where
  abbrev a : List ℕ
  a = candidate bw w 1

  abbrev b : List ℕ
  b = candidate bw w 2

  abbrev r : List ℕ
  r = row bw a b

  abbrev n : ℕ
  n = positions bw

  abbrev c1 : ℕ
  c1 = count_in bw w 1

  abbrev c2 : ℕ
  c2 = count_in bw w 2

  at_row : (q : ℕ) → q < n → at r q ≡ value_of w q
  at_row q m = ap (λ (z : List ℕ). at z q) (row_is bw w l) ∙ unfold row_in in get_d_build (value_of w) n q 0 m

  triple_is : (k : ℕ) → triple_word (at r) (length r) (1 + 3 * k) ≡ three_from (1 + 3 * k) n (at w (3 + k))
  unfolding triple_word three_from
  triple_is k =
      let p = 1 + 3 * k in
      let x = at w (3 + k) in
      let e : value_slot (at r) n p ≡ slot_of (ltb p n) x =
      slot_is (at r) n p x (λ m. at_row p m ∙ value_at w k 0 p (omega arith) (omega arith) ∙ ap (λ (y : ℕ). y % 2 ^ 9) (div-one x)) in
      let f : value_slot (at r) n (p + 1) ≡ slot_of (ltb (p + 1) n) (x / 2 ^ 10) =
      slot_is (at r) n (p + 1) (x / 2 ^ 10) (λ m. at_row (p + 1) m ∙ value_at w k 1 (p + 1) (omega arith) (omega arith)) in
      let g : value_slot (at r) n (p + 2) ≡ slot_of (ltb (p + 2) n) (x / 2 ^ 20) =
      slot_is (at r) n (p + 2) (x / 2 ^ 20) (λ m. at_row (p + 2) m ∙ value_at w k 2 (p + 2) (omega arith) (omega arith)) in
      rw (row_length bw a b, e, f, g) (omega arith)

  some_position : 0 < n
  unfolding positions
  some_position = pow_pos bw

  first_is : first_word (at r) (length r) ≡ first_from (at w 2)
  unfolding first_word value_of
  first_is =
      let e = slot_is (at r) n 0 (at w 2 / 2 ^ 13) (at_row 0) in
      rw (row_length bw a b, e, lt-ltb 0 n some_position) (omega arith)

  second_is : second_word bw (field a (second_at bw + second_bits bw) 10) ≡ second_word bw (second_check bw w)
  unfolding second_word second_check
  second_is = go (ltb bw 3) refl
    where
      has : ltb bw 3 ≡ false → has_second bw ≡ true
      has e = has_second_lem bw (ltb-false bw 3 e) l

      go : (t : Bool) → ltb bw 3 ≡ t
          → cond t 0 (field a (second_at bw + second_bits bw) 10) ≡ cond t 0 (check_from 255 (second_of bw (value_in w 1)) (second_bits bw))
      go true e = refl
      go false e = second_ten bw w 1 (holds_1 bw w) (has e)

  abbrev head : List ℕ
  head =
      known bw
      ∷ overflow_word (overflow_in w) (first_check bw w)
      ∷ first_from (at w 2)
      ∷ three_from 1 n (at w 3)
      ∷ three_from 4 n (at w 4)
      ∷ three_from 7 n (at w 5)
      ∷ three_from 10 n (at w 6)
      ∷ three_from 13 n (at w 7)
      ∷ second_word bw (second_check bw w)
      ∷ 0
      ∷ []

  head_is : header_of bw r a ≡ head
  unfolding first_check
  head_is =
      let h = holds_1 bw w in
      rw (
        said_overflow bw w 1 h,
        first_ten bw w 1 h,
        first_is,
        triple_is 0,
        triple_is 1,
        triple_is 2,
        triple_is 3,
        triple_is 4,
        second_is,
      )
      refl

  -- ---- the User words

  first_at : (i : ℕ) → field_in bw w 1 i ≡ user_field (at w (10 + i))
  unfolding field_in first_in
  first_at i = refl

  second_at_lem : (i : ℕ) → field_in bw w 2 i ≡ user_field (at w (10 + c1 + i))
  unfolding field_in first_in
  second_at_lem i = refl

  user_1 : (j : ℕ) → j < c1 → user_word_at bw r 1 a j ≡ user_word (format_in bw w 1 j) (user_field (at w (10 + j)))
  unfolding user_word_at format_in
  user_1 j m =
      ap₂ (λ (z : List ℕ) (f : ℕ). user_word (shared_at z (position_in 1 (giver bw 1 a j))) f) (row_is bw w l)
      (said_field bw w 1 (holds_1 bw w) j m ∙ first_at j)

  -- channel 2 is there where it has a field
  there_2 : (j : ℕ) → j < c2 → present bw 2 ≡ true
  there_2 j m = present_count bw 2 b (omega (arith, count_2 bw w l))

  user_2 : (j : ℕ) → j < c2 → user_word_at bw r 2 b j ≡ user_word (format_in bw w 2 j) (user_field (at w (10 + c1 + j)))
  unfolding user_word_at format_in
  user_2 j m =
      ap₂ (λ (z : List ℕ) (f : ℕ). user_word (shared_at z (position_in 2 (giver bw 2 b j))) f) (row_is bw w l)
      (said_field bw w 2 (holds_2 bw w (there_2 j m)) j m ∙ second_at_lem j)

  -- ---- the STA-IDs

  station_at_lem : (j : ℕ) → j < c1 + c2 → station_of bw a b c1 j ≡ station_on w j
  unfolding station_on
  station_at_lem j m = go (dec_lt j c1)
    where
      low : (s : List ℕ) (i x : ℕ) → user bw s i ≡ user_field x → station_at bw s i ≡ x / 256 % 2048
      low s i x e = sym (field_low s (user_at bw i) 22 11 (omega arith)) ∙ ap (λ (y : ℕ). y % 2048) e ∙ station_bits x

      go : Dec (j < c1) → cond (ltb j c1) (station_at bw a j) (station_at bw b (j - c1)) ≡ at w (10 + j) / 256 % 2048
      go (yes k) = rw (lt-ltb j c1 k) (low a j (at w (10 + j)) (said_field bw w 1 (holds_1 bw w) j k ∙ first_at j))
      go (no k) =
          let i : j - c1 < c2 = omega arith in
          let e : 10 + c1 + (j - c1) ≡ 10 + j = omega arith in
          rw (le-ltb j c1 (omega arith))
          (low b (j - c1) (at w (10 + j))
          (said_field bw w 2 (holds_2 bw w (there_2 (j - c1) i)) (j - c1) i ∙ second_at_lem (j - c1) ∙ ap (λ (z : ℕ). user_field (at w z)) e))

  check11_is : check11 bw a b
      ≡ refuse_if (any_repeated (station_on w) (c1 + c2)) (station_place bw c1 (first_repeated (station_of bw a b c1) (c1 + c2)))
  unfolding check11 station_twice any_repeated
  check11_is =
      rw (count_1 bw w l, count_2 bw w l)
      (ap (λ (k : ℕ). refuse_if (ltb k (c1 + c2)) (station_place bw c1 (first_repeated (station_of bw a b c1) (c1 + c2))))
      (repeat_cong (station_of bw a b c1) (station_on w) (c1 + c2) station_at_lem))

  -- ---- 5

  symbols_are : ltf_symbols a ≡ overflow_of (at w 1) / 2 ^ 6 % 2 ^ 3
  unfolding overflow_in
  symbols_are = sym (field_part a 0 17 6 3 (omega arith)) ∙ ap (λ (x : ℕ). x / 2 ^ 6 % 2 ^ 3) (said_overflow bw w 1 (holds_1 bw w))

  -- ---- told words are read

  module _ (t : Told bw w) where
    length_1 : length a ≡ needed bw w
    length_1 = present_length bw w 1 (present_1 bw)

    short : (c : ℕ) → length (candidate bw w c) ≤ 512
    short c = go (present bw c) refl
      where
        go : (u : Bool) → present bw c ≡ u → length (candidate bw w c) ≤ 512
        go true p = omega (arith, present_length bw w c p, needed_le bw w)
        go false p = omega (arith, absent_length bw w c p)

    reach_1 : end_of bw (count bw 1 a) ≤ 8 * length a
    reach_1 = rw (count_1 bw w l, length_1) (needed_1 bw w)

    reach_2 : present bw 2 ≡ true → end_of bw (count bw 2 b) ≤ 8 * length b
    reach_2 p = rw (count_2 bw w l, present_length bw w 2 p) (needed_2 bw w)

    passes_1 : check1 bw ≡ Ok tt
    unfolding check1
    passes_1 = if_pass _ _ (le-ltb 4 bw l)

    passes_2 : check2 bw a b ≡ Ok tt
    unfolding check2
    passes_2 = or_pass _ _ (pass_too_long bw 1 a (short 1) (absent_length bw w 1)) (pass_too_long bw 2 b (short 2) (absent_length bw w 2))

    passes_3 : check3 bw a b ≡ Ok tt
    unfolding check3
    passes_3 =
        or_pass _ _
        (pass_cut_common bw 1 a (λ p. omega (arith, reach_1, end_after bw (count bw 1 a))))
        (pass_cut_common bw 2 b (λ p. omega (arith, reach_2 p, end_after bw (count bw 2 b))))

    passes_5 : check5 bw a b ≡ Ok tt
    unfolding check5
    passes_5 =
        pass_overflow_differs bw a b
        (record {
          few_symbols = rw symbols_are t.the_header.overflow_word.few;
          overflow_same = λ p. said_overflow bw w 1 (holds_1 bw w) ∙ sym (said_overflow bw w 2 (holds_2 bw w p));
        })

    laid : plan_outcome r ≡ Ok tt
    laid = ap plan_outcome (row_is bw w l) ∙ t.laid

    passes_6 : check6 bw a b ≡ Ok tt
    unfolding all_carried
    passes_6 = carried_passes bw a b l (all_every _ (length r) (plan_carried r laid))

    passes_9 : check9 bw a b ≡ Ok tt
    unfolding check9
    passes_9 =
        or_pass _ _ (pass_cut_users bw 1 a (λ z. reach_1)) (pass_cut_users bw 2 b (λ z. reach_2 (present_count bw 2 b z)))

    passes_11 : check11 bw a b ≡ Ok tt
    passes_11 = check11_is ∙ if_pass _ _ t.once

    pub told_accepted : outcome11 bw a b ≡ Ok tt
    unfolding outcome6 outcome9to11
    told_accepted =
        let s = candidate_sealed bw w in
        outcome11_stages bw a b
        ∙ or_pass _ _
        (or_pass _ _
        (or_pass _ _ (or_pass _ _ (or_pass _ _ (or_pass _ _ (or_pass _ _ passes_1 passes_2) passes_3) s.common_sealed) passes_5) passes_6)
        laid)
        (or_pass _ _ (or_pass _ _ passes_9 s.users_sealed) passes_11)

    at_head : (i : ℕ) → i < 10 → at head i ≡ at w i
    unfolding overflow_in
    at_head zero m = sym t.the_header.known_word
    at_head (suc zero) m =
        ap (overflow_word (overflow_of (at w 1))) (sym t.checked.first) ∙ sym t.the_header.overflow_word.made
    at_head (suc (suc zero)) m = sym t.the_header.first_word
    at_head (suc (suc (suc zero))) m = sym (t.the_header.three_word 0 (omega arith))
    at_head (suc (suc (suc (suc zero)))) m = sym (t.the_header.three_word 1 (omega arith))
    at_head (suc (suc (suc (suc (suc zero))))) m = sym (t.the_header.three_word 2 (omega arith))
    at_head (suc (suc (suc (suc (suc (suc zero)))))) m = sym (t.the_header.three_word 3 (omega arith))
    at_head (suc (suc (suc (suc (suc (suc (suc zero))))))) m = sym (t.the_header.three_word 4 (omega arith))
    at_head (suc (suc (suc (suc (suc (suc (suc (suc zero)))))))) m = sym t.checked.second
    at_head (suc (suc (suc (suc (suc (suc (suc (suc (suc zero))))))))) m = sym t.the_header.last_word
    at_head (suc (suc (suc (suc (suc (suc (suc (suc (suc (suc i)))))))))) m = absurd (omega arith)

    in_head : (i : ℕ) → i < 10 → at (words_of bw a b) i ≡ at w i
    unfolding words_of words_of_row
    in_head i m =
        get_or-append (header_of bw r a) (user_words bw r 1 a ++ user_words bw r 2 b) 0 i m
        ∙ ap (λ (z : List ℕ). at z i) head_is
        ∙ at_head i m

    in_1 : (j : ℕ) → j < c1 → at (words_of bw a b) (10 + j) ≡ at w (10 + j)
    in_1 j m =
        word_1 bw a b j (omega (arith, count_1 bw w l))
        ∙ user_1 j m
        ∙ formatted_made (at w (10 + j)) (format_in bw w 1 j) (t.users.on_1 j m)

    in_2 : (j : ℕ) → j < c2 → at (words_of bw a b) (10 + c1 + j) ≡ at w (10 + c1 + j)
    in_2 j m =
        ap (λ (k : ℕ). at (words_of bw a b) (10 + k + j)) (sym (count_1 bw w l))
        ∙ word_2 bw a b j (omega (arith, count_2 bw w l))
        ∙ user_2 j m
        ∙ formatted_made (at w (10 + c1 + j)) (format_in bw w 2 j) (t.users.on_2 j m)

    pub told_words : words_of bw a b ≡ w
    told_words = ext_get_or 0 (words_of bw a b) w size (λ i m. go i (omega (arith, size, t.counted)) (dec_lt i 10) (dec_lt i (10 + c1)))
      where
        size : length (words_of bw a b) ≡ length w
        size = words_length bw a b ∙ unfold word_count in omega (arith, count_1 bw w l, count_2 bw w l, t.counted)

        go : (i : ℕ) → i < 10 + (c1 + c2) → Dec (i < 10) → Dec (i < 10 + c1) → at (words_of bw a b) i ≡ at w i
        go i m (yes h) e = in_head i h
        go i m (no h) (yes e) =
            let q : 10 + (i - 10) ≡ i = omega arith in
            rw q at (in_1 (i - 10) (omega arith))
        go i m (no h) (no e) =
            let q : 10 + c1 + (i - (10 + c1)) ≡ i = omega arith in
            rw q at (in_2 (i - (10 + c1)) (omega arith))

  -- ---- words that are read are told

  module _ (e : outcome11 bw a b ≡ Ok tt) (f : words_of bw a b ≡ w) where
    abbrev tails : List ℕ
    tails = user_words bw r 1 a ++ user_words bw r 2 b

    stages : outcome6 bw a b or plan_outcome r or outcome9to11 bw a b ≡ Ok tt
    stages = sym (outcome11_stages bw a b) ∙ e

    the_words : w ≡ head ++ tails
    unfolding words_of words_of_row
    the_words = sym f ∙ ap (λ (z : List ℕ). z ++ tails) head_is

    data0 : at w 1 ≡ overflow_word (overflow_in w) (first_check bw w)
    data0 = ap (λ (z : List ℕ). at z 1) the_words

    top_is : at w 1 / 2 ^ 22 ≡ first_check bw w
    unfolding first_check
    top_is = ap (λ (x : ℕ). x / 2 ^ 22) data0 ∙ overflow_top (overflow_in w) (first_check bw w) (check_small 255 _ (first_bits bw))

    few : overflow_of (at w 1) / 2 ^ 6 % 2 ^ 3 ≤ 4
    unfolding outcome6 check5
    few =
        let g = pass_left _ (plan_outcome r) (pass_left _ (outcome9to11 bw a b) stages) in
        rw (← symbols_are) (overflow_differs_pass bw a b (pass_right _ _ (pass_left _ (check6 bw a b) g))).few_symbols

    three : (k : ℕ) → k < 5 → at w (3 + k) ≡ three_from (1 + 3 * k) n (at w (3 + k))
    three zero m = ap (λ (z : List ℕ). at z 3) the_words
    three (suc zero) m = ap (λ (z : List ℕ). at z 4) the_words
    three (suc (suc zero)) m = ap (λ (z : List ℕ). at z 5) the_words
    three (suc (suc (suc zero))) m = ap (λ (z : List ℕ). at z 6) the_words
    three (suc (suc (suc (suc zero)))) m = ap (λ (z : List ℕ). at z 7) the_words
    three (suc (suc (suc (suc (suc k))))) m = absurd (omega arith)

    the_header : Header bw n w
    unfolding overflow_in
    the_header = record {
      known_word = ap (λ (z : List ℕ). at z 0) the_words;
      overflow_word = record { made = data0 ∙ ap (overflow_word (overflow_of (at w 1))) (sym top_is); few = few };
      first_word = ap (λ (z : List ℕ). at z 2) the_words;
      three_word = three;
      last_word = ap (λ (z : List ℕ). at z 9) the_words;
    }

    word_at : (i : ℕ) → at w i ≡ at (words_of bw a b) i
    word_at i = ap (λ (z : List ℕ). at z i) (sym f)

    users : Formatted bw w
    users = record {
      on_1 = λ j m.
          made_formatted (at w (10 + j)) (format_in bw w 1 j) _ (word_at (10 + j) ∙ word_1 bw a b j (omega (arith, count_1 bw w l)) ∙ user_1 j m);
      on_2 = λ j m.
          made_formatted (at w (10 + c1 + j)) (format_in bw w 2 j) _
          (word_at (10 + c1 + j)
          ∙ ap (λ (k : ℕ). at (words_of bw a b) (10 + k + j)) (sym (count_1 bw w l))
          ∙ word_2 bw a b j (omega (arith, count_2 bw w l))
          ∙ user_2 j m);
    }

    pub reads_told : Told bw w
    unfolding outcome9to11 word_count
    reads_told = record {
      counted = ap length (sym f) ∙ words_length bw a b ∙ omega (arith, count_1 bw w l, count_2 bw w l);
      the_header = the_header;
      checked = record { first = top_is; second = ap (λ (z : List ℕ). at z 8) the_words };
      laid = ap plan_outcome (sym (row_is bw w l)) ∙ pass_right (outcome6 bw a b) _ (pass_left _ (outcome9to11 bw a b) stages);
      users = users;
      once = pass_if _ _ (sym check11_is ∙ pass_right (check9 bw a b or check10 bw a b) _ (pass_right (outcome6 bw a b or plan_outcome r) _ stages));
    }

-- ---- 13's question

pub same_words_says : (v u : List ℕ) → same_words v u ≡ true → v ≡ u
unfolding same_words unlike
same_words_says v u e =
    let x = eqb (length v) (length u) in
    let y = eqb (least (unlike v u) (length v)) (length v) in
    let k = least_all (unlike v u) (length v) (eqb-true _ _ (both_right x y e)) in
    ext_get_or 0 v u (eqb-true _ _ (both_left x y e)) (λ i l. eqb-true (at v i) (at u i) (not-false (eqb (at v i) (at u i)) (k i l)))

pub says_same_words : (v u : List ℕ) → v ≡ u → same_words v u ≡ true
unfolding same_words unlike
says_same_words v u e =
    let l = least_none (unlike v u) (length v) (λ i m. ap not (eq-eqb (at v i) (at u i) (ap (λ (t : List ℕ). at t i) e))) in
    rw (eq-eqb (length v) (length u) (ap length e), eq-eqb (least (unlike v u) (length v)) (length v) l)

-- the candidate's channels are read to the words exactly where these are told
pub told_decides : (bw : ℕ) (w : List ℕ) → bw ≤ 4 → Decides (reads_to bw (candidate bw w 1) (candidate bw w 2) w) (Told bw w)
unfolding reads_to
told_decides bw w l =
    decides (reads_to bw (candidate bw w 1) (candidate bw w 2) w)
    (λ e.
    let p = passes (outcome11 bw (candidate bw w 1) (candidate bw w 2)) in
    let q = same_words (words_of bw (candidate bw w 1) (candidate bw w 2)) w in
    reads_told bw w l (passes_true _ (both_left p q e)) (same_words_says _ w (both_right p q e)))
    (λ t. rw (told_accepted bw w l t) (says_same_words _ w (told_words bw w l t)))

-- where one of the code's tests fails they are not
pub not_told : (bw : ℕ) (w : List ℕ) → bw ≤ 4 → (Told bw w → ⊥) → false ≡ reads_to bw (candidate bw w 1) (candidate bw w 2) w
not_told bw w l h = go (reads_to bw (candidate bw w 1) (candidate bw w 2) w) refl
  where
    go : (t : Bool) → reads_to bw (candidate bw w 1) (candidate bw w 2) w ≡ t → false ≡ t
    go true e = absurd (h ((told_decides bw w l).yes e))
    go false e = refl

pub told_so : (bw : ℕ) (w : List ℕ) → bw ≤ 4 → Told bw w → true ≡ reads_to bw (candidate bw w 1) (candidate bw w 2) w
told_so bw w l t = go (reads_to bw (candidate bw w 1) (candidate bw w 2) w) refl
  where
    go : (u : Bool) → reads_to bw (candidate bw w 1) (candidate bw w 2) w ≡ u → true ≡ u
    go true e = refl
    go false e = absurd ((told_decides bw w l).no e t)
