-- "What follows is padding, not looked at." (01, "Bandwidth and channels"): channels that reach the same ends and agree
-- below them get the same answer and the same words.
use mathlib.Core.Path.{◌≡◌, refl, sym, ◌∙◌, ap}
use mathlib.Core.Bool.{Bool, true, false, cond}
use mathlib.Core.List.{List, ◌++◌}
use Prim.Native.Nat.{ℕ, zero, suc, ◌+◌, ◌-◌, ◌≤◌, ◌<◌}
use native.Mathlib.Decide.{dec_lt}
use native.Mathlib.Omega.{arith}
use lib.Dec.{ltb, eqb}
use lib.ListN.{length, take, get_or}
use borrow.Author.Tests.{lt-ltb, le-ltb, ltb-false}
use Rattle.answer.specs.Answer.{refuse_if}
use Rattle.answer.specs.Least.{least}
use Rattle.answer.specs.Lists.{build}
use Rattle.std.specs.Prelude.{Ok}
use Rattle.answer.proofs.First.{first_pass}
use Rattle.answer.proofs.Order.{pass_if, or_pass}
use Rattle.answer.proofs.Least.{least_cong}
use Rattle.answer.proofs.Lists.{build_cong}
use Rattle.bits.specs.Bits.{field}
use Rattle.resource.specs.Values.{fields_of}
use Rattle.channel.specs.Layout.{overflow, seconds, first_bits, second_at, second_bits, has_second, common, subfields_in, value, row, count, user_at, end_of}
use Rattle.channel.proofs.Laws.{present_1, first_inside, second_inside, common_ge, total_cong}
use Rattle.channel.proofs.Blocks.{end_after, user_end}
use Rattle.faults.specs.Checks.{too_long, cut_common, cut_users}
use Rattle.faults.proofs.Passing.{pass_too_long, pass_cut_common, pass_cut_users}
use Rattle.faults.proofs.Padding.{field_in, Alike, AlikeToEnd, alike_of, present_count, value_same, count_same, row_same}
use Rattle.faults.proofs.Padding.{wrong_common_same, not_carried_same, overflow_differs_same, wrong_users_same, user_same}
use Rattle.stations.specs.Stations.{station_of, station_place, repeated, first_repeated, station_twice}
use Rattle.words.specs.Words.{second_word}
use Rattle.halves.specs.Table.{check1, check2, check3, check4, check5, check6, check7, check8, check9, check10, check11, checks11, outcome11}
use Rattle.frame_words.specs.Words.{word_count, before, giver, user_word_at, user_words, header_of, words_of_row, words_of}
use Rattle.reader.specs.Table.{no_room, check12, read_outcome}
use Rattle.reader.proofs.Stages.{read_outcome_stages}
use Rattle.reader.specs.Result.{read_answer, words_after}
use Rattle.reader.specs.Padding.{Other, Agree, Nine}

pub to_end : {bw c : ℕ} {s t : List ℕ} → Other bw c s t → AlikeToEnd bw c s t
to_end o = record { to_end = o.agree }

pub alike : {bw c : ℕ} {s t : List ℕ} → Other bw c s t → Alike bw c s t
alike {bw} {c} {s} {t} o = alike_of bw c s t (to_end o)

-- ---- a channel by itself

pass_2 : {bw c : ℕ} {s t : List ℕ} → Other bw c s t → too_long bw c t ≡ Ok tt
pass_2 {bw} {c} {s} {t} o = pass_too_long bw c t o.short o.empty

pass_3 : {bw c : ℕ} {s t : List ℕ} → Other bw c s t → cut_common bw c t ≡ Ok tt
pass_3 {bw} {c} {s} {t} o = pass_cut_common bw c t (λ p. omega (arith, o.reach p, end_after bw (count bw c s)))

pass_9 : {bw c : ℕ} {s t : List ℕ} → Other bw c s t → cut_users bw c t ≡ Ok tt
pass_9 {bw} {c} {s} {t} o =
    let e = count_same bw c s t (alike o) in
    pass_cut_users bw c t (λ l. rw (← e) (o.reach (present_count bw c s (omega arith))))

-- ---- the STA-IDs

repeated_same : (f g : ℕ → ℕ) (j : ℕ) → ((i : ℕ) → i ≤ j → f i ≡ g i) → repeated f j ≡ repeated g j
repeated_same f g j h =
    let e : f j ≡ g j = h j (omega arith) in
    let l : least (λ i. eqb (f i) (g j)) j ≡ least (λ i. eqb (g i) (g j)) j =
    least_cong (λ i. eqb (f i) (g j)) (λ i. eqb (g i) (g j)) j (λ i k. ap (λ (x : ℕ). eqb x (g j)) (h i (omega arith))) in
    rw (e, l)

module _ {bw : ℕ} {a b a' b' : List ℕ} (h : Agree bw a b a' b') where
  station_same : (j : ℕ) → j < count bw 1 a + count bw 2 b → station_of bw a b (count bw 1 a) j ≡ station_of bw a' b' (count bw 1 a) j
  station_same j l = go (dec_lt j (count bw 1 a))
    where
      at : {c : ℕ} {s t : List ℕ} (o : Other bw c s t) (i : ℕ) → i < count bw c s → field s (user_at bw i) 11 ≡ field t (user_at bw i) 11
      at {c} {s} {t} o i k =
          field_in s t (end_of bw (count bw c s)) (user_at bw i) 11
          (o.agree (present_count bw c s (omega arith))) (omega (arith, user_end bw (count bw c s) i k))

      go : Dec (j < count bw 1 a) → station_of bw a b (count bw 1 a) j ≡ station_of bw a' b' (count bw 1 a) j
      go (yes k) = rw (lt-ltb j (count bw 1 a) k) (at h.first j k)
      go (no k) = rw (le-ltb j (count bw 1 a) (omega arith)) (at h.second (j - count bw 1 a) (omega arith))

  check11_same : check11 bw a b ≡ check11 bw a' b'
  unfolding check11 station_twice first_repeated
  check11_same =
      let n = count bw 1 a in
      let m = count bw 2 b in
      let e : least (repeated (station_of bw a b n)) (n + m) ≡ least (repeated (station_of bw a' b' n)) (n + m) =
      least_cong (repeated (station_of bw a b n)) (repeated (station_of bw a' b' n)) (n + m)
      (λ j l. repeated_same (station_of bw a b n) (station_of bw a' b' n) j (λ i k. station_same i (omega arith))) in
      rw (← count_same bw 1 a a' (alike h.first), ← count_same bw 2 b b' (alike h.second))
      (ap (λ (j : ℕ). refuse_if (ltb j (n + m)) (station_place bw n j)) e)

  pub word_count_same : word_count bw a b ≡ word_count bw a' b'
  unfolding word_count
  word_count_same = rw (count_same bw 1 a a' (alike h.first), count_same bw 2 b b' (alike h.second))

-- ---- the words

giver_same : {bw c : ℕ} {s t : List ℕ} → Other bw c s t → (j : ℕ) → giver bw c s j ≡ giver bw c t j
unfolding giver
giver_same {bw} {c} {s} {t} o j =
    least_cong (λ k. ltb j (before bw s (k + 1))) (λ k. ltb j (before bw t (k + 1))) (subfields_in bw c)
    (λ k l. ap (ltb j)
    (total_cong (λ i. fields_of (value bw s i)) (λ i. fields_of (value bw t i)) (k + 1)
    (λ i m. ap fields_of (value_same bw c s t (alike o) i (omega arith)))))

user_words_same : {bw c : ℕ} {s t : List ℕ} (r : List ℕ) → Other bw c s t → user_words bw r c s ≡ user_words bw r c t
unfolding user_word_at
user_words_same {bw} {c} {s} {t} r o =
    build_cong (user_word_at bw r c s) (user_word_at bw r c t) (count bw c s)
    (λ j l. rw (giver_same o j, user_same bw c s t (to_end o) j l))
    ∙ ap (build (user_word_at bw r c t)) (count_same bw c s t (alike o))

-- the second check and tail, which only 160 and 320 MHz have
second_there : (bw : ℕ) → 3 ≤ bw → bw ≤ 4 → has_second bw ≡ true
unfolding has_second seconds
second_there zero l m = absurd (omega arith)
second_there (suc zero) l m = absurd (omega arith)
second_there (suc (suc zero)) l m = absurd (omega arith)
second_there (suc (suc (suc zero))) l m = refl
second_there (suc (suc (suc (suc zero)))) l m = refl
second_there (suc (suc (suc (suc (suc k))))) l m = absurd (omega arith)

pub second_word_same : (bw x y : ℕ) → bw ≤ 4 → (has_second bw ≡ true → x ≡ y) → second_word bw x ≡ second_word bw y
unfolding second_word
second_word_same bw x y l h = go (ltb bw 3) refl
  where
    go : (t : Bool) → ltb bw 3 ≡ t → cond t 0 x ≡ cond t 0 y
    go true e = refl
    go false e = h (second_there bw (ltb-false bw 3 e) l)

header_same : {bw : ℕ} {a a' : List ℕ} (r : List ℕ) → bw ≤ 4 → Alike bw 1 a a' → header_of bw r a ≡ header_of bw r a'
header_same {bw} {a} {a'} r l h =
    let s = h.alike (present_1 bw) in
    let v : overflow a ≡ overflow a' = field_in a a' (common bw) 0 17 s (omega (arith, common_ge bw)) in
    let t : field a (first_bits bw) 10 ≡ field a' (first_bits bw) 10 = field_in a a' (common bw) (first_bits bw) 10 s (first_inside bw) in
    let u : second_word bw (field a (second_at bw + second_bits bw) 10) ≡ second_word bw (field a' (second_at bw + second_bits bw) 10) =
    second_word_same bw _ _ l (λ p. field_in a a' (common bw) (second_at bw + second_bits bw) 10 s (omega (arith, second_inside bw p))) in
    rw (v, t, u)

join : {h h' u u' v v' : List ℕ} → h ≡ h' → u ≡ u' → v ≡ v' → h ++ (u ++ v) ≡ h' ++ (u' ++ v')
join e f g = cc

-- ---- the theorem

module _ {bw : ℕ} {a b a' b' : List ℕ} (n : Nine bw a b) (h : Agree bw a b a' b') where
  pass_of : (k : ℕ) → get_or (take 9 (checks11 bw a b)) k (Ok tt) ≡ Ok tt
  pass_of = first_pass (take 9 (checks11 bw a b)) n.passed

  pub known_bandwidth : bw ≤ 4
  unfolding check1
  known_bandwidth = ltb-false 4 bw (pass_if _ _ (pass_of 0))

  same_row : row bw a b ≡ row bw a' b'
  same_row = row_same bw a b a' b' (alike h.first) (alike h.second) known_bandwidth

  pub outcome11_same : outcome11 bw a b ≡ outcome11 bw a' b'
  unfolding outcome11
  outcome11_same =
      let e2 : check2 bw a b ≡ check2 bw a' b' = pass_of 1 ∙ sym (unfold check2 in or_pass _ _ (pass_2 h.first) (pass_2 h.second)) in
      let e3 : check3 bw a b ≡ check3 bw a' b' = pass_of 2 ∙ sym (unfold check3 in or_pass _ _ (pass_3 h.first) (pass_3 h.second)) in
      let e4 : check4 bw a b ≡ check4 bw a' b' =
      unfold check4 in rw (wrong_common_same bw 1 a a' (alike h.first), wrong_common_same bw 2 b b' (alike h.second)) in
      let e5 : check5 bw a b ≡ check5 bw a' b' = unfold check5 in overflow_differs_same bw a b a' b' (alike h.first) (alike h.second) in
      let e6 : check6 bw a b ≡ check6 bw a' b' =
      unfold check6 in rw (not_carried_same bw 1 a a' (alike h.first), not_carried_same bw 2 b b' (alike h.second)) in
      let e7 : check7 bw a b ≡ check7 bw a' b' = unfold check7 in rw same_row in
      let e8 : check8 bw a b ≡ check8 bw a' b' = unfold check8 in rw same_row in
      let e9 : check9 bw a b ≡ check9 bw a' b' = pass_of 8 ∙ sym (unfold check9 in or_pass _ _ (pass_9 h.first) (pass_9 h.second)) in
      let e10 : check10 bw a b ≡ check10 bw a' b' =
      unfold check10 in rw (wrong_users_same bw 1 a a' (to_end h.first), wrong_users_same bw 2 b b' (to_end h.second)) in
      let e11 : check11 bw a b ≡ check11 bw a' b' = check11_same h in
      rw (e2, e3, e4, e5, e6, e7, e8, e9, e10, e11)

  pub words_same : words_of bw a b ≡ words_of bw a' b'
  unfolding words_of words_of_row
  words_same =
      let r = row bw a' b' in
      ap (λ (r : List ℕ). header_of bw r a ++ (user_words bw r 1 a ++ user_words bw r 2 b)) same_row
      ∙ join (header_same r known_bandwidth (alike h.first)) (user_words_same r h.first) (user_words_same r h.second)

  pub read_outcome_same : (room : ℕ) → read_outcome bw a b room ≡ read_outcome bw a' b' room
  unfolding check12 no_room
  read_outcome_same room = read_outcome_stages bw a b room ∙ rw (outcome11_same, word_count_same h) (sym (read_outcome_stages bw a' b' room))

  -- 01: "What follows is padding, not looked at.": whatever the room, the answer and the words afterwards are the same
  pub padding : (w : List ℕ) → (read_answer bw a b (length w) ≡ read_answer bw a' b' (length w)) × (words_after bw a b w ≡ words_after bw a' b' w)
  unfolding read_answer words_after
  padding w = (rw (read_outcome_same (length w), word_count_same h), rw (read_outcome_same (length w), word_count_same h, words_same))
