-- What the words of a frame say of it: its bandwidth, row, overflow and User fields are had back from them.
use mathlib.Core.Path.{◌≡◌, refl, sym, ◌∙◌, ap, subst}
use mathlib.Core.Bool.{Bool, cond}
use mathlib.Core.List.{List, ◌++◌}
use Prim.Native.Nat.{ℕ, ◌+◌, ◌*◌, ◌/◌, ◌%◌, ◌^◌, ◌≤◌, ◌<◌}
use native.Mathlib.Decide.{dec_lt}
use native.Mathlib.Omega.{arith}
use lib.Dec.{ltb}
use lib.ListN.{length, length-append, get_or-append}
use lib.Pow.{pow-lt}
use lib.Seq.{get_or-append-add}
use borrow.Author.Tests.{lt-ltb, le-ltb, eq-eqb, ne_eqb}
use Rattle.answer.proofs.Lists.{build_cong, length_build, get_d_build}
use Rattle.bits.specs.Bits.{field}
use Rattle.bits.proofs.Fields.{field_lt}
use Rattle.resource.specs.Values.{fields_of}
use Rattle.channel.specs.Layout.{positions, subfields_in, overflow, first_bits, second_at, second_bits, value, row_at, row, count, user_at}
use Rattle.channel.proofs.Laws.{positions_le, place_1, place_2, row_length, row_at_lem, row_lt, total_cong}
use Rattle.answer.specs.Lists.{at}
use Rattle.words.specs.Engine.{overflow_of, value_of, known_of, user_field}
use Rattle.words.proofs.Laws.{overflow_of_word, value_of_header, known_of_header, user_field_word}
use Rattle.frame_words.specs.Words.{word_count, position_in, giver, shared_at, user_word_at, user_words, header_of, words_of_row, words_of, SameFrame}

module _ (bw : ℕ) (a b : List ℕ) where
  abbrev the_row : List ℕ
  the_row = row bw a b

  abbrev tails : List ℕ
  tails = user_words bw the_row 1 a ++ user_words bw the_row 2 b

  -- ten and one for each User field
  pub words_length : length (words_of bw a b) ≡ word_count bw a b
  unfolding words_of words_of_row word_count
  words_length =
      length-append (header_of bw the_row a) tails
      ∙ ap (λ (n : ℕ). 10 + n)
      (length-append (user_words bw the_row 1 a) (user_words bw the_row 2 b)
      ∙ omega (arith, length_build (user_word_at bw the_row 1 a) (count bw 1 a), length_build (user_word_at bw the_row 2 b) (count bw 2 b)))

  pub overflow_back : overflow_of (at (words_of bw a b) 1) ≡ overflow a
  unfolding words_of words_of_row
  overflow_back = overflow_of_word (overflow a) (field a (first_bits bw) 10) (field_lt a 0 17) (field_lt a (first_bits bw) 10)

  pub value_back : bw ≤ 4 → (p : ℕ) → p < positions bw → value_of (words_of bw a b) p ≡ row_at bw a b p
  unfolding words_of words_of_row
  value_back l p m =
      let e = row_at_lem bw a b p m in
      value_of_header bw (overflow a) (field a (first_bits bw) 10) (field a (second_at bw + second_bits bw) 10) (at the_row) (length the_row) tails p
      (omega (arith, row_length bw a b)) (omega (arith, row_length bw a b, positions_le bw l)) (rw e (row_lt bw a b p))
      ∙ e

  pub known_back : (p : ℕ) → p < 16 → known_of (words_of bw a b) p ≡ cond (ltb p (positions bw)) 1 0
  unfolding words_of words_of_row
  known_back p m =
      known_of_header bw (overflow a) (field a (first_bits bw) 10) (field a (second_at bw + second_bits bw) 10) (at the_row) (length the_row) tails p m
      ∙ ap (λ (n : ℕ). cond (ltb p n) 1 0) (row_length bw a b)

  -- the words after the first ten: channel 1's fields, then channel 2's
  past_ten : (j : ℕ) → at (words_of bw a b) (10 + j) ≡ at tails j
  unfolding words_of words_of_row
  past_ten j = get_or-append-add (header_of bw the_row a) tails j 0

  pub word_1 : (j : ℕ) → j < count bw 1 a → at (words_of bw a b) (10 + j) ≡ user_word_at bw the_row 1 a j
  word_1 j l =
      past_ten j
      ∙ get_or-append (user_words bw the_row 1 a) (user_words bw the_row 2 b) 0 j (omega (arith, length_build (user_word_at bw the_row 1 a) (count bw 1 a)))
      ∙ get_d_build (user_word_at bw the_row 1 a) (count bw 1 a) j 0 l

  pub word_2 : (j : ℕ) → j < count bw 2 b → at (words_of bw a b) (10 + count bw 1 a + j) ≡ user_word_at bw the_row 2 b j
  word_2 j l =
      let n : length (user_words bw the_row 1 a) ≡ count bw 1 a = length_build (user_word_at bw the_row 1 a) (count bw 1 a) in
      ap (at (words_of bw a b)) (omega arith)
      ∙ past_ten (count bw 1 a + j)
      ∙ ap (λ (k : ℕ). at tails (k + j)) (sym n)
      ∙ get_or-append-add (user_words bw the_row 1 a) (user_words bw the_row 2 b) j 0
      ∙ get_d_build (user_word_at bw the_row 2 b) (count bw 2 b) j 0 l

  pub user_back_1 : (j : ℕ) → j < count bw 1 a → user_field (at (words_of bw a b) (10 + j)) ≡ field a (user_at bw j) 22
  unfolding user_word_at
  user_back_1 j l =
      ap user_field (word_1 j l)
      ∙ user_field_word (shared_at the_row (position_in 1 (giver bw 1 a j))) (field a (user_at bw j) 22) (field_lt a (user_at bw j) 22)

  pub user_back_2 : (j : ℕ) → j < count bw 2 b → user_field (at (words_of bw a b) (10 + count bw 1 a + j)) ≡ field b (user_at bw j) 22
  unfolding user_word_at
  user_back_2 j l =
      ap user_field (word_2 j l)
      ∙ user_field_word (shared_at the_row (position_in 2 (giver bw 2 b j))) (field b (user_at bw j) 22) (field_lt b (user_at bw j) 22)

-- the values of each channel from the row
pub value_1 : (bw : ℕ) (a b : List ℕ) (k : ℕ) → row_at bw a b (2 * k) ≡ value bw a k
unfolding row_at
value_1 bw a b k =
    let e : 2 * k % 2 ≡ 0 = omega arith in
    let f : 2 * k / 2 ≡ k = omega arith in
    rw (eq-eqb (2 * k % 2) 0 e, f)

pub value_2 : (bw : ℕ) (a b : List ℕ) (k : ℕ) → row_at bw a b (2 * k + 1) ≡ value bw b k
unfolding row_at
value_2 bw a b k =
    let f : (2 * k + 1) / 2 ≡ k = omega arith in
    rw (ne_eqb ((2 * k + 1) % 2) 0 (λ e. omega arith), f)

-- ---- equal words are of equal frames

-- the same bandwidth's
module _ (bw : ℕ) (a b a' b' : List ℕ) (l : bw ≤ 4) (e : words_of bw a b ≡ words_of bw a' b') where
  equal_at : (p : ℕ) → p < positions bw → row_at bw a b p ≡ row_at bw a' b' p
  equal_at p m =
      sym (value_back bw a b l p m)
      ∙ ap (λ (w : List ℕ). value_of w p) e
      ∙ value_back bw a' b' l p m

  equal_row : row bw a b ≡ row bw a' b'
  unfolding row
  equal_row = build_cong (row_at bw a b) (row_at bw a' b') (positions bw) equal_at

  equal_count_1 : count bw 1 a ≡ count bw 1 a'
  unfolding count
  equal_count_1 =
      total_cong (λ k. fields_of (value bw a k)) (λ k. fields_of (value bw a' k)) (subfields_in bw 1)
      (λ k m. ap fields_of (sym (value_1 bw a b k) ∙ equal_at (2 * k) (place_1 bw k l m) ∙ value_1 bw a' b' k))

  equal_count_2 : count bw 2 b ≡ count bw 2 b'
  unfolding count
  equal_count_2 =
      total_cong (λ k. fields_of (value bw b k)) (λ k. fields_of (value bw b' k)) (subfields_in bw 2)
      (λ k m. ap fields_of (sym (value_2 bw a b k) ∙ equal_at (2 * k + 1) (place_2 bw k l m) ∙ value_2 bw a' b' k))

  equal_overflow : overflow a ≡ overflow a'
  equal_overflow = sym (overflow_back bw a b) ∙ ap (λ (w : List ℕ). overflow_of (at w 1)) e ∙ overflow_back bw a' b'

  equal_users_1 : (j : ℕ) → j < count bw 1 a → field a (user_at bw j) 22 ≡ field a' (user_at bw j) 22
  equal_users_1 j m =
      sym (user_back_1 bw a b j m)
      ∙ ap (λ (w : List ℕ). user_field (at w (10 + j))) e
      ∙ user_back_1 bw a' b' j (omega (arith, equal_count_1))

  equal_users_2 : (j : ℕ) → j < count bw 2 b → field b (user_at bw j) 22 ≡ field b' (user_at bw j) 22
  equal_users_2 j m =
      sym (user_back_2 bw a b j m)
      ∙ ap (λ (w : List ℕ). user_field (at w (10 + count bw 1 a + j))) e
      ∙ ap (λ (n : ℕ). user_field (at (words_of bw a' b') (10 + n + j))) equal_count_1
      ∙ user_back_2 bw a' b' j (omega (arith, equal_count_2))

-- the known bits of the positions tell the bandwidth
one_zero : {x y : ℕ} → x ≡ 1 → y ≡ 0 → x ≡ y → ⊥
one_zero p q r = omega arith

not_wider : (bw bw' : ℕ) (a b a' b' : List ℕ) → bw' ≤ 4 → words_of bw a b ≡ words_of bw' a' b' → bw < bw' → ⊥
unfolding positions
not_wider bw bw' a b a' b' l e m =
    let p : 2 ^ bw < 2 ^ bw' = pow-lt m in
    let q : 2 ^ bw' ≤ 16 = positions_le bw' l in
    let x : known_of (words_of bw a b) (2 ^ bw) ≡ 0 =
    known_back bw a b (2 ^ bw) (omega arith) ∙ ap (λ (t : Bool). cond t 1 0) (le-ltb (2 ^ bw) (2 ^ bw) (omega arith)) in
    let y : known_of (words_of bw' a' b') (2 ^ bw) ≡ 1 =
    known_back bw' a' b' (2 ^ bw) (omega arith) ∙ ap (λ (t : Bool). cond t 1 0) (lt-ltb (2 ^ bw) (2 ^ bw') p) in
    one_zero y x (ap (λ (w : List ℕ). known_of w (2 ^ bw)) (sym e))

pub same_bandwidth : (bw bw' : ℕ) (a b a' b' : List ℕ) → bw ≤ 4 → bw' ≤ 4 → words_of bw a b ≡ words_of bw' a' b' → bw ≡ bw'
same_bandwidth bw bw' a b a' b' l l' e = go (dec_lt bw bw') (dec_lt bw' bw)
  where
    go : Dec (bw < bw') → Dec (bw' < bw) → bw ≡ bw'
    go (yes m) d = absurd (not_wider bw bw' a b a' b' l' e m)
    go (no m) (yes k) = absurd (not_wider bw' bw a' b' a b l (sym e) k)
    go (no m) (no k) = omega arith

same_frame_at : (bw : ℕ) (a b a' b' : List ℕ) → bw ≤ 4 → words_of bw a b ≡ words_of bw a' b' → SameFrame bw a b bw a' b'
same_frame_at bw a b a' b' l e =
    record {
      bandwidth = refl;
      the_row = equal_row bw a b a' b' l e;
      the_overflow = equal_overflow bw a b a' b' l e;
      count_1 = equal_count_1 bw a b a' b' l e;
      count_2 = equal_count_2 bw a b a' b' l e;
      users_1 = equal_users_1 bw a b a' b' l e;
      users_2 = equal_users_2 bw a b a' b' l e;
    }

pub words_determine : (bw bw' : ℕ) (a b a' b' : List ℕ) → bw ≤ 4 → bw' ≤ 4 → words_of bw a b ≡ words_of bw' a' b' → SameFrame bw a b bw' a' b'
words_determine bw bw' a b a' b' l l' e =
    let q : bw' ≡ bw = sym (same_bandwidth bw bw' a b a' b' l l' e) in
    let f : words_of bw a b ≡ words_of bw a' b' = rw q at e in
    subst (λ (x : ℕ). SameFrame bw a b x a' b') (sym q) (same_frame_at bw a b a' b' l f)
