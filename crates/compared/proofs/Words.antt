-- Accepted frames of the same bandwidth, row, overflow and User fields have the same words: their checks are right, so that the words' check
-- and tail fields are the same too. With `words_determine` the words are the same exactly where these are.
use mathlib.Core.Path.{◌≡◌, refl, sym, ◌∙◌, ap, subst}
use mathlib.Core.Bool.{true, false}
use mathlib.Core.List.{List}
use Prim.Native.Nat.{ℕ, ◌+◌, ◌*◌, ◌≤◌, ◌<◌}
use lib.ListN.{length, get_or, take}
use lib.Seq.{get_or-take}
use Rattle.std.specs.Prelude.{Ok}
use Rattle.answer.proofs.First.{first_pass, pass_first}
use Rattle.answer.proofs.Order.{pass_left, pass_right}
use Rattle.bits.specs.Bits.{field}
use Rattle.block.specs.Check.{Right}
use Rattle.channel.specs.Layout.{present, overflow, subfields, subfields_in, value, count, user_at, block_at, blocks, covered, end_of}
use Rattle.channel.proofs.Laws.{place_1, place_2, row_even, row_odd}
use Rattle.faults.specs.Checks.{too_long, cut_common, wrong_common, cut_users, wrong_users}
use Rattle.faults.proofs.Passing.{CommonRight, too_long_pass, wrong_common_pass, overflow_differs_pass, reaches, wrong_users_pass}
use Rattle.halves.specs.Table.{check2, check3, check4, check5, check9, check10, checks11, outcome11}
use Rattle.frame_words.specs.Words.{words_of, SameFrame}
use Rattle.reader.specs.Padding.{Other, Agree, Nine}
use Rattle.reader.proofs.Padding.{words_same}
use Rattle.candidate.proofs.Contents.{Contents, determined}
use Rattle.both_halves.proofs.Accepted.{known_code}

-- ---- one channel of an accepted frame
record Taken (bw c : ℕ) (s : List ℕ) : Type 0 where
  pub short : length s ≤ 512
  pub empty : present bw c ≡ false → length s ≡ 0
  pub reach : present bw c ≡ true → end_of bw (count bw c s) ≤ 8 * length s
  pub common_right : present bw c ≡ true → CommonRight bw s
  pub block_right : (b : ℕ) → b < blocks (count bw c s) → Right s (block_at bw b) (covered (count bw c s) b)

taken : (bw c : ℕ) (s : List ℕ) → too_long bw c s ≡ Ok tt → cut_common bw c s ≡ Ok tt → wrong_common bw c s ≡ Ok tt → cut_users bw c s ≡ Ok tt
    → wrong_users bw c s ≡ Ok tt → Taken bw c s
taken bw c s e2 e3 e4 e9 e10 = record {
  short = (too_long_pass bw c s e2).0;
  empty = (too_long_pass bw c s e2).1;
  reach = λ p. reaches bw c s p e3 e9;
  common_right = wrong_common_pass bw c s e4;
  block_right = wrong_users_pass bw c s e10;
}

-- two such channels that carry the same are the same up to their ends
module _ (bw c : ℕ) (s t : List ℕ) (u : Taken bw c s) (v : Taken bw c t) (over : present bw c ≡ true → overflow s ≡ overflow t)
    (values : (k : ℕ) → k < subfields_in bw c → value bw s k ≡ value bw t k) (counts : count bw c s ≡ count bw c t)
    (users : (i : ℕ) → i < count bw c s → field s (user_at bw i) 22 ≡ field t (user_at bw i) 22) where
  abbrev Carries : List ℕ → Type 0
  Carries x = Contents bw (overflow s) (value bw s) (count bw c s) (λ i. field s (user_at bw i) 22) x

  carries_own : present bw c ≡ true → Carries s
  carries_own p = record {
    the_overflow = refl;
    the_value = λ k l. refl;
    the_field = λ i l. refl;
    common_right = u.common_right p;
    block_right = u.block_right;
  }

  all_there : present bw c ≡ true → subfields_in bw c ≡ subfields bw
  unfolding subfields_in
  all_there p = rw p

  carries_other : present bw c ≡ true → Carries t
  carries_other p = record {
    the_overflow = sym (over p);
    the_value = λ k l. sym (values k (rw (all_there p) l));
    the_field = λ i l. sym (users i l);
    common_right = v.common_right p;
    block_right = rw counts v.block_right;
  }

  beside : Other bw c s t
  beside = record {
    short = v.short;
    empty = v.empty;
    reach = λ p. rw counts (v.reach p);
    agree = λ p. determined bw (overflow s) (value bw s) (count bw c s) (λ i. field s (user_at bw i) 22) s t (carries_own p) (carries_other p);
  }

-- ---- both channels of an accepted frame
module _ (bw : ℕ) (a b : List ℕ) (e : outcome11 bw a b ≡ Ok tt) where
  each : (k : ℕ) → get_or (checks11 bw a b) k (Ok tt) ≡ Ok tt
  unfolding outcome11
  each = first_pass (checks11 bw a b) e

  nine : Nine bw a b
  nine = record { passed = pass_first (take 9 (checks11 bw a b)) (λ k l. get_or-take 9 (checks11 bw a b) k (Ok tt) l ∙ each k) }

  taken_1 : Taken bw 1 a
  unfolding check2 check3 check4 check9 check10
  taken_1 =
      taken bw 1 a (pass_left _ (too_long bw 2 b) (each 1)) (pass_left _ (cut_common bw 2 b) (each 2)) (pass_left _ (wrong_common bw 2 b) (each 3))
      (pass_left _ (cut_users bw 2 b) (each 8)) (pass_left _ (wrong_users bw 2 b) (each 9))

  taken_2 : Taken bw 2 b
  unfolding check2 check3 check4 check9 check10
  taken_2 =
      taken bw 2 b (pass_right (too_long bw 1 a) _ (each 1)) (pass_right (cut_common bw 1 a) _ (each 2)) (pass_right (wrong_common bw 1 a) _ (each 3))
      (pass_right (cut_users bw 1 a) _ (each 8)) (pass_right (wrong_users bw 1 a) _ (each 9))

  -- channel 2's overflow is channel 1's
  overflow_2 : present bw 2 ≡ true → overflow a ≡ overflow b
  unfolding check5
  overflow_2 = (overflow_differs_pass bw a b (each 4)).overflow_same

-- ---- two of them
module _ (bw : ℕ) (a b a' b' : List ℕ) (e : outcome11 bw a b ≡ Ok tt) (e' : outcome11 bw a' b' ≡ Ok tt) (f : SameFrame bw a b bw a' b') where
  values_1 : (k : ℕ) → k < subfields_in bw 1 → value bw a k ≡ value bw a' k
  values_1 k l =
      let m = place_1 bw k (known_code bw a b e) l in
      sym (row_even bw a b k m) ∙ ap (λ (r : List ℕ). get_or r (2 * k) 0) f.the_row ∙ row_even bw a' b' k m

  values_2 : (k : ℕ) → k < subfields_in bw 2 → value bw b k ≡ value bw b' k
  values_2 k l =
      let m = place_2 bw k (known_code bw a b e) l in
      sym (row_odd bw a b k m) ∙ ap (λ (r : List ℕ). get_or r (2 * k + 1) 0) f.the_row ∙ row_odd bw a' b' k m

  agree : Agree bw a b a' b'
  agree = record {
    first = beside bw 1 a a' (taken_1 bw a b e) (taken_1 bw a' b' e') (λ p. f.the_overflow) values_1 f.count_1 f.users_1;
    second = beside bw 2 b b' (taken_2 bw a b e) (taken_2 bw a' b' e')
        (λ p. sym (overflow_2 bw a b e p) ∙ f.the_overflow ∙ overflow_2 bw a' b' e' p) values_2 f.count_2 f.users_2;
  }

  words_at : words_of bw a b ≡ words_of bw a' b'
  words_at = words_same (nine bw a b e) agree

-- the converse of `words_determine`
pub frame_words : (bw : ℕ) (a b : List ℕ) (bw' : ℕ) (a' b' : List ℕ) → outcome11 bw a b ≡ Ok tt → outcome11 bw' a' b' ≡ Ok tt
    → SameFrame bw a b bw' a' b' → words_of bw a b ≡ words_of bw' a' b'
frame_words bw a b bw' a' b' e e' f =
    subst (λ (z : ℕ). outcome11 z a' b' ≡ Ok tt → SameFrame bw a b z a' b' → words_of bw a b ≡ words_of z a' b') f.bandwidth
    (λ e' f. words_at bw a b a' b' e e' f) e' f
