-- The steps of the judgement, for the code.
use mathlib.Core.Path.{◌≡◌, refl, sym, ◌∙◌, ap}
use mathlib.Core.Bool.{Bool, true, false, cond, ◌&&◌, true≢false}
use mathlib.Core.List.{List}
use Prim.Native.Nat.{ℕ, zero, suc, ◌+◌, ◌-◌, ◌*◌, ◌/◌, ◌%◌, ◌^◌, ◌≤◌, ◌<◌}
use native.Mathlib.Decide.{dec_lt, ℕ_discrete}
use native.Mathlib.Nat.{div-one, zero-div}
use native.Mathlib.Omega.{arith}
use lib.Dec.{eqb, ltb}
use lib.ListN.{length, set, take, length-set}
use lib.Seq.{get_or-set_same, get_or-set_other, get_or-take, length-take-le}
use borrow.Author.Tests.{eq-eqb, eqb-true, ne_eqb, ltb-true, ltb-false}
use Rattle.answer.specs.Decides.{Decides}
use Rattle.answer.specs.Lists.{at, Front}
use Rattle.answer.proofs.Every.{both_left, both_right}
use Rattle.answer.proofs.Lists.{build_is, length_build, get_d_build}
use Rattle.register.specs.Engine.{check_from}
use Rattle.channel.specs.Layout.{positions, present, first_bits, second_bits, seconds, has_second, subfields_in}
use Rattle.channel.proofs.Laws.{present_1, place_1, place_2}
use Rattle.header_values.specs.Header.{known}
use Rattle.words.specs.Words.{second_word}
use Rattle.words.specs.Engine.{value_of}
use Rattle.frame_words.specs.Words.{position_in}
use Rattle.candidate.specs.Engine.{first_of, second_of, sealed_of, second_part, first_part_in, second_part_in, Lent, overflow_in, value_in}
use Rattle.candidate.proofs.Joined.{sealed_check}
use Rattle.candidate.proofs.Numbers.{first_less, second_less}
use Rattle.judge.specs.Engine.{Overflow, first_from, three_from, Header, row_in, first_check, second_check, Checked}
use Rattle.judge.proofs.Words.{decides}

-- ---- tests together

pub and_decides : {A B : Type 0} {x y : Bool} → Decides x A → Decides y B → Decides (x && y) (A × B)
and_decides {A = A} {B = B} {x = x} {y = y} p q = record {
  yes = λ e. (p.yes (both_left x y e), q.yes (both_right x y e));
  no = λ e h. go x y refl refl e h;
}
  where
    go : (s t : Bool) → x ≡ s → y ≡ t → s && t ≡ false → A × B → ⊥
    go true true f g e h = true≢false e
    go true false f g e h = q.no g h.1
    go false t f g e h = p.no f h.0

pub alike_decides : {A B : Type 0} {x : Bool} → (A → B) → (B → A) → Decides x A → Decides x B
alike_decides f g p = record { yes = λ e. f (p.yes e); no = λ e b. p.no e (g b) }

pub equal_decides : (x y : ℕ) → Decides (eqb x y) (x ≡ y)
equal_decides x y = decides (eqb x y) (λ e. eqb-true x y e) (λ e. eq-eqb x y e)

pub header_decides : (bw n : ℕ) (w : List ℕ) (k : ℕ) {a b c d e f g : Bool} → k ≡ known bw
    → Decides a (Overflow (at w 1)) → Decides b (at w 2 ≡ first_from (at w 2)) → Decides c (at w 3 ≡ three_from 1 n (at w 3))
    → Decides d (at w 4 ≡ three_from 4 n (at w 4)) → Decides e (at w 5 ≡ three_from 7 n (at w 5)) → Decides f (at w 6 ≡ three_from 10 n (at w 6))
    → Decides g (at w 7 ≡ three_from 13 n (at w 7))
    → Decides (eqb (at w 0) k && a && b && c && d && e && f && g && eqb (at w 9) 0) (Header bw n w)
header_decides bw n w k h pa pb pc pd pe pf pg =
    alike_decides
    (λ q. record {
      known_word = q.0.0.0.0.0.0.0.0 ∙ h;
      overflow_word = q.0.0.0.0.0.0.0.1;
      first_word = q.0.0.0.0.0.0.1;
      three_word = λ i l. three i l q.0.0.0.0.0.1 q.0.0.0.0.1 q.0.0.0.1 q.0.0.1 q.0.1;
      last_word = q.1;
    })
    (λ q. (
      (
        (
          (
            ((((q.known_word ∙ sym h, q.overflow_word), q.first_word), q.three_word 0 (omega arith)), q.three_word 1 (omega arith)),
            q.three_word 2
                (omega arith),
          ),
          q.three_word 3 (omega arith),
        ),
        q.three_word 4 (omega arith),
      ),
      q.last_word,
    ))
    (and_decides
    (and_decides (and_decides (and_decides (and_decides (and_decides (and_decides (and_decides (equal_decides (at w 0) k) pa) pb) pc) pd) pe) pf) pg)
    (equal_decides (at w 9) 0))
  where
    three : (i : ℕ) → i < 5 → at w 3 ≡ three_from 1 n (at w 3) → at w 4 ≡ three_from 4 n (at w 4) → at w 5 ≡ three_from 7 n (at w 5)
        → at w 6 ≡ three_from 10 n (at w 6) → at w 7 ≡ three_from 13 n (at w 7) → at w (3 + i) ≡ three_from (1 + 3 * i) n (at w (3 + i))
    three zero l p q r s t = p
    three (suc zero) l p q r s t = q
    three (suc (suc zero)) l p q r s t = r
    three (suc (suc (suc zero))) l p q r s t = s
    three (suc (suc (suc (suc zero)))) l p q r s t = t
    three (suc (suc (suc (suc (suc i))))) l p q r s t = absurd (omega arith)

pub checked_decides : (bw : ℕ) (w : List ℕ) (x y : ℕ) → x ≡ first_check bw w → y ≡ second_word bw (second_check bw w)
    → Decides (eqb (at w 1 / 4194304) x && eqb (at w 8) y) (Checked bw w)
checked_decides bw w x y e f =
    alike_decides
    (λ q. record { first = q.0 ∙ e; second = q.1 ∙ f })
    (λ q. (q.first ∙ sym e, q.second ∙ sym f))
    (and_decides (equal_decides (at w 1 / 4194304) x) (equal_decides (at w 8) y))

-- ---- the row

pub value_at : (w : List ℕ) (k i q : ℕ) → q ≡ 1 + 3 * k + i → i < 3 → value_of w q ≡ at w (3 + k) / 2 ^ (10 * i) % 2 ^ 9
unfolding value_of
value_at w k i q e m =
    let d : (q - 1) / 3 ≡ k = omega arith in
    let f : (q - 1) % 3 ≡ i = omega arith in
    rw (ne_eqb q 0 (λ z. omega arith), d, f)

pub front_first : (w r : List ℕ) (x : ℕ) → 0 < length r → x ≡ at w 2 / 8192 % 512 → Front (value_of w) 1 (set r 0 x)
unfolding value_of
front_first w r x l e = record {
  front = λ i m. let z : i ≡ 0 = omega arith in rw z (get_or-set_same r 0 x 0 l ∙ e);
}

front_more : (f : ℕ → ℕ) (m x : ℕ) (r : List ℕ) → Front f m r → m < length r → x ≡ f m → Front f (m + 1) (set r m x)
front_more f m x r p l e = record { front = λ i h. go i h (ℕ_discrete i m) }
  where
    here : (i : ℕ) → i ≡ m → at (set r m x) i ≡ f i
    here i d = rw d (get_or-set_same r m x 0 l ∙ e)

    go : (i : ℕ) → i < m + 1 → Dec (i ≡ m) → at (set r m x) i ≡ f i
    go i h (yes d) = here i d
    go i h (no d) = get_or-set_other r m i x 0 d ∙ p.front i (omega arith)

pub front_three : (w : List ℕ) (k x : ℕ) (r : List ℕ) → Front (value_of w) (3 * k + 1) r → length r ≡ 16 → k < 5 → x ≡ at w (3 + k)
    → Front (value_of w) (3 * (k + 1) + 1) (set (set (set r (3 * k + 1) (x % 512)) (3 * k + 2) (x / 1024 % 512)) (3 * k + 3) (x / 1048576 % 512))
front_three w k x r p n l e =
    let a : 3 * k + 1 + 1 ≡ 3 * k + 2 = omega arith in
    let b : 3 * k + 2 + 1 ≡ 3 * k + 3 = omega arith in
    let c : 3 * k + 3 + 1 ≡ 3 * (k + 1) + 1 = omega arith in
    let v0 : x % 512 ≡ value_of w (3 * k + 1) =
    rw e (sym (value_at w k 0 (3 * k + 1) (omega arith) (omega arith) ∙ ap (λ (y : ℕ). y % 2 ^ 9) (div-one (at w (3 + k))))) in
    let v1 : x / 1024 % 512 ≡ value_of w (3 * k + 2) = rw e (sym (value_at w k 1 (3 * k + 2) (omega arith) (omega arith))) in
    let v2 : x / 1048576 % 512 ≡ value_of w (3 * k + 3) = rw e (sym (value_at w k 2 (3 * k + 3) (omega arith) (omega arith))) in
    let s1 = rw a at (front_more (value_of w) (3 * k + 1) (x % 512) r p (omega arith) v0) in
    let s2 = rw b at (front_more (value_of w) (3 * k + 2) (x / 1024 % 512) _ s1 (simp length-set (omega arith)) v1) in
    rw c at (front_more (value_of w) (3 * k + 3) (x / 1048576 % 512) _ s2 (simp length-set (omega arith)) v2)

pub front_less : (f : ℕ → ℕ) (m n : ℕ) (r : List ℕ) → n ≤ m → Front f m r → Front f n r
front_less f m n r l p = record { front = λ i h. p.front i (omega arith) }

-- the front of sixteen values is the row
pub row_front : (bw : ℕ) (w r : List ℕ) (n : ℕ) → n ≡ positions bw → n ≤ length r → Front (value_of w) (positions bw) r → take n r ≡ row_in bw w
unfolding row_in
row_front bw w r n e l p =
    rw (← e)
    (build_is (value_of w) 0 (take n r) n (length-take-le n r l) (λ i m. get_or-take n r i 0 m ∙ p.front i (omega arith)))

-- ---- the second part is there at 160 and 320 MHz

has_none : (bw : ℕ) → bw < 3 → has_second bw ≡ false
unfolding has_second seconds
has_none bw l = rw (ne_eqb bw 3 (λ e. omega arith), ne_eqb bw 4 (λ e. omega arith))

pub has_second_lem : (bw : ℕ) → 3 ≤ bw → bw ≤ 4 → has_second bw ≡ true
unfolding has_second seconds
has_second_lem bw h l = go (dec_lt bw 4)
  where
    go : Dec (bw < 4) → ltb 0 (cond (eqb bw 3) 2 (cond (eqb bw 4) 6 0)) ≡ true
    go (yes m) = let e : bw ≡ 3 = omega arith in rw e refl
    go (no m) = let e : bw ≡ 4 = omega arith in rw e refl

-- ---- what the row tells

pub row_size : (bw : ℕ) (w : List ℕ) → length (row_in bw w) ≡ positions bw
unfolding row_in
row_size bw w = length_build (value_of w) (positions bw)

-- what is told of a channel
pub lent : (bw : ℕ) (w row : List ℕ) (c : ℕ) → bw ≤ 4 → 1 ≤ c → c ≤ 2 → present bw c ≡ true → row ≡ row_in bw w → Lent bw w row c
unfolding value_in row_in
lent bw w row c l p q h e = record {
  known = l;
  first_or_second = (p, q);
  there = h;
  the_row = λ k m. (
    rw (e, length_build (value_of w) (positions bw)) (place k m),
    rw e
        (get_d_build (value_of w) (positions bw) (position_in c k) 0 (place k m)),
  );
}
  where
    place : (k : ℕ) → k < subfields_in bw c → position_in c k < positions bw
    place k m = go (ℕ_discrete c 1)
      where
        one : (c : ℕ) → c ≡ 1 → k < subfields_in bw c → position_in c k < positions bw
        one c z n = let o : k < subfields_in bw 1 = rw z at n in rw z (omega (arith, place_1 bw k l o))

        two : (c : ℕ) → c ≡ 2 → k < subfields_in bw c → position_in c k < positions bw
        two c z n = let o : k < subfields_in bw 2 = rw z at n in rw z (omega (arith, place_2 bw k l o))

        go : Dec (c ≡ 1) → position_in c k < positions bw
        go (yes z) = one c z m
        go (no z) = two c (omega arith) m

pub lent_1 : (bw : ℕ) (w row : List ℕ) → bw ≤ 4 → row ≡ row_in bw w → Lent bw w row 1
lent_1 bw w row l e = lent bw w row 1 l (omega arith) (omega arith) (present_1 bw) e

-- ---- the checks, of its parts

pub first_check_lem : (bw : ℕ) (w : List ℕ) (x n : ℕ) → x ≡ first_part_in bw w 1 → n ≡ first_bits bw → x / 2 ^ n ≡ first_check bw w
unfolding first_part_in first_check
first_check_lem bw w x n e f = rw (e, f) (sealed_check (first_of bw (overflow_in w) (value_in w 1)) (first_bits bw)
    (first_less bw (overflow_in w) (value_in w 1)))

pub second_check_lem : (bw : ℕ) (w : List ℕ) (y n : ℕ) → bw ≤ 4 → y ≡ second_part_in bw w 1 → n ≡ second_bits bw → y / 2 ^ n ≡ second_word bw
    (second_check bw w)
unfolding second_part_in second_part second_check second_word
second_check_lem bw w y n l e f = rw (e, f) (go (ltb bw 3) refl)
  where
    x : ℕ
    x = second_of bw (value_in w 1)

    go : (t : Bool) → ltb bw 3 ≡ t → cond (has_second bw) (sealed_of x (second_bits bw)) 0 / 2 ^ second_bits bw ≡ cond t 0 (check_from 255 x (second_bits bw))
    go true g = rw (has_none bw (ltb-true bw 3 g)) (zero-div (2 ^ second_bits bw))
    go false g = rw (has_second_lem bw (ltb-false bw 3 g) l) (sealed_check x (second_bits bw) (second_less bw (value_in w 1)))
