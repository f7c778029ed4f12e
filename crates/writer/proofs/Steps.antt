-- The steps of writing, for the code.
use mathlib.Core.Path.{◌≡◌, refl, sym, ◌∙◌, ap}
use mathlib.Core.Bool.{Bool, true, false, ◌&&◌}
use mathlib.Core.List.{List, [], ◌∷◌, ◌++◌}
use Prim.Native.Nat.{ℕ, ◌+◌, ◌-◌, ◌*◌, ◌^◌, ◌≤◌, ◌<◌}
use native.Mathlib.Decide.{dec_lt, ℕ_discrete}
use native.Mathlib.Omega.{arith}
use lib.Dec.{ltb}
use lib.ListN.{length, drop, take, set, length-drop, get_or-eq_default}
use lib.Seq.{get_or-set_same, get_or-set_other, get_or-take, get_or-drop, length-take-le}
use borrow.Author.Tests.{lt-ltb, le-ltb, ltb-false}
use Rattle.answer.specs.Answer.{refuse_if, ◌or◌}
use Rattle.answer.specs.Answer.{Outcome}
use Rattle.std.specs.Prelude.{Ok, Err}
use Rattle.answer.proofs.Order.{pass_left, pass_right, pass_if}
use Rattle.answer.specs.Lists.{at}
use Rattle.answer.specs.declared.Refusal.TheVariants.{UnknownBandwidth, NoFrameReads, TooFewBytes}
use Rattle.channel.specs.Layout.{present, subfields, end_of}
use Rattle.channel.proofs.Laws.{present_1}
use Rattle.words.specs.Engine.{user_field}
use Rattle.words.proofs.Laws.{user_field_lt}
use Rattle.halves.specs.Table.{check1}
use Rattle.candidate.specs.Engine.{Narrow, FieldsIn, field_in, first_in, count_in, needed, candidate}
use Rattle.candidate.specs.Length.{bytes_for}
use Rattle.candidate.proofs.Held.{count_in_le, needed_1, needed_2, present_length, absent_length}
use Rattle.candidate.proofs.Parts.{row_room}
use Rattle.writer.specs.Worked.{some_read}
use Rattle.judge.specs.Engine.{reads_to, row_in, Begun}
use Rattle.judge.proofs.Steps.{lent}
use Rattle.judge.proofs.Decided.{not_told}
use Rattle.writer.specs.Engine.{Turned, Given}
use Rattle.writer.specs.Result.{check13, check14, write_outcome, front}
use Rattle.writer.specs.Room.{no_channel_room}

-- the words of w from the eleventh up to i are made fields in v
pub record Turning (w : List ℕ) (i : ℕ) (v : List ℕ) : Type 0 where
  pub done : (j : ℕ) → 10 ≤ j → j < i → at v j ≡ user_field (at w j)
  pub left : (j : ℕ) → i ≤ j → at v j ≡ at w j

-- ---- the outcome

pub needed_is : (bw : ℕ) (w : List ℕ) (n m need : ℕ) → n ≡ count_in bw w 1 → m ≡ count_in bw w 2 → need ≡ bytes_for bw n m → need ≡ needed bw w
unfolding needed
needed_is bw w n m need en em e = e ∙ rw (en, em)

-- an unknown bandwidth, words that are not told, and told ones, by the room alone
pub one_outcome : (bw : ℕ) (w : List ℕ) (n m : ℕ) → 4 < bw → write_outcome bw w n m ≡ Err UnknownBandwidth
unfolding write_outcome check1
one_outcome bw w n m l = rw (lt-ltb 4 bw l) refl

pub thirteen_outcome : (bw : ℕ) (w : List ℕ) (n m : ℕ) → bw ≤ 4 → reads_to bw (candidate bw w 1) (candidate bw w 2) w ≡ false
    → write_outcome bw w n m ≡ Err NoFrameReads
unfolding write_outcome check1 check13 some_read
thirteen_outcome bw w n m l e = rw (le-ltb 4 bw l, e) refl

pub told_outcome : (bw : ℕ) (w : List ℕ) (n m need : ℕ) (o : Outcome) → bw ≤ 4 → reads_to bw (candidate bw w 1) (candidate bw w 2) w ≡ true
    → need ≡ needed bw w → o ≡ no_channel_room bw need n m → write_outcome bw w n m ≡ o
unfolding write_outcome check1 check13 some_read check14
told_outcome bw w n m need o l e d f = rw (le-ltb 4 bw l, e) (sym (f ∙ rw d))

pub record Room (bw : ℕ) (w : List ℕ) (n m : ℕ) : Type 0 where
  pub room_1 : length (candidate bw w 1) ≤ n
  pub room_2 : length (candidate bw w 2) ≤ m

pub writing_room : (bw : ℕ) (w : List ℕ) (n m : ℕ) → write_outcome bw w n m ≡ Ok tt → Room bw w n m
unfolding write_outcome check14 no_channel_room
writing_room bw w n m e =
    let f = pass_right (check1 bw or check13 bw w) _ e in
    let l : needed bw w ≤ n =
    ltb-false n (needed bw w) (pass_if _ _ (pass_left _ (refuse_if (present bw 2 && ltb m (needed bw w)) (TooFewBytes 2 (needed bw w))) f)) in
    let g = pass_if _ _ (pass_right (refuse_if (ltb n (needed bw w)) (TooFewBytes 1 (needed bw w))) _ f) in
    record {
      room_1 = rw (present_length bw w 1 (present_1 bw)) l;
      room_2 = second (present bw 2) refl g;
    }
  where
    second : (t : Bool) → present bw 2 ≡ t → (t && ltb m (needed bw w)) ≡ false → length (candidate bw w 2) ≤ m
    second true p g = rw (present_length bw w 2 p) (ltb-false m (needed bw w) g)
    second false p g = rw (absent_length bw w 2 p) (omega arith)

-- at the front of the lent bytes
pub front_is : (s : List ℕ) (need : ℕ) (d r : List ℕ) → length s ≡ need → r ≡ s → r ++ drop need d ≡ front s d
unfolding front
front_is s need d r e f = rw (f, e)

-- a channel of no bytes leaves them as they were
pub front_none : (s d : List ℕ) → length s ≡ 0 → d ≡ front s d
unfolding front
front_none [] d e = refl
front_none (x ∷ s) d e = absurd (omega arith)

-- ---- the User words made fields

pub turning_none : (w : List ℕ) → Turning w 10 w
turning_none w = record { done = λ i l m. absurd (omega arith); left = λ i l. refl }

pub turning_next : (w v : List ℕ) (i x : ℕ) → Turning w i v → i < length v → 10 ≤ i → x ≡ user_field (at v i) → Turning w (i + 1) (set v i x)
turning_next w v i x t l o e = record {
  done = λ j m n. go j m n (ℕ_discrete j i);
  left = λ j m. get_or-set_other v i j x 0 (λ z. omega arith) ∙ t.left j (omega arith);
}
  where
    go : (j : ℕ) → 10 ≤ j → j < i + 1 → Dec (j ≡ i) → at (set v i x) j ≡ user_field (at w j)
    go j m n (yes z) = rw z (get_or-set_same v i x 0 l ∙ e ∙ ap user_field (t.left i (omega arith)))
    go j m n (no z) = get_or-set_other v i j x 0 z ∙ t.done j m (omega arith)

-- ---- the User fields of each channel

-- a list from its k-th on, as the code has it
abbrev pub from : ℕ → List ℕ → List ℕ
from k l = take (length l - k) (drop k l)

from_length : (k : ℕ) (l : List ℕ) → length (from k l) ≡ length l - k
from_length k l = length-take-le (length l - k) (drop k l) (omega (arith, length-drop k l))

from_at : (k : ℕ) (l : List ℕ) (i : ℕ) → i < length l - k → at (from k l) i ≡ at l (k + i)
from_at k l i m = get_or-take (length l - k) (drop k l) i 0 m ∙ get_or-drop k l i 0

pub narrow_in : (bw : ℕ) (w : List ℕ) (c : ℕ) (f : List ℕ) → FieldsIn bw w c f → Narrow f
unfolding field_in
narrow_in bw w c f u = record { narrow = λ i. go i (dec_lt i (length f)) }
  where
    go : (i : ℕ) → Dec (i < length f) → at f i < 2 ^ 22
    go i (yes l) = rw (u.each i l) (user_field_lt (at w (first_in bw w c + i)))
    go i (no l) = rw (get_or-eq_default f 0 {n = i} (omega arith)) (omega arith)

module _ (bw : ℕ) (w row f : List ℕ) (n need v x y : ℕ) (g : Given bw w row f n need v x y) where
  pub first_fields : FieldsIn bw w 1 (take n f)
  unfolding field_in first_in
  first_fields =
      let l : length (take n f) ≡ n = length-take-le n f (omega (arith, g.count_1, g.count_all)) in
      record { counted = l ∙ g.count_1; each = λ i m. get_or-take n f i 0 (omega arith) ∙ g.each i (omega (arith, g.count_1, g.count_all)) }

  pub other_fields : FieldsIn bw w 2 (from n f)
  unfolding field_in first_in
  other_fields =
      let l = from_length n f in
      record {
        counted = l ∙ omega (arith, g.count_1, g.count_all);
        each = λ i m.
            let e : 10 + (n + i) ≡ 10 + count_in bw w 1 + i = omega (arith, g.count_1) in
            from_at n f i (omega arith) ∙ g.each (n + i) (omega arith) ∙ ap (λ (k : ℕ). user_field (at w k)) e;
      }

  pub first_reach : end_of bw (length (take n f)) ≤ 8 * need
  first_reach = omega (arith, ap (end_of bw) first_fields.counted, needed_1 bw w, g.enough)

  pub other_reach : end_of bw (length (from n f)) ≤ 8 * need
  other_reach = omega (arith, ap (end_of bw) other_fields.counted, needed_2 bw w, g.enough)

  pub row_reach : present bw 2 ≡ true → 2 * subfields bw ≤ length row
  row_reach h = omega (arith, row_room bw w row 2 (lent bw w row 2 g.known (omega arith) (omega arith) h g.the_row))

-- turned words, from the eleventh on
pub given_turned : (bw : ℕ) (w v row : List ℕ) (n m need o x y : ℕ) → bw ≤ 4 → row ≡ row_in bw w → n ≡ count_in bw w 1
    → length w ≡ 10 + (count_in bw w 1 + count_in bw w 2) → length v ≡ length w → Turned w v → need ≡ needed bw w → Begun bw w o x y
    → Given bw w row (from 10 v) n need o x y
given_turned bw w v row n m need o x y l r e c s t d b =
    let k = from_length 10 v in
    record {
      known = l;
      the_row = r;
      count_1 = e;
      count_all = omega arith;
      each = λ i h. from_at 10 v i (omega arith) ∙ t.turned (10 + i) (omega arith) (omega arith);
      enough = d;
      begun = b;
    }

-- more words than any frame has are not told
pub not_so_many : (bw : ℕ) (w : List ℕ) → bw ≤ 4 → 154 < length w → reads_to bw (candidate bw w 1) (candidate bw w 2) w ≡ false
not_so_many bw w l m = sym (not_told bw w l (λ t. omega (arith, t.counted, count_in_le bw w 1, count_in_le bw w 2)))
