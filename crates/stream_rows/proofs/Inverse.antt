-- 21 is given exactly where 02 says, an answer 0 is by 02's words alone, and decoding and encoding undo each other, by their answers and the lent row.
use mathlib.Core.Path.{◌≡◌, refl, sym, ◌∙◌, ap}
use mathlib.Core.Bool.{Bool, true, false, not, ◌||◌}
use mathlib.Core.List.{List}
use Prim.Native.Nat.{ℕ, ◌≤◌, ◌<◌}
use native.Mathlib.Omega.{arith}
use lib.Dec.{ltb, leb}
use lib.ListN.{length, take, drop}
use borrow.Author.Tests.{ltb-true, ltb-false, le-ltb, lt-leb, not-false}
use Rattle.answer.specs.Answer.{no, refuse_if, ◌or◌, answer_at}
use Rattle.answer.specs.declared.Answer.{Answer}
use Rattle.std.specs.Prelude.{Ok}
use Rattle.answer.specs.Lists.{at}
use Rattle.answer.proofs.Lists.{build_is, take_filled, drop_filled}
use Rattle.answer.proofs.Order.{pass_if, if_pass, or_pass}
use Rattle.answer.specs.declared.Refusal.TheVariants.{NoSuchStreams, BufferTooShort}
use Rattle.stream_rows.specs.Rows.{Listed, row_in, Counted, Configures}
use Rattle.stream_rows.specs.Worked.{the_rows, is_listed}
use Rattle.stream_rows.specs.Result.{not2to8, no_row, no_row_room, row_outcome, row_answer, row_after, not_row, number_of, number_answer}
use Rattle.stream_rows.proofs.Count.{is_listed_lem}
use Rattle.stream_rows.proofs.Judged.{neither_left, neither_right, up_to_8, RowPassed, row_passed, row_judged, number_judged}
use Rattle.stream_rows.proofs.Number.{encode_decode, decode_encode}
use Rattle.stream_rows.proofs.Only.{only_one}
use Rattle.stream_rows.proofs.Worked.{counted}

from_2_to_8 : (users : ℕ) → 2 ≤ users → users ≤ 8 → not2to8 users ≡ false
from_2_to_8 users l m = rw (le-ltb users 2 l, le-ltb 8 users m)

-- ---- a number
pub row_outcome_lem : (users number n : ℕ) → RowPassed users number n → row_outcome users number n ≡ Ok tt
unfolding row_outcome no_row no_row_room
row_outcome_lem users number n p =
    or_pass _ _
    (if_pass (not2to8 users || leb (length (the_rows users)) number) NoSuchStreams
    (rw (from_2_to_8 users p.from_2 p.to_8) (lt-leb (length (the_rows users)) number p.numbered)))
    (if_pass (ltb n users) (BufferTooShort users) (le-ltb n users p.room))

-- accepted exactly where the users are 2 to 8, the number is that of a row and there is room
pub row_accepted : (users number n : ℕ) → (row_answer users number n).number ≡ 0 → RowPassed users number n
unfolding row_outcome
row_accepted users number n z =
    let a = ((row_judged users number n).accepted z).1 in
    row_passed users number n (or_pass _ _ (a 0) (a 1))

module _ (users number : ℕ) (w : List ℕ) (p : RowPassed users number (length w)) where
  pub row_answered : row_answer users number (length w) ≡ no 0 0 users
  unfolding row_answer
  row_answered = rw (row_outcome_lem users number (length w) p)

  -- the row stands in front, "bytes past them keep what they held"
  pub row_written : take users (row_after users number w) ≡ row_in (the_rows users) number
  unfolding row_after
  row_written =
      let row = row_in (the_rows users) number in
      rw (row_outcome_lem users number (length w) p)
      (take_filled (at row) users w ∙ sym (build_is (at row) 0 row users ((counted users).listed number p.numbered).as_many (λ i l. refl)))

  pub past_kept : drop users (row_after users number w) ≡ drop users w
  unfolding row_after
  past_kept = rw (row_outcome_lem users number (length w) p) (drop_filled (at (row_in (the_rows users) number)) users w)

-- ---- a row
pub record NumberPassed (row : List ℕ) : Type 0 where
  pub from_2 : 2 ≤ length row
  pub to_8 : length row ≤ 8
  pub listed : Listed (length row) row

number_pass : (row : List ℕ) → not_row row ≡ Ok tt → NumberPassed row
unfolding not_row
number_pass row e =
    let t = pass_if (not2to8 (length row) || not (is_listed row)) NoSuchStreams e in
    let u = up_to_8 (length row) (neither_left _ (not (is_listed row)) t) in
    record {
      from_2 = u.0;
      to_8 = u.1;
      listed = (is_listed_lem row).yes (not-false (is_listed row) (neither_right (not2to8 (length row)) _ t));
    }

pass_number : (row : List ℕ) → NumberPassed row → not_row row ≡ Ok tt
unfolding not_row
pass_number row p =
    if_pass (not2to8 (length row) || not (is_listed row)) NoSuchStreams
    (rw (from_2_to_8 (length row) p.from_2 p.to_8, yes_true (is_listed row) (λ e. (is_listed_lem row).no e p.listed)))
  where
    yes_true : (t : Bool) → (t ≡ false → ⊥) → t ≡ true
    yes_true true h = refl
    yes_true false h = absurd (h refl)

-- accepted exactly where the users are 2 to 8 and 02 lists the row
pub number_accepted : (row : List ℕ) → (number_answer row).number ≡ 0 → NumberPassed row
number_accepted row z = number_pass row (((number_judged row).accepted z).1 0)

pub number_answered : (row : List ℕ) → NumberPassed row → number_answer row ≡ no 0 0 (number_of row)
unfolding number_answer
number_answered row p = rw (pass_number row p)

-- ---- by 02's words alone: in every list that counts the rows
pub configured : (users k : ℕ) (row : List ℕ) → k < length (the_rows users) → row_in (the_rows users) k ≡ row → Configures users k row
configured users k row l e = record {
  counted_so = λ rows c. (let s : rows ≡ the_rows users = only_one c (counted users) in rw s (l, e));
}

-- what is written for a number is the row that it configures
pub row_configured : (users number : ℕ) (w : List ℕ) → (row_answer users number (length w)).number ≡ 0
    → Configures users number (take users (row_after users number w))
row_configured users number w z =
    let p = row_accepted users number (length w) z in
    configured users number _ p.numbered (sym (row_written users number w p))

-- what is answered for a row is the number that configures it
pub number_configured : (row : List ℕ) → (number_answer row).number ≡ 0 → Configures (length row) (number_answer row).place row
number_configured row z =
    let p = number_accepted row z in
    let n = decode_encode (length row) row p.listed in
    rw (number_answered row p) (configured (length row) (number_of row) row n.0 n.1)

-- 21, of users from 2 to 8: "a number past the last row"
pub row_21 : (users number n : ℕ) (rows : List (List ℕ)) → (row_answer users number n).number ≡ 21 → 2 ≤ users → users ≤ 8 → Counted users rows
    → length rows ≤ number
unfolding row_answer row_outcome no_row no_row_room
row_21 users number n rows z l m c = go (ltb number (length rows)) (ltb n users) refl refl
  where
    go : (b t : Bool) → ltb number (length rows) ≡ b → ltb n users ≡ t → length rows ≤ number
    go false t h e = ltb-false number (length rows) h
    go true t h e =
        let s : rows ≡ the_rows users = only_one c (counted users) in
        let k : number < length (the_rows users) = rw s at (ltb-true number (length rows) h) in
        let f : (row_answer users number n).number ≡ (answer_at (refuse_if t (BufferTooShort users)) users).number =
        rw (from_2_to_8 users l m, lt-leb (length (the_rows users)) number k, e) in
        absurd (other t (sym f ∙ z))
      where
        other : (t : Bool) → (answer_at (refuse_if t (BufferTooShort users)) users).number ≡ 21 → ⊥
        other true e = omega arith
        other false e = omega arith

-- "or a row not listed"
pub number_21 : (row : List ℕ) → (number_answer row).number ≡ 21 → 2 ≤ length row → length row ≤ 8 → Listed (length row) row → ⊥
number_21 row z l m h =
    let e = number_answered row (record { from_2 = l; to_8 = m; listed = h }) in
    let w : ◌≡◌ {A = ℕ} 0 21 = sym (ap (λ (x : Answer). x.number) e) ∙ z in
    omega arith

-- ---- the two calls in turn
-- a number that is decoded, and its row encoded
pub encodes_back : (users number : ℕ) (w : List ℕ) → (row_answer users number (length w)).number ≡ 0
    → number_answer (take users (row_after users number w)) ≡ no 0 0 number
encodes_back users number w z =
    let p = row_accepted users number (length w) z in
    let row = row_in (the_rows users) number in
    let l = (counted users).listed number p.numbered in
    let e : length row ≡ users = l.as_many in
    let q : NumberPassed row = record { from_2 = rw e p.from_2; to_8 = rw e p.to_8; listed = rw e l } in
    rw (row_written users number w p) (number_answered row q ∙ ap (λ (n : ℕ). no 0 0 n) (encode_decode users number p.numbered))

-- a row that is encoded, and its number decoded
pub decodes_back : (row w : List ℕ) → (number_answer row).number ≡ 0 → length row ≤ length w
    → (row_answer (length row) (number_answer row).place (length w) ≡ no 0 0 (length row))
    × (take (length row) (row_after (length row) (number_answer row).place w) ≡ row)
decodes_back row w z l =
    let p = number_accepted row z in
    let n = decode_encode (length row) row p.listed in
    let q : RowPassed (length row) (number_of row) (length w)
    = record { from_2 = p.from_2; to_8 = p.to_8; numbered = n.0; room = l } in
    rw (number_answered row p) (row_answered (length row) (number_of row) w q, row_written (length row) (number_of row) w q ∙ n.1)
