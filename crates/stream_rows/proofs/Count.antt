-- A row as it is lent: whether it is one of 02's, and the counts that the code takes of it.
use mathlib.Core.Path.{◌≡◌, refl, sym, ◌∙◌}
use mathlib.Core.Bool.{Bool, true, false, cond, ◌&&◌}
use mathlib.Core.List.{List}
use Prim.Native.Nat.{ℕ, zero, suc, ◌+◌, ◌≤◌, ◌<◌}
use native.Mathlib.Omega.{arith}
use lib.Dec.{leb}
use lib.ListN.{length}
use mir.Val.{bool_byte}
use borrow.Author.Tests.{le-leb, leb-true}
use Rattle.answer.specs.Decides.{Decides}
use Rattle.answer.specs.Every.{every}
use Rattle.answer.specs.Lists.{at}
use Rattle.answer.specs.Tally.{tally}
use Rattle.answer.proofs.Every.{both_left, both_right, every_next, every_at, all_every}
use Rattle.answer.proofs.Tally.{tally_step, tally_le}
use Rattle.stream_rows.specs.Rows.{sum, Listed}
use Rattle.stream_rows.specs.Engine.{previous, fits, before_two, before_three, Numbered, Counting}
use Rattle.stream_rows.specs.Worked.{is_listed, WorkedTest}
use Rattle.stream_rows.specs.Result.{number_of}
use Rattle.stream_rows.proofs.Shapes.{at_least, Falls, IsRow, falls_row, row_sums}
use Rattle.stream_rows.proofs.Worked.{number_within, number_row}
use Rattle.stream_rows.proofs.Number.{number_is}

-- ---- entries that fit are streams that never rise
module _ (row : List ℕ) (n : ℕ) where
  pub fits_falls : every (fits row) n ≡ true → Falls n (at row)
  unfolding fits
  fits_falls e = record { from_1 = from_1; to_4 = to_4; never_rise = λ i l. no_more (suc i) l }
    where
      here : (i : ℕ) → i < n → leb 1 (at row i) && leb (at row i) (previous (at row) i) ≡ true
      here i l = every_at (fits row) n e i l

      from_1 : (i : ℕ) → i < n → 1 ≤ at row i
      from_1 i l = leb-true 1 (at row i) (both_left _ (leb (at row i) (previous (at row) i)) (here i l))

      no_more : (i : ℕ) → i < n → at row i ≤ previous (at row) i
      no_more i l = leb-true (at row i) (previous (at row) i) (both_right (leb 1 (at row i)) _ (here i l))

      to_4 : (i : ℕ) → i < n → at row i ≤ 4
      to_4 zero l = no_more zero l
      to_4 (suc i) l = omega (arith, no_more (suc i) l, to_4 i (omega arith))

  pub falls_fits : Falls n (at row) → every (fits row) n ≡ true
  unfolding fits
  falls_fits f = all_every (fits row) n (λ i l. rw (le-leb 1 (at row i) (f.from_1 i l)) (le-leb (at row i) (previous (at row) i) (no_more i l)))
    where
      no_more : (i : ℕ) → i < n → at row i ≤ previous (at row) i
      no_more zero l = f.to_4 zero l
      no_more (suc i) l = f.never_rise i l

-- the test of 21 is true exactly where 02 lists the row
pub is_listed_lem : (row : List ℕ) → Decides (is_listed row) (Listed (length row) row)
unfolding is_listed
is_listed_lem row = record {
  yes = λ e.
      (let f = fits_falls row (length row) (both_left _ (leb (sum row) 16) e) in
      record {
        as_many = refl;
        from_1 = f.from_1;
        to_4 = f.to_4;
        never_rise = f.never_rise;
        at_most_16 = leb-true (sum row) 16 (both_right (every (fits row) (length row)) _ e);
      });
  no = λ e l.
      (let f = falls_fits row (length row) (record { from_1 = l.from_1; to_4 = l.to_4; never_rise = l.never_rise }) in
      let t : every (fits row) (length row) && leb (sum row) 16 ≡ true = rw (f, le-leb (sum row) 16 l.at_most_16) in
      let z : ◌≡◌ {A = ℕ} 0 1 = cc in
      omega arith);
}

pub worked_test : (row : List ℕ) → WorkedTest row
worked_test row = record { decides = is_listed_lem row }

-- ---- the counts: of none, and of one entry more
pub counting_start : (row : List ℕ) → Counting row 0 true 0 0 0
counting_start row = record { fit_is = refl; two_is = refl; three_is = refl; four_is = refl }

pub byte_cond : (t : Bool) → bool_byte t ≡ cond t 1 0
byte_cond true = refl
byte_cond false = refl

pub byte_le : (t : Bool) → bool_byte t ≤ 1
byte_le true = omega arith
byte_le false = omega arith

count_step : (t : ℕ → Bool) (n m : ℕ) → m ≡ tally t n → m + bool_byte (t n) ≡ tally t (n + 1)
count_step t n m e = rw (byte_cond (t n)) (tally_step t n m e)

module _ (row : List ℕ) (n : ℕ) {fit : Bool} {a b c : ℕ} (k : Counting row n fit a b c) where
  pub counting_step : (last : ℕ) → last ≡ previous (at row) n
      → Counting row (n + 1) (fit && (leb 1 (at row n) && leb (at row n) last)) (a + bool_byte (leb 2 (at row n))) (b + bool_byte (leb 3 (at row n)))
      (c + bool_byte (leb 4 (at row n)))
  unfolding fits
  counting_step last e = record {
    fit_is = rw (k.fit_is, e) (every_next (fits row) n);
    two_is = count_step (λ i. leb 2 (at row i)) n a k.two_is;
    three_is = count_step (λ i. leb 3 (at row i)) n b k.three_is;
    four_is = count_step (λ i. leb 4 (at row i)) n c k.four_is;
  }

  pub counts_le : (a ≤ n) × (b ≤ n) × (c ≤ n)
  counts_le = (
    omega (arith, k.two_is, tally_le (λ i. leb 2 (at row i)) n),
    omega (arith, k.three_is, tally_le (λ i. leb 3 (at row i)) n),
    omega (arith, k.four_is, tally_le (λ i. leb 4 (at row i)) n),
  )

-- ---- of a whole row
module _ (row : List ℕ) {fit : Bool} {a b c : ℕ} (k : Counting row (length row) fit a b c) where
  counts_row : fit ≡ true → IsRow (length row) row a b c
  unfolding at_least
  counts_row e = rw (k.two_is, k.three_is, k.four_is) (falls_row (length row) row refl (fits_falls row (length row) (sym k.fit_is ∙ e)))

  -- the test by the counts
  pub counts_listed : (fit && leb (length row + a + b + c) 16) ≡ is_listed row
  unfolding is_listed
  counts_listed = rw (← k.fit_is) (go fit refl)
    where
      go : (t : Bool) → fit ≡ t → (t && leb (length row + a + b + c) 16) ≡ (t && leb (sum row) 16)
      go true e = rw (row_sums (counts_row e))
      go false e = refl

  -- the number by the counts, of a row that is listed
  module _ (e : is_listed row ≡ true) where
    fit_true : fit ≡ true
    fit_true = both_left fit _ (counts_listed ∙ e)

    shape_numbered : Numbered (length row) (before_two (length row) a + (before_three (length row) a b + c)) a b c
    shape_numbered =
        let r = counts_row fit_true in
        record {
          two = r.two_most;
          three = r.three_most;
          four = r.four_most;
          at_most_16 = leb-true (length row + a + b + c) 16 (both_right fit _ (counts_listed ∙ e));
          exactly = refl;
        }

    pub counts_numbered : Numbered (length row) (number_of row) a b c
    counts_numbered =
        let n = shape_numbered in
        let e = number_is row _ (number_within (length row) n) (number_row (length row) n ∙ sym (counts_row fit_true).is_row) in
        rw e n
