-- The number of a row: decoding and encoding undo each other, over every number of users.
use mathlib.Core.Path.{◌≡◌, refl, sym, ◌∙◌, ap}
use mathlib.Core.Bool.{Bool, true, false}
use mathlib.Core.List.{List}
use Prim.Native.Nat.{ℕ, ◌<◌}
use native.Mathlib.Omega.{arith}
use lib.Dec.{eqb}
use lib.ListN.{length}
use lib.Seq.{ext_get_or}
use borrow.Author.Tests.{eq-eqb, eqb-true}
use Rattle.answer.specs.Every.{every}
use Rattle.answer.specs.Lists.{at}
use Rattle.answer.proofs.Every.{both_left, both_right, every_at, all_every}
use Rattle.answer.proofs.Least.{least_found}
use Rattle.stream_rows.specs.Rows.{Listed, row_in}
use Rattle.stream_rows.specs.Worked.{the_rows}
use Rattle.stream_rows.specs.Result.{same, number_of}
use Rattle.stream_rows.proofs.Only.{each_once}
use Rattle.stream_rows.proofs.Worked.{counted}

-- ---- rows with the same entries
same_true : (a b : List ℕ) → same a b ≡ true → a ≡ b
unfolding same
same_true a b e =
    let l = eqb-true (length a) (length b) (both_left _ (every (λ i. eqb (at a i) (at b i)) (length a)) e) in
    let h = both_right (eqb (length a) (length b)) _ e in
    ext_get_or 0 a b l (λ i m. eqb-true (at a i) (at b i) (every_at (λ i. eqb (at a i) (at b i)) (length a) h i m))

same_itself : (a : List ℕ) → same a a ≡ true
unfolding same
same_itself a = rw (eq-eqb (length a) (length a) refl) (all_every (λ i. eqb (at a i) (at a i)) (length a) (λ i l. eq-eqb (at a i) (at a i) refl))

-- ---- of a row of the list the number is where it stands
pub number_is : (row : List ℕ) (k : ℕ) → k < length (the_rows (length row)) → row_in (the_rows (length row)) k ≡ row → number_of row ≡ k
unfolding number_of
number_is row k l e =
    least_found (λ k. same (row_in (the_rows (length row)) k) row) (length (the_rows (length row))) k l
    (rw e (same_itself row))
    (λ j m. go j m (same (row_in (the_rows (length row)) j) row) refl)
  where
    go : (j : ℕ) → j < k → (t : Bool) → same (row_in (the_rows (length row)) j) row ≡ t → t ≡ false
    go j m true f =
        let s : j ≡ k = each_once (counted (length row)) j k (omega arith) l (same_true _ row f ∙ sym e) in
        let z : ◌≡◌ {A = ℕ} 0 1 = omega arith in cc
    go j m false f = refl

-- "encoding undoes it": the number of row k is k
pub encode_decode : (users k : ℕ) → k < length (the_rows users) → number_of (row_in (the_rows users) k) ≡ k
encode_decode users k l =
    let row = row_in (the_rows users) k in
    let e : length row ≡ users = ((counted users).listed k l).as_many in
    number_is row k (rw e l) (ap (λ (n : ℕ). row_in (the_rows n) k) e)

-- and a row of 02's is the row of its number
pub decode_encode : (users : ℕ) (row : List ℕ) → Listed users row → (number_of row < length (the_rows users)) × (row_in (the_rows users) (number_of row) ≡ row)
decode_encode users row l =
    let w = (counted users).all row l in
    let e : users ≡ length row = sym l.as_many in
    let n : number_of row ≡ w.0 = number_is row w.0 (rw (← e) w.1) (ap (λ (n : ℕ). row_in (the_rows n) w.0) (sym e) ∙ w.2) in
    (rw n w.1, rw n w.2)
