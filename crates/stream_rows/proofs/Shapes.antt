-- A row that never rises, by how many of its entries are at least 2, 3 and 4.
use mathlib.Core.Path.{◌≡◌, refl, sym, ◌∙◌, ap}
use mathlib.Core.Bool.{Bool, true, false, cond}
use mathlib.Core.List.{List, [], ◌∷◌, ◌++◌}
use Prim.Native.Nat.{ℕ, zero, suc, ◌+◌, ◌-◌, ◌≤◌, ◌<◌}
use native.Mathlib.Decide.{dec_lt}
use native.Mathlib.Omega.{arith}
use lib.Dec.{ltb, leb}
use lib.ListN.{length, get_or-eq_default}
use borrow.Author.Tests.{lt-ltb, le-ltb, le-leb, lt-leb, leb-true, leb-false}
use Rattle.answer.specs.Lists.{at, build}
use Rattle.answer.specs.Tally.{tally}
use Rattle.answer.proofs.Lists.{length_build, get_d_build, build_is}
use Rattle.answer.proofs.Tally.{tally_split, tally_mono, tally_under, tally_none, tally_all, tally_le}
use Rattle.stream_rows.specs.Rows.{sum, Listed, Before}
use Rattle.stream_rows.specs.Engine.{over, entry_of, row_of, twos, threes, fours}

-- ---- 1 for each of the first m
pub over_yes : (m i : ℕ) → i < m → over m i ≡ 1
unfolding over
over_yes m i l = rw (lt-ltb i m l)

pub over_no : (m i : ℕ) → m ≤ i → over m i ≡ 0
unfolding over
over_no m i l = rw (le-ltb i m l)

over_le : (m i : ℕ) → over m i ≤ 1
over_le m i = go (dec_lt i m)
  where
    go : Dec (i < m) → over m i ≤ 1
    go (yes l) = omega (arith, over_yes m i l)
    go (no l) = omega (arith, over_no m i (omega arith))

over_falls : (m i : ℕ) → over m (suc i) ≤ over m i
over_falls m i = go (dec_lt i m)
  where
    go : Dec (i < m) → over m (suc i) ≤ over m i
    go (yes l) = omega (arith, over_yes m i l, over_le m (suc i))
    go (no l) = omega (arith, over_no m (suc i) (omega arith))

-- ---- the sum
sum_one : (xs : List ℕ) (x : ℕ) → sum (xs ++ (x ∷ [])) ≡ sum xs + x
unfolding sum
sum_one [] x = omega arith
sum_one (y ∷ xs) x = omega (arith, sum_one xs x)

overs : ℕ → ℕ → ℕ
overs m n = tally (λ i. ltb i m) n

overs_all : (m n : ℕ) → m ≤ n → overs m n ≡ m
unfolding overs
overs_all m n l =
    let e : m + (n - m) ≡ n = omega arith in
    let s = tally_split (λ i. ltb i m) m (n - m) in
    let a = tally_all (λ i. ltb i m) m (λ k h. lt-ltb k m h) in
    let z = tally_none (λ k. ltb (m + k) m) (n - m) (λ k h. le-ltb (m + k) m (omega arith)) in
    ap (tally (λ i. ltb i m)) (sym e) ∙ omega arith

sum_built : (a b c n : ℕ) → sum (build (entry_of a b c) n) ≡ n + overs a n + overs b n + overs c n
unfolding sum build entry_of over overs
sum_built a b c zero = refl
sum_built a b c (suc n) = sum_one (build (entry_of a b c) n) (entry_of a b c n) ∙ omega (arith, sum_built a b c n)

module _ (users a b c : ℕ) where
  pub row_length : length (row_of users a b c) ≡ users
  unfolding row_of
  row_length = length_build (entry_of a b c) users

  pub row_at_lem : (i : ℕ) → i < users → at (row_of users a b c) i ≡ entry_of a b c i
  unfolding row_of
  row_at_lem i l = get_d_build (entry_of a b c) users i 0 l

  pub row_sum : a ≤ users → b ≤ users → c ≤ users → sum (row_of users a b c) ≡ users + a + b + c
  unfolding row_of
  row_sum h k l = omega (arith, sum_built a b c users, overs_all a users h, overs_all b users k, overs_all c users l)

  -- a row of the list is one of 02's
  pub row_listed : a < twos users → b < threes users a → c < fours users a b → Listed users (row_of users a b c)
  unfolding entry_of
  row_listed h k l =
      let s = row_sum (omega arith) (omega arith) (omega arith) in
      record {
        as_many = row_length;
        from_1 = λ i m. omega (arith, row_at_lem i m);
        to_4 = λ i m. omega (arith, row_at_lem i m, over_le a i, over_le b i, over_le c i);
        never_rise = λ i m.
            omega (arith, row_at_lem i (omega arith), row_at_lem (suc i) m, over_falls a i, over_falls b i, over_falls c i);
        at_most_16 = omega arith;
      }

-- ---- the order
-- rows that differ last at a place
built_before : (f g : ℕ → ℕ) (n p : ℕ) → p < n → f p < g p → ((i : ℕ) → p < i → f i ≡ g i) → Before (build f n) (build g n)
built_before f g n p l h e = record {
  place = p;
  smaller = rw (get_d_build f n p 0 l, get_d_build g n p 0 l) h;
  same_past = λ i m. go i m (dec_lt i n);
}
  where
    go : (i : ℕ) → p < i → Dec (i < n) → at (build f n) i ≡ at (build g n) i
    go i m (yes k) = get_d_build f n i 0 k ∙ e i m ∙ sym (get_d_build g n i 0 k)
    go i m (no k) =
        get_or-eq_default (build f n) 0 (omega (arith, length_build f n))
        ∙ sym (get_or-eq_default (build g n) 0 (omega (arith, length_build g n)))

module _ (users : ℕ) where
  pub before_by_two : (a b c a' b' c' : ℕ) → a < a' → a' ≤ users → b ≤ a → c ≤ b → b' ≤ a' → c' ≤ b'
      → Before (row_of users a b c) (row_of users a' b' c')
  unfolding row_of entry_of
  before_by_two a b c a' b' c' l m h k h' k' =
      let p = a' - 1 in
      built_before (entry_of a b c) (entry_of a' b' c') users p (omega arith)
      (omega (arith, over_no a p (omega arith), over_no b p (omega arith), over_no c p (omega arith), over_yes a' p (omega arith)))
      (λ i q.
      omega (
        arith,
        over_no a i (omega arith),
        over_no b i (omega arith),
        over_no c i (omega arith),
        over_no a' i (omega arith),
        over_no b' i (omega arith),
        over_no c' i (omega arith),
      ))

  pub before_by_three : (a b c b' c' : ℕ) → b < b' → b' ≤ users → c ≤ b → c' ≤ b' → Before (row_of users a b c) (row_of users a b' c')
  unfolding row_of entry_of
  before_by_three a b c b' c' l m h h' =
      let p = b' - 1 in
      built_before (entry_of a b c) (entry_of a b' c') users p (omega arith)
      (omega (arith, over_no b p (omega arith), over_no c p (omega arith), over_yes b' p (omega arith)))
      (λ i q. omega (arith, over_no b i (omega arith), over_no c i (omega arith), over_no b' i (omega arith), over_no c' i (omega arith)))

  pub before_by_four : (a b c c' : ℕ) → c < c' → c' ≤ users → Before (row_of users a b c) (row_of users a b c')
  unfolding row_of entry_of
  before_by_four a b c c' l m =
      let p = c' - 1 in
      built_before (entry_of a b c) (entry_of a b c') users p (omega arith) (omega (arith, over_no c p (omega arith), over_yes c' p (omega arith)))
      (λ i q. omega (arith, over_no c i (omega arith), over_no c' i (omega arith)))

-- ---- a row that never rises is known by its counts
-- how many of the first n entries are at least v
unfoldable pub at_least : ℕ → (ℕ → ℕ) → ℕ → ℕ
at_least v row n = tally (λ i. leb v (row i)) n

-- "streams 1 to 4 that never rise", whatever the sum
pub record Falls (n : ℕ) (row : ℕ → ℕ) : Type 0 where
  pub from_1 : (i : ℕ) → i < n → 1 ≤ row i
  pub to_4 : (i : ℕ) → i < n → row i ≤ 4
  pub never_rise : (i : ℕ) → suc i < n → row (suc i) ≤ row i

module _ {n : ℕ} {row : ℕ → ℕ} (f : Falls n row) where
  -- nor further on
  falls_on : (i j : ℕ) → i + j < n → row (i + j) ≤ row i
  falls_on i zero l = let e : i + 0 ≡ i = omega arith in rw e (omega arith)
  falls_on i (suc j) l =
      let e : i + suc j ≡ suc (i + j) = omega arith in
      rw e (omega (arith, f.never_rise (i + j) (omega arith), falls_on i j (omega arith)))

  falls_to : (i j : ℕ) → i ≤ j → j < n → row j ≤ row i
  falls_to i j l m = let e : i + (j - i) ≡ j = omega arith in rw e at (falls_on i (j - i) (omega arith))

  -- those at least v are the first
  over_is : (v i : ℕ) → i < n → over (at_least v row n) i ≡ cond (leb v (row i)) 1 0
  unfolding at_least
  over_is v i l = go (leb v (row i)) refl
    where
      t : ℕ → Bool
      t j = leb v (row j)

      go : (s : Bool) → leb v (row i) ≡ s → over (tally (λ i. leb v (row i)) n) i ≡ cond s 1 0
      go true e =
          let h = leb-true v (row i) e in
          let a = tally_all t (suc i) (λ j m. le-leb v (row j) (omega (arith, falls_to j i (omega arith) l))) in
          over_yes (tally t n) i (omega (arith, tally_mono t (suc i) n l))
      go false e =
          let h = leb-false v (row i) e in
          let d : i + (n - i) ≡ n = omega arith in
          let s = tally_split t i (n - i) in
          let z = tally_none (λ j. t (i + j)) (n - i) (λ j m. lt-leb v (row (i + j)) (omega (arith, falls_to i (i + j) (omega arith) (omega arith)))) in
          let w : tally t n ≤ i = omega (arith, tally_le t i, ap (tally t) d) in
          over_no (tally t n) i w

  entry_is : (i : ℕ) → i < n → row i ≡ entry_of (at_least 2 row n) (at_least 3 row n) (at_least 4 row n) i
  unfolding entry_of
  entry_is i l = rw (over_is 2 i l, over_is 3 i l, over_is 4 i l) (go (row i) (f.from_1 i l) (f.to_4 i l))
    where
      go : (x : ℕ) → 1 ≤ x → x ≤ 4 → x ≡ 1 + cond (leb 2 x) 1 0 + cond (leb 3 x) 1 0 + cond (leb 4 x) 1 0
      go zero h k = absurd (omega arith)
      go (suc zero) h k = refl
      go (suc (suc zero)) h k = refl
      go (suc (suc (suc zero))) h k = refl
      go (suc (suc (suc (suc zero)))) h k = refl
      go (suc (suc (suc (suc (suc x))))) h k = absurd (omega arith)

-- no more at least a larger number
at_least_falls : (u v : ℕ) (row : ℕ → ℕ) (n : ℕ) → u ≤ v → at_least v row n ≤ at_least u row n
unfolding at_least
at_least_falls u v row n l =
    tally_under (λ i. leb v (row i)) (λ i. leb u (row i)) n (λ k m e. le-leb u (row k) (omega (arith, leb-true v (row k) e)))

at_least_le : (v : ℕ) (row : ℕ → ℕ) (n : ℕ) → at_least v row n ≤ n
unfolding at_least
at_least_le v row n = tally_le (λ i. leb v (row i)) n

pub record IsRow (users : ℕ) (row : List ℕ) (a b c : ℕ) : Type 0 where
  pub is_row : row ≡ row_of users a b c
  pub two_most : a ≤ users
  pub three_most : b ≤ a
  pub four_most : c ≤ b

pub falls_row : (users : ℕ) (row : List ℕ) → length row ≡ users → Falls users (at row)
    → IsRow users row (at_least 2 (at row) users) (at_least 3 (at row) users) (at_least 4 (at row) users)
unfolding row_of
falls_row users row e f = record {
  is_row = build_is (entry_of (at_least 2 (at row) users) (at_least 3 (at row) users) (at_least 4 (at row) users)) 0 row users e (entry_is f);
  two_most = at_least_le 2 (at row) users;
  three_most = at_least_falls 2 3 (at row) users (omega arith);
  four_most = at_least_falls 3 4 (at row) users (omega arith);
}

-- its sum
pub row_sums : {users a b c : ℕ} {row : List ℕ} → IsRow users row a b c → sum row ≡ users + a + b + c
row_sums {users} {a} {b} {c} r = ap sum r.is_row ∙ row_sum users a b c (omega arith) (omega arith) (omega arith)
