-- The worked list counts 02's rows, for every number of users, and is the only list that does.
use mathlib.Core.Path.{◌≡◌, refl, sym, ◌∙◌, ap}
use mathlib.Core.List.{List, []}
use Prim.Native.Nat.{ℕ, ◌+◌, ◌-◌, ◌≤◌, ◌<◌}
use native.Mathlib.Nat.{le_trans}
use native.Mathlib.Numerals.{add-one}
use native.Mathlib.Omega.{arith}
use lib.ListN.{length}
use Rattle.answer.specs.Lists.{at}
use Rattle.answer.proofs.Lists.{length_build, get_d_build}
use Rattle.stream_rows.specs.Rows.{Listed, Before, row_in, Counted}
use Rattle.stream_rows.specs.Engine.{entry_of, row_of, twos, threes, fours, with_three, with_two, all_rows, before_two, before_three, Numbered}
use Rattle.stream_rows.specs.Worked.{the_rows, Worked}
use Rattle.stream_rows.proofs.Gather.{gather_next, gather_within, step_over, gather_at, gather_all, Rising, gather_rising}
use Rattle.stream_rows.proofs.Shapes.{row_at_lem, row_listed, before_by_two, before_by_three, before_by_four, at_least, falls_row, row_sums}
use Rattle.stream_rows.proofs.Only.{only_one}

module _ (users : ℕ) where
  -- ---- a, b and c are each at most what is before it
  two_most : (a : ℕ) → a < twos users → a ≤ users
  two_most a l = omega arith

  three_most : (a b : ℕ) → b < threes users a → b ≤ a
  three_most a b l = omega arith

  three_sum : (a b : ℕ) → b < threes users a → users + a + b ≤ 16
  three_sum a b l = omega arith

  three_least : (a b : ℕ) → b ≤ a → users + a + b ≤ 16 → b < threes users a
  three_least a b l m = omega arith

  four_most : (a b c : ℕ) → c < fours users a b → c ≤ b
  four_most a b c l = omega arith

  -- ---- with a and b given
  pub three_length : (a b : ℕ) → length (with_three users a b) ≡ fours users a b
  unfolding with_three
  three_length a b = length_build (row_of users a b) (fours users a b)

  three_at : (a b c : ℕ) → c < fours users a b → row_in (with_three users a b) c ≡ row_of users a b c
  unfolding with_three
  three_at a b c l = get_d_build (row_of users a b) (fours users a b) c [] l

  -- what holds of each row with them
  three_all : (P : List ℕ → Type 0) (a b : ℕ) → ((c : ℕ) → c < fours users a b → P (row_of users a b c))
      → (k : ℕ) → k < length (with_three users a b) → P (row_in (with_three users a b) k)
  three_all P a b h k l = let m : k < fours users a b = omega (arith, three_length a b) in rw (three_at a b k m) (h k m)

  -- ---- with a given
  two_all : (P : List ℕ → Type 0) (a : ℕ) → ((b c : ℕ) → b < threes users a → c < fours users a b → P (row_of users a b c))
      → (k : ℕ) → k < length (with_two users a) → P (row_in (with_two users a) k)
  unfolding with_two
  two_all P a h = gather_all [] (with_three users a) P (threes users a) (λ b l. three_all P a b (λ c m. h b c l m))

  rows_all : (P : List ℕ → Type 0) → ((a b c : ℕ) → a < twos users → b < threes users a → c < fours users a b → P (row_of users a b c))
      → (k : ℕ) → k < length (the_rows users) → P (row_in (the_rows users) k)
  unfolding all_rows
  rows_all P h = gather_all [] (with_two users) P (twos users) (λ a l. two_all P a (λ b c m q. h a b c l m q))

  -- ---- the order
  three_rising : (a b : ℕ) → a < twos users → b < threes users a → Rising [] Before (with_three users a b)
  three_rising a b l m = record {
    rises = λ c c' h k.
        let e = three_length a b in
        rw (three_at a b c (omega arith), three_at a b c' (omega arith)) (before_by_four users a b c c' h (omega arith));
  }

  two_rising : (a : ℕ) → a < twos users → Rising [] Before (with_two users a)
  unfolding with_two
  two_rising a l =
      gather_rising [] Before (with_three users a) (threes users a) (λ b. three_rising a b l)
      (λ b b' j j' h k m m'.
      three_all (λ r. Before r (row_in (with_three users a b') j')) a b
      (λ c q.
      three_all (λ r'. Before (row_of users a b c) r') a b'
      (λ c' q'. before_by_three users a b c b' c' h (le_trans (three_most a b' k) (two_most a l)) (four_most a b c q) (four_most a b' c' q'))
      j' m')
      j m)

  all_rising : Rising [] Before (the_rows users)
  unfolding all_rows
  all_rising =
      gather_rising [] Before (with_two users) (twos users) two_rising
      (λ a a' j j' h k m m'.
      two_all (λ r. Before r (row_in (with_two users a') j')) a
      (λ b c l q.
      two_all (λ r'. Before (row_of users a b c) r') a'
      (λ b' c' l' q'.
      before_by_two users a b c a' b' c' h (two_most a' k) (three_most a b l) (four_most a b c q) (three_most a' b' l') (four_most a' b' c' q'))
      j' m')
      j m)

  -- ---- stepping over all rows with an a, and over all with a b
  pub two_next : (a : ℕ) → before_two users (a + 1) ≡ before_two users a + length (with_two users a)
  unfolding before_two
  two_next a = rw (add-one a) (gather_next (with_two users) a)

  pub three_next : (a b : ℕ) → before_three users a (b + 1) ≡ before_three users a b + fours users a b
  unfolding before_three
  three_next a b =
      ap (before_three users a) (add-one b) ∙ gather_next (with_three users a) b ∙ ap (λ (n : ℕ). before_three users a b + n) (three_length a b)

  pub two_over : (a n left number : ℕ) → users ≤ 8 → a ≤ users → n ≡ length (with_two users a) → left + before_two users a ≡ number
      → number < length (the_rows users) → n ≤ left → (a + 1 ≤ users) × (left - n + before_two users (a + 1) ≡ number)
  unfolding all_rows before_two
  two_over a n left number k l q e h m =
      let r = rw (← q) at (step_over (with_two users) (twos users) a left number (omega arith) e h (rw (← q) m)) in
      (two_most (a + 1) r.0, r.1)

  pub three_over : (a b n left number : ℕ) → b ≤ a → users + a + b ≤ 16 → n ≡ fours users a b → left + before_three users a b ≡ number
      → number < length (with_two users a) → n ≤ left
      → (b + 1 ≤ a) × (users + a + (b + 1) ≤ 16) × (left - n + before_three users a (b + 1) ≡ number)
  unfolding with_two before_three
  three_over a b n left number k l q e h m =
      let p = three_length a b ∙ sym q in
      let r = rw p at (step_over (with_three users a) (threes users a) b left number (three_least a b k l) e h (rw p m)) in
      (three_most a (b + 1) r.0, three_sum a (b + 1) r.0, r.1)

  -- ---- the number of a row by its a, b and c
  module _ {number a b c : ℕ} (n : Numbered users number a b c) where
    two_there : a < twos users
    two_there = omega (arith, n.two, n.at_most_16)

    three_there : b < threes users a
    three_there = three_least a b n.three (omega (arith, n.at_most_16))

    four_there : c < fours users a b
    four_there = omega (arith, n.four, n.at_most_16)

    three_within : before_three users a b + c < length (with_two users a)
    unfolding with_two before_three
    three_within = gather_within (with_three users a) (threes users a) b c three_there (rw (three_length a b) four_there)

    pub number_within : number < length (the_rows users)
    unfolding all_rows before_two
    number_within =
        omega (arith, n.exactly, gather_within (with_two users) (twos users) a (before_three users a b + c) two_there three_within)

    pub number_row : row_in (the_rows users) number ≡ row_of users a b c
    unfolding all_rows with_two before_two before_three
    number_row =
        ap (row_in (the_rows users)) n.exactly
        ∙ gather_at [] (with_two users) (twos users) a (before_three users a b + c) two_there three_within
        ∙ gather_at [] (with_three users a) (threes users a) b c three_there (rw (three_length a b) four_there)
        ∙ three_at a b c four_there

    pub row_entries : (i : ℕ) → i < users → at (row_in (the_rows users) number) i ≡ entry_of a b c i
    row_entries i l = ap (λ (r : List ℕ). at r i) number_row ∙ row_at_lem users a b c i l

-- a row of 02's has one
pub row_numbered : (users : ℕ) (row : List ℕ) → Listed users row
    → (number : ℕ)
    × Numbered users number (at_least 2 (at row) users) (at_least 3 (at row) users) (at_least 4 (at row) users)
    × (row ≡ row_of users (at_least 2 (at row) users) (at_least 3 (at row) users) (at_least 4 (at row) users))
row_numbered users row l =
    let r = falls_row users row l.as_many (record { from_1 = l.from_1; to_4 = l.to_4; never_rise = l.never_rise }) in
    let s = row_sums r in
    let m = l.at_most_16 in
    (_, record { two = r.two_most; three = r.three_most; four = r.four_most; at_most_16 = omega arith; exactly = refl }, r.is_row)

pub counted : (users : ℕ) → Counted users (the_rows users)
counted users = record {
  listed = rows_all users (Listed users) (λ a b c. row_listed users a b c);
  all = λ row l. (let n = row_numbered users row l in (n.0, number_within users n.1, number_row users n.1 ∙ sym n.2));
  ordered = (all_rising users).rises;
}

pub worked : (users : ℕ) → Worked users
worked users = record { counted = counted users; only = λ rows c. only_one c (counted users) }
