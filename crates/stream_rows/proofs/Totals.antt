-- How many rows there are: 02's counts, and the closed form of those with a given number of entries of at least 2. The checker computes both.
use mathlib.Core.Path.{◌≡◌, refl}
use mathlib.Core.Bool.{Bool, true, false}
use mathlib.Core.List.{[], ◌∷◌}
use Prim.Native.Nat.{ℕ, ◌+◌, ◌-◌, ◌*◌, ◌/◌, ◌%◌, ◌≤◌, ◌<◌, min}
use native.Mathlib.Decide.{dec_lt}
use native.Mathlib.Omega.{arith}
use lib.Dec.{leb, eqb}
use lib.ListN.{length}
use mir.Val.{bool_byte}
use borrow.Author.Tests.{leb-true, eqb-true}
use Rattle.answer.specs.Every.{every}
use Rattle.answer.specs.Lists.{build}
use Rattle.answer.proofs.Every.{every_at}
use Rattle.stream_rows.specs.Engine.{gather, with_three, with_two, all_rows, before_two}
use Rattle.stream_rows.specs.Worked.{the_rows}

-- "Five users have 49 rows, six 54, seven 50": from 2 users to 8
pub row_counts : build (λ i. length (the_rows (2 + i))) 7 ≡ 10 ∷ 20 ∷ 35 ∷ 49 ∷ 54 ∷ 50 ∷ 41 ∷ []
unfolding build gather with_three with_two all_rows
row_counts = refl

-- ---- where the code starts: past the ten rows with fewer than 3 entries of at least 2, or at the first
ten_before : (users : ℕ) → users ≤ 8 → before_two users 3 ≡ 10
unfolding build gather with_three with_two before_two
ten_before users l = eqb-true _ _ (every_at (λ users. eqb (before_two users 3) 10) 9 refl users (omega arith))

past_ten : (users number : ℕ) → 10 ≤ number → number < length (the_rows users) → 3 ≤ users
unfolding build gather with_three with_two all_rows
past_ten users number l m = go (dec_lt users 3)
  where
    go : Dec (users < 3) → 3 ≤ users
    go (yes h) = omega (arith, leb-true (length (the_rows users)) 10 (every_at (λ users. leb (length (the_rows users)) 10) 3 refl users h))
    go (no h) = omega arith

pub record Starts (users number past : ℕ) : Type 0 where
  pub no_more : past ≤ 1
  pub from_there : 10 * past ≤ number
  pub two_most : 3 * past ≤ users
  pub stepped : number - 10 * past + before_two users (3 * past) ≡ number

pub starts : (users number : ℕ) (t : Bool) → leb 10 number ≡ t → users ≤ 8 → number < length (the_rows users) → Starts users number (bool_byte t)
unfolding gather before_two
starts users number true e l m =
    let h = leb-true 10 number e in
    record {
      no_more = omega arith;
      from_there = omega arith;
      two_most = past_ten users number h m;
      stepped = omega (arith, ten_before users l);
    }
starts users number false e l m = record { no_more = omega arith; from_there = omega arith; two_most = omega arith; stepped = omega arith }

-- ---- the rows with a given a, for at most 8 users
-- what holds at each of them, computed at all
each : (t : ℕ → ℕ → Bool) → every (λ k. t (k / 9) (k % 9)) 81 ≡ true → (users a : ℕ) → users ≤ 8 → a ≤ 8 → t users a ≡ true
each t e users a l m =
    let k = 9 * users + a in
    let d : k / 9 ≡ users = omega arith in
    let r : k % 9 ≡ a = omega arith in
    rw (d, r) at (every_at (λ k. t (k / 9) (k % 9)) 81 e k (omega arith))

-- what the code works out on the way
abbrev leaves : ℕ → ℕ → ℕ
leaves users a = min (16 - users - a) (2 * a)

abbrev past : ℕ → ℕ → ℕ
past users a = leaves users a - min (leaves users a) a

abbrev square : ℕ → ℕ
square s = (s + 2) * (s + 2)

abbrev twice : ℕ → ℕ
twice e = e * (e + 1)

-- the closed form, with s left to the other entries and e of it above a
pub record Closed (users a s e : ℕ) : Type 0 where
  pub square_small : square s ≤ 400
  pub twice_small : twice e ≤ 400
  pub no_less : twice e / 2 ≤ square s / 4
  pub exactly : square s / 4 - twice e / 2 ≡ length (with_two users a)

pub closed : (users a s m : ℕ) → users ≤ 8 → a ≤ 8 → s ≡ min (16 - users - a) (2 * a) → m ≡ min s a → Closed users a s (s - m)
unfolding build gather with_three with_two
closed users a s m l h p q = rw (q, p) (record {
  square_small = leb-true _ _ (each (λ users a. leb (square (leaves users a)) 400) refl users a l h);
  twice_small = leb-true _ _ (each (λ users a. leb (twice (past users a)) 400) refl users a l h);
  no_less = leb-true _ _ (each (λ users a. leb (twice (past users a) / 2) (square (leaves users a) / 4)) refl users a l h);
  exactly =
      eqb-true _ _
      (each (λ users a. eqb (square (leaves users a) / 4 - twice (past users a) / 2) (length (with_two users a))) refl users a l h);
})
