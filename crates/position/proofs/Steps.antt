-- The steps of the walk, and that they lead to where the layout says.
use mathlib.Core.Path.{◌≡◌, sym, ◌∙◌, ap}
use mathlib.Core.Bool.{Bool, true, false, cond}
use Prim.Native.Nat.{ℕ, ◌+◌, ◌-◌, ◌*◌, ◌/◌, ◌%◌, ◌≤◌, ◌<◌}
use native.Mathlib.Decide.{dec_lt}
use native.Mathlib.Omega.{arith}
use lib.Dec.{eqb, ltb}
use borrow.Author.Tests.{lt-ltb, le-ltb, eq-eqb, ne_eqb}
use Rattle.channel.specs.Layout.{firsts, seconds, first_bits, second_at, second_bits, has_second, common, subfields, value_at}
use Rattle.channel.proofs.Laws.{firsts_le}
use Rattle.position.specs.Engine.{past_check, past_user}

-- how far the walk has come, from the first bit of the common field, when k subfields are read
unfoldable pub reached : ℕ → ℕ → ℕ
reached bw k = cond (ltb (firsts bw) k) (second_at bw + 9 * (k - firsts bw)) (17 + 9 * k)

pub reached_none : (bw : ℕ) → reached bw 0 ≡ 17
unfolding reached
reached_none bw = rw (le-ltb (firsts bw) 0 (omega arith))

pub reached_le : (bw k : ℕ) → k ≤ 8 → reached bw k ≤ 117
unfolding reached second_at first_bits
reached_le bw k l = go (ltb (firsts bw) k)
  where
    go : (t : Bool) → cond t (17 + 9 * firsts bw + 10 + 9 * (k - firsts bw)) (17 + 9 * k) ≤ 117
    go true = omega (arith, firsts_le bw)
    go false = omega (arith, firsts_le bw)

-- the next subfield is where the layout says
pub value_reached : (bw at k : ℕ) → past_check (at + reached bw k) (at + first_bits bw) ≡ at + value_at bw k
unfolding past_check reached value_at second_at first_bits
value_reached bw at k = go (dec_lt k (firsts bw)) (dec_lt (firsts bw) k)
  where
    n : ℕ
    n = firsts bw

    go : Dec (k < n) → Dec (n < k) → past_check (at + reached bw k) (at + first_bits bw) ≡ at + value_at bw k
    go (yes l) m = rw (le-ltb n k (omega arith), lt-ltb k n l, ne_eqb (at + (17 + 9 * k)) (at + (17 + 9 * n)) (λ e. omega arith))
    go (no l) (yes m) = rw (lt-ltb n k m, le-ltb k n (omega arith), ne_eqb (at + (17 + 9 * n + 10 + 9 * (k - n))) (at + (17 + 9 * n)) (λ e. omega arith))
    go (no l) (no m) =
        let e : k ≡ n = omega arith in
        rw (le-ltb n k (omega arith), le-ltb k n (omega arith), eq-eqb (at + (17 + 9 * k)) (at + (17 + 9 * n)) (ap (λ (x : ℕ). at + (17 + 9 * x)) e))
        (omega arith)

-- and it is read
pub reached_next : (bw at k : ℕ) → at + value_at bw k + 9 ≡ at + reached bw (k + 1)
unfolding reached value_at second_at first_bits
reached_next bw at k = go (dec_lt k (firsts bw))
  where
    n : ℕ
    n = firsts bw

    go : Dec (k < n) → at + value_at bw k + 9 ≡ at + reached bw (k + 1)
    go (yes l) = rw (lt-ltb k n l, le-ltb n (k + 1) (omega arith)) (omega arith)
    go (no l) = rw (le-ltb k n (omega arith), lt-ltb n (k + 1) (omega arith)) (omega arith)

-- after the last one, check and tail end the common field
pub reached_all : (bw at : ℕ) → at + reached bw (subfields bw) + 10 ≡ at + common bw
unfolding reached subfields common has_second second_bits second_at first_bits
reached_all bw at = go (dec_lt 0 (seconds bw))
  where
    n : ℕ
    n = firsts bw

    m : ℕ
    m = seconds bw

    go : Dec (0 < m) → at + reached bw (subfields bw) + 10 ≡ at + common bw
    go (yes l) = rw (lt-ltb 0 m l, lt-ltb n (n + m) (omega arith)) (omega arith)
    go (no l) = rw (le-ltb 0 m (omega arith), le-ltb n (n + m) (omega arith)) (omega arith)

-- where the walk stands, in blocks of n fields that start at `at`, when i of them are read
unfoldable pub stands : ℕ → ℕ → ℕ → ℕ
stands at n i = at + 54 * (i / 2) + cond (ltb i n) (22 * (i % 2)) (32 * (i % 2))

pub stands_first : (at n : ℕ) → at ≡ stands at n 0
unfolding stands
stands_first at n = go (ltb 0 n)
  where
    go : (t : Bool) → at ≡ at + 54 * (0 / 2) + cond t (22 * (0 % 2)) (32 * (0 % 2))
    go true = omega arith
    go false = omega arith

-- the next User field is where the layout says
pub stands_user : (at n i : ℕ) → i < n → stands at n i ≡ at + 54 * (i / 2) + 22 * (i % 2)
unfolding stands
stands_user at n i l = rw (lt-ltb i n l)

-- after the last one, the blocks end
pub stands_last : (at n : ℕ) → stands at n n ≡ at + 54 * (n / 2) + 32 * (n % 2)
unfolding stands
stands_last at n = rw (le-ltb n n (omega arith))

-- and it is read
pub stands_next : (at n i : ℕ) → i < n → past_user (stands at n i) i n ≡ stands at n (i + 1)
unfolding past_user
stands_next at n i l = rw (stands_user at n i l) (go (dec_lt (i % 2) 1) (dec_lt (i + 1) n))
  where
    here : ℕ
    here = at + 54 * (i / 2) + 22 * (i % 2)

    after : i + 1 ≡ n → stands at n (i + 1) ≡ at + 54 * ((i + 1) / 2) + 32 * ((i + 1) % 2)
    after e = ap (stands at n) e ∙ stands_last at n ∙ ap (λ (k : ℕ). at + 54 * (k / 2) + 32 * (k % 2)) (sym e)

    go : Dec (i % 2 < 1) → Dec (i + 1 < n)
        → cond (eqb (i % 2) 1) (here + 32) (cond (eqb (i + 1) n) (here + 32) (here + 22)) ≡ stands at n (i + 1)
    go (no e) (yes m) = rw (eq-eqb (i % 2) 1 (omega arith), stands_user at n (i + 1) m) (omega arith)
    go (no e) (no m) = rw (eq-eqb (i % 2) 1 (omega arith), after (omega arith)) (omega arith)
    go (yes e) (yes m) = rw (ne_eqb (i % 2) 1 (λ x. omega arith), ne_eqb (i + 1) n (λ x. omega arith), stands_user at n (i + 1) m) (omega arith)
    go (yes e) (no m) = rw (ne_eqb (i % 2) 1 (λ x. omega arith), eq-eqb (i + 1) n (omega arith), after (omega arith)) (omega arith)

pub stands_le : (at n i : ℕ) → i ≤ 72 → stands at n i ≤ at + 1976
unfolding stands
stands_le at n i l = go (ltb i n)
  where
    go : (t : Bool) → at + 54 * (i / 2) + cond t (22 * (i % 2)) (32 * (i % 2)) ≤ at + 1976
    go true = omega arith
    go false = omega arith
