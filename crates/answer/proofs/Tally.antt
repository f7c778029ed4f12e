-- The laws of how many numbers below a bound pass a test.
use mathlib.Core.Path.{◌≡◌, refl, ap}
use mathlib.Core.Logic.{⊎_elim, ◌≢◌}
use mathlib.Core.Bool.{Bool, true, false, not, cond}
use Prim.Native.Nat.{ℕ, zero, suc, ◌+◌, ◌-◌, ◌≤◌, ◌<◌}
use native.Mathlib.Omega.{arith}
use native.Mathlib.Nat.{add-zero, add-suc, eq-or-lt_of_le, le_of_suc-le-suc}
use native.Mathlib.Numerals.{add-one}
use Rattle.answer.specs.Tally.{tally}

pub tally_cong : (t u : ℕ → Bool) (n : ℕ) → ((k : ℕ) → k < n → t k ≡ u k) → tally t n ≡ tally u n
tally_cong t u zero e = refl
tally_cong t u (suc n) e = rw (tally_cong t u n (λ k l. e k (omega arith)), e n (omega arith))

pub tally_split : (t : ℕ → Bool) (a b : ℕ) → tally t (a + b) ≡ tally t a + tally (λ k. t (a + k)) b
tally_split t a zero = rw (add-zero a) (omega arith)
tally_split t a (suc b) = rw (add-suc a b) (omega (arith, tally_split t a b))

-- a count does not fall where its bound rises
pub tally_mono : (t : ℕ → Bool) (a b : ℕ) → a ≤ b → tally t a ≤ tally t b
tally_mono t a b l =
    let s = tally_split t a (b - a) in
    let e : a + (b - a) ≡ b = omega arith in
    let f : tally t (a + (b - a)) ≡ tally t b = ap (tally t) e in
    omega arith

-- what passes a narrower test is no more
pub tally_under : (t u : ℕ → Bool) (n : ℕ) → ((k : ℕ) → k < n → t k ≡ true → u k ≡ true) → tally t n ≤ tally u n
tally_under t u zero h = omega arith
tally_under t u (suc n) h =
    omega (arith, tally_under t u n (λ k l. h k (omega arith)), one (t n) (u n) (h n (omega arith)))
  where
    one : (a b : Bool) → (a ≡ true → b ≡ true) → cond a 1 0 ≤ cond b 1 0
    one true b f = rw (f refl) (omega arith)
    one false b f = omega arith

pub tally_none : (t : ℕ → Bool) (n : ℕ) → ((k : ℕ) → k < n → t k ≡ false) → tally t n ≡ 0
tally_none t zero e = refl
tally_none t (suc n) e = rw (e n (omega arith)) (omega (arith, tally_none t n (λ k l. e k (omega arith))))

pub tally_all : (t : ℕ → Bool) (n : ℕ) → ((k : ℕ) → k < n → t k ≡ true) → tally t n ≡ n
tally_all t zero e = refl
tally_all t (suc n) e = rw (e n (omega arith)) (omega (arith, tally_all t n (λ k l. e k (omega arith))))

pub tally_once : (t : ℕ → Bool) (n m : ℕ) → m < n → t m ≡ true → ((k : ℕ) → k < n → k ≢ m → t k ≡ false) → tally t n ≡ 1
tally_once t zero m h e f = absurd (omega arith)
tally_once t (suc n) m h e f =
    ⊎_elim
    (λ (g : m ≡ n). let z : t n ≡ true = rw (← g) e in rw z (omega (arith, tally_none t n (λ k l. f k (omega arith) (λ w. omega arith)))))
    (λ (l : m < n). rw (f n (omega arith) (λ w. omega arith)) (omega (arith, tally_once t n m l e (λ k i. f k (omega arith)))))
    (eq-or-lt_of_le (le_of_suc-le-suc h))

-- a count that goes up from 0: one more number looked at
pub tally_step : (t : ℕ → Bool) (n m : ℕ) → m ≡ tally t n → m + cond (t n) 1 0 ≡ tally t (n + 1)
tally_step t n m e = rw (add-one n, e)

pub tally_le : (t : ℕ → Bool) (n : ℕ) → tally t n ≤ n
tally_le t zero = omega arith
tally_le t (suc n) = go (t n) (tally_le t n)
  where
    go : (b : Bool) → tally t n ≤ n → tally t n + cond b 1 0 ≤ suc n
    go true h = omega arith
    go false h = omega arith

-- those that pass and those that do not are all
pub tally_both : (t : ℕ → Bool) (n : ℕ) → tally t n + tally (λ k. not (t k)) n ≡ n
tally_both t zero = omega arith
tally_both t (suc n) = go (t n) (tally_both t n)
  where
    go : (b : Bool) → tally t n + tally (λ k. not (t k)) n ≡ n
        → (tally t n + cond b 1 0) + (tally (λ k. not (t k)) n + cond (not b) 1 0) ≡ suc n
    go true h = omega arith
    go false h = omega arith
