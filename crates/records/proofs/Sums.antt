-- Sums over the numbers below a bound.
use mathlib.Core.Path.{◌≡◌, refl, sym, ◌∙◌}
use mathlib.Core.Logic.{⊎_elim, ◌≢◌}
use mathlib.Core.Bool.{cond}
use Prim.Native.Nat.{ℕ, zero, suc, ◌+◌, ◌-◌, ◌≤◌, ◌<◌}
use native.Mathlib.Omega.{arith}
use native.Mathlib.Nat.{add-zero, add-suc, eq-or-lt_of_le, le_of_suc-le-suc}
use borrow.Author.Tests.{eq-eqb, ne_eqb}
use lib.Dec.{eqb}
use Rattle.answer.specs.Tally.{tally}

abbrev pub sum_to : (ℕ → ℕ) → ℕ → ℕ
sum_to g zero = 0
sum_to g (suc n) = sum_to g n + g n

abbrev pub sum_from : (ℕ → ℕ) → ℕ → ℕ → ℕ
sum_from g a zero = 0
sum_from g a (suc n) = sum_from g a n + g (a + n)

pub sum_cong : (g h : ℕ → ℕ) (n : ℕ) → ((p : ℕ) → p < n → g p ≡ h p) → sum_to g n ≡ sum_to h n
sum_cong g h zero e = refl
sum_cong g h (suc n) e = rw (sum_cong g h n (λ p l. e p (omega arith)), e n (omega arith))

pub sum_first : (g : ℕ → ℕ) (n : ℕ) → sum_to g (suc n) ≡ g 0 + sum_to (λ i. g (suc i)) n
sum_first g zero = omega arith
sum_first g (suc n) = omega (arith, sum_first g n)

pub sum_zero : (g : ℕ → ℕ) (n : ℕ) → ((p : ℕ) → p < n → g p ≡ 0) → sum_to g n ≡ 0
sum_zero g zero e = refl
sum_zero g (suc n) e = omega (arith, sum_zero g n (λ p l. e p (omega arith)), e n (omega arith))

pub sum_one : (g : ℕ → ℕ) (n q : ℕ) → q < n → ((p : ℕ) → p < n → p ≢ q → g p ≡ 0) → sum_to g n ≡ g q
sum_one g zero q h e = absurd (omega arith)
sum_one g (suc n) q h e =
    ⊎_elim
    (λ (f : q ≡ n). rw f (omega (arith, sum_zero g n (λ p l. e p (omega arith) (λ z. omega arith)))))
    (λ (l : q < n). omega (arith, sum_one g n q l (λ p k. e p (omega arith)), e n (omega arith) (λ z. omega arith)))
    (eq-or-lt_of_le (le_of_suc-le-suc h))

sum_more : (g : ℕ → ℕ) (n d : ℕ) → ((p : ℕ) → n ≤ p → g p ≡ 0) → sum_to g (n + d) ≡ sum_to g n
sum_more g n zero e = rw (add-zero n)
sum_more g n (suc d) e = rw (add-suc n d) (omega (arith, sum_more g n d e, e (n + d) (omega arith)))

-- past m nothing is added
pub sum_past : (g : ℕ → ℕ) (m n : ℕ) → m ≤ n → ((p : ℕ) → m ≤ p → g p ≡ 0) → sum_to g n ≡ sum_to g m
sum_past g m n h e = let f : n ≡ m + (n - m) = omega arith in rw f (sum_more g m (n - m) e)

sum_from_lem : (g : ℕ → ℕ) (a s : ℕ) → ((p : ℕ) → p < a → g p ≡ 0) → sum_to g (a + s) ≡ sum_from g a s
sum_from_lem g a zero e = rw (add-zero a) (sum_zero g a e)
sum_from_lem g a (suc s) e = rw (add-suc a s, sum_from_lem g a s e)

-- all that counts lies in a window
pub sum_window : (g : ℕ → ℕ) (a s n : ℕ) → a + s ≤ n → ((p : ℕ) → p < a → g p ≡ 0) → ((p : ℕ) → a + s ≤ p → g p ≡ 0) → sum_to g n ≡ sum_from g a s
sum_window g a s n h e f = sum_past g (a + s) n h f ∙ sum_from_lem g a s e

pub from_cong : (g h : ℕ → ℕ) (a s : ℕ) → ((k : ℕ) → k < s → g (a + k) ≡ h (a + k)) → sum_from g a s ≡ sum_from h a s
from_cong g h a zero e = refl
from_cong g h a (suc s) e = rw (from_cong g h a s (λ k l. e k (omega arith)), e s (omega arith))

-- ---- each of n things goes to one of m
one_place : (m x : ℕ) → x < m → sum_to (λ i. cond (eqb x i) 1 0) m ≡ 1
one_place m x h =
    sum_one (λ i. cond (eqb x i) 1 0) m x h (λ p l n. rw (ne_eqb x p (λ e. n (sym e)))) ∙ rw (eq-eqb x x refl)

sum_add : (g h : ℕ → ℕ) (n : ℕ) → sum_to (λ i. g i + h i) n ≡ sum_to g n + sum_to h n
sum_add g h zero = omega arith
sum_add g h (suc n) = omega (arith, sum_add g h n)

pub all_placed : (f : ℕ → ℕ) (n m : ℕ) → ((j : ℕ) → j < n → f j < m) → sum_to (λ i. tally (λ j. eqb (f j) i) n) m ≡ n
all_placed f zero m h = sum_zero (λ i. 0) m (λ p l. refl)
all_placed f (suc n) m h =
    sum_add (λ i. tally (λ j. eqb (f j) i) n) (λ i. cond (eqb (f n) i) 1 0) m
    ∙ omega (arith, all_placed f n m (λ j l. h j (omega arith)), one_place m (f n) (h n (omega arith)))
