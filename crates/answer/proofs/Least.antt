-- The laws of the lowest number that passes a test.
use mathlib.Core.Path.{◌≡◌, refl, sym, ◌∙◌, ap}
use mathlib.Core.Logic.{⊎_elim}
use mathlib.Core.Bool.{Bool, true, false, not, cond}
use Prim.Native.Nat.{ℕ, zero, suc, ◌+◌, ◌≤◌, ◌<◌}
use native.Mathlib.Omega.{arith}
use native.Mathlib.Numerals.{add-one}
use native.Mathlib.Nat.{eq-or-lt_of_le}
use lib.Dec.{ltb, eqb}
use borrow.Author.Tests.{lt-ltb, le-ltb, ltb-true, eqb-true, not-false}
use Rattle.std.specs.Prelude.{Option, Some, None, unwrap_or, MatchOption}
use Rattle.answer.specs.Least.{least}

-- none below n passes: n
pub least_none : (p : ℕ → Bool) (n : ℕ) → ((k : ℕ) → k < n → p k ≡ false) → least p n ≡ n
unfolding least
least_none p zero h = refl
least_none p (suc n) h =
    rw (least_none p n (λ k l. h k (omega arith)), le-ltb n n (omega arith), h n (omega arith))

-- i passes and none below it: i
pub least_found : (p : ℕ → Bool) (n i : ℕ) → i < n → p i ≡ true → ((k : ℕ) → k < i → p k ≡ false) → least p n ≡ i
unfolding least
least_found p zero i l t h = omega arith
least_found p (suc n) i l t h =
    ⊎_elim
    (λ (e : i ≡ n).
    let s : least p n ≡ n = least_none p n (λ k m. h k (omega arith)) in
    let t' : p n ≡ true = rw e at t in
    rw (s, le-ltb n n (omega arith), t') (omega arith))
    (λ (m : i < n).
    let s : least p n ≡ i = least_found p n i m t h in
    rw (s, lt-ltb i n m))
    (eq-or-lt_of_le {n = i} {m = n} (omega arith))

-- what `find` over the numbers below n comes to
pub least_from_find : (p : ℕ → Bool) (n : ℕ) (r : Option ℕ)
    → MatchOption r ((k : ℕ) → 0 ≤ k → k < n → p k ≡ false) (λ i. (0 ≤ i) × (i < n) × (p i ≡ true) × ((k : ℕ) → 0 ≤ k → k < i → p k ≡ false))
    → unwrap_or r n ≡ least p n
least_from_find p n None h = sym (least_none p n (λ k l. h k (omega arith) l))
least_from_find p n (Some i) h = sym (least_found p n i h.1 h.2 (λ k l. h.3 k (omega arith) l))

-- what a search that ends at i knows
pub least_is : (p : ℕ → Bool) (n i : ℕ) → i ≤ n → (i < n → p i ≡ true) → ((k : ℕ) → k < i → p k ≡ false) → least p n ≡ i
least_is p n i l t h =
    ⊎_elim
    (λ (e : i ≡ n). least_none p n (λ k m. h k (omega arith)) ∙ sym e)
    (λ (m : i < n). least_found p n i m (t m) h)
    (eq-or-lt_of_le l)

-- a search that goes up from 0: nothing found below 0; below i + 1; and where i passes, it is the lowest
pub least_start : (p : ℕ → Bool) → least p 0 ≡ 0
unfolding least
least_start p = refl

pub least_step : (p : ℕ → Bool) (i : ℕ) → least p i ≡ i → p i ≡ false → least p (i + 1) ≡ i + 1
unfolding least
least_step p i e f = rw (add-one i, e, le-ltb i i (omega arith), f)

pub least_stop : (p : ℕ → Bool) (i n : ℕ) → i < n → least p i ≡ i → p i ≡ true → least p n ≡ i
unfolding least
least_stop p i zero l e t = omega arith
least_stop p i (suc n) l e t =
    ⊎_elim
    (λ (q : i ≡ n).
    let e' : least p n ≡ n = rw q at e in
    let t' : p n ≡ true = rw q at t in
    rw (e', le-ltb n n (omega arith), t') (sym q))
    (λ (m : i < n). rw (least_stop p i n m e t, lt-ltb i n m))
    (eq-or-lt_of_le {n = i} {m = n} (omega arith))

pub least_end : (p : ℕ → Bool) (i n : ℕ) → i ≡ n → least p i ≡ i → least p n ≡ i
least_end p i n q e = ap (least p) (sym q) ∙ e

-- tests that agree below n have one lowest number
pub least_cong : (p q : ℕ → Bool) (n : ℕ) → ((k : ℕ) → k < n → p k ≡ q k) → least p n ≡ least q n
unfolding least
least_cong p q zero h = refl
least_cong p q (suc n) h = rw (least_cong p q n (λ k l. h k (omega arith)), h n (omega arith))

-- it is no more than n
pub least_le : (p : ℕ → Bool) (n : ℕ) → least p n ≤ n
unfolding least
least_le p zero = omega arith
least_le p (suc n) = go (ltb (least p n) n) (p n) (least_le p n)
  where
    go : (b c : Bool) → least p n ≤ n → cond b (least p n) (cond c n (suc n)) ≤ suc n
    go true c h = omega arith
    go false true h = omega arith
    go false false h = omega arith

-- the lowest is no more than any that passes
pub least_below : (p : ℕ → Bool) (n k : ℕ) → k < n → p k ≡ true → least p n ≤ k
unfolding least
least_below p zero k l t = omega arith
least_below p (suc n) k l t =
    ⊎_elim
    (λ (q : k ≡ n). let t' : p n ≡ true = rw q at t in rw t' (go (ltb (least p n) n) (least_le p n) q))
    (λ (m : k < n). let h = least_below p n k m t in rw (lt-ltb (least p n) n (omega arith)) h)
    (eq-or-lt_of_le {n = k} {m = n} (omega arith))
  where
    go : (b : Bool) → least p n ≤ n → k ≡ n → cond b (least p n) n ≤ k
    go true h q = omega arith
    go false h q = omega arith

-- where nothing below n passes, each fails
pub least_all : (p : ℕ → Bool) (n : ℕ) → least p n ≡ n → (k : ℕ) → k < n → p k ≡ false
least_all p n e k l = go (p k) refl
  where
    go : (t : Bool) → p k ≡ t → t ≡ false
    go true f = let z : least p n ≤ k = least_below p n k l f in let w : ◌≡◌ {A = ℕ} 0 1 = omega arith in cc
    go false f = refl

-- two functions that the checker computes to be equal at every number below n
pub equal_below : (f g : ℕ → ℕ) (n : ℕ) → least (λ k. not (eqb (f k) (g k))) n ≡ n → (k : ℕ) → k < n → f k ≡ g k
equal_below f g n e k l = eqb-true (f k) (g k) (not-false (eqb (f k) (g k)) (least_all (λ k. not (eqb (f k) (g k))) n e k l))

-- the lowest passes
pub least_holds : (p : ℕ → Bool) (n : ℕ) → least p n < n → p (least p n) ≡ true
unfolding least
least_holds p zero l = absurd (omega arith)
least_holds p (suc n) l = go (ltb (least p n) n) (p n) refl refl (least_holds p n) l
  where
    go : (b c : Bool) → ltb (least p n) n ≡ b → p n ≡ c → (least p n < n → p (least p n) ≡ true)
        → cond b (least p n) (cond c n (suc n)) < suc n → p (cond b (least p n) (cond c n (suc n))) ≡ true
    go true c e f ih l = ih (ltb-true (least p n) n e)
    go false true e f ih l = f
    go false false e f ih l = absurd (omega arith)

-- and none below it does
pub least_before : (p : ℕ → Bool) (n k : ℕ) → k < least p n → p k ≡ false
least_before p n k l = go (p k) refl
  where
    go : (t : Bool) → p k ≡ t → t ≡ false
    go true f =
        let h = least_le p n in
        let z : least p n ≤ k = least_below p n k (omega arith) f in
        let w : ◌≡◌ {A = ℕ} 0 1 = omega arith in cc
    go false f = refl
