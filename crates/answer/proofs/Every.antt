-- The laws of a test that all numbers below a bound pass.
use mathlib.Core.Path.{◌≡◌, refl, ◌∙◌}
use mathlib.Core.Bool.{Bool, true, false, ◌&&◌, true≢false}
use Prim.Native.Nat.{ℕ, zero, suc, ◌+◌, ◌<◌}
use native.Mathlib.Decide.{dec_lt}
use native.Mathlib.Numerals.{add-one}
use native.Mathlib.Omega.{arith}
use Rattle.answer.specs.Every.{every}

pub every_next : (t : ℕ → Bool) (n : ℕ) → every t n && t n ≡ every t (n + 1)
every_next t n = rw add-one refl

pub both_left : (x y : Bool) → x && y ≡ true → x ≡ true
both_left true y e = refl
both_left false y e = e

pub both_right : (x y : Bool) → x && y ≡ true → y ≡ true
both_right true y e = e
both_right false true e = refl
both_right false false e = e

both : (x y : Bool) → x ≡ true → y ≡ true → x && y ≡ true
both x y e f = rw (e, f)

-- each of them passes
pub every_at : (t : ℕ → Bool) (n : ℕ) → every t n ≡ true → (k : ℕ) → k < n → t k ≡ true
every_at t zero e k l = absurd (omega arith)
every_at t (suc n) e k l = go (every_at t n (both_left (every t n) (t n) e) k) (dec_lt k n)
  where
    top : (k : ℕ) → k ≡ n → t k ≡ true
    top k d = rw d (both_right (every t n) (t n) e)

    go : (k < n → t k ≡ true) → Dec (k < n) → t k ≡ true
    go h (yes m) = h m
    go h (no m) = top k (omega arith)

pub all_every : (t : ℕ → Bool) (n : ℕ) → ((k : ℕ) → k < n → t k ≡ true) → every t n ≡ true
all_every t zero h = refl
all_every t (suc n) h = both (every t n) (t n) (all_every t n (λ k l. h k (omega arith))) (h n (omega arith))

pub every_cong : (t u : ℕ → Bool) (n : ℕ) → ((k : ℕ) → k < n → t k ≡ u k) → every t n ≡ every u n
every_cong t u zero h = refl
every_cong t u (suc n) h = rw (every_cong t u n (λ k l. h k (omega arith)), h n (omega arith))

-- where not every one passes, one of them does not
pub some_fails : (t : ℕ → Bool) (n : ℕ) → every t n ≡ false → (k : ℕ) × (k < n) × (t k ≡ false)
some_fails t zero e = absurd (true≢false e)
some_fails t (suc n) e = go (every t n) (t n) refl refl e (some_fails t n)
  where
    go : (x y : Bool) → every t n ≡ x → t n ≡ y → x && y ≡ false → (every t n ≡ false → (k : ℕ) × (k < n) × (t k ≡ false))
        → (k : ℕ) × (k < suc n) × (t k ≡ false)
    go true y f g h rest = (n, omega arith, g ∙ h)
    go false y f g h rest = let w = rest f in (w.0, omega (arith, w.1), w.2)
