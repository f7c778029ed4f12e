-- Functions that pass through addition without carry: two of them are one where they agree at the powers of 2.
--
use Prim.Native.Nat.{ℕ, zero, suc, ◌+◌, ◌*◌, ◌/◌, ◌%◌, ◌^◌, ◌<◌}
use mathlib.Core.Path.{◌≡◌, refl, sym, ◌∙◌, ap, ap₂, subst}
use mathlib.Core.Bool.{not}
use native.Mathlib.Nat.{mod-lt, zero-mul, one-mul}
use native.Mathlib.Omega.{arith}
use lib.Arith.{lt-one}
use lib.Bits.{bit_xor, xor_mod, xor_self}
use lib.Dec.{eqb}
use lib.Pow as P
use borrow.Author.Tests.{eqb-true, not-false}
use Rattle.answer.specs.Least.{least}
use Rattle.answer.proofs.Least.{least_all}
use Rattle.register.proofs.Xor.{xor_swap, xor_shl, xor_split}

pub record Linear (f : ℕ → ℕ) : Type 0 where
  pub adds : (x y : ℕ) → f (bit_xor x y) ≡ bit_xor (f x) (f y)

-- ---- which are

pub itself : Linear (λ z. z)
itself = record { adds = λ x y. refl }

pub ups : (k : ℕ) → Linear (λ z. z * 2 ^ k)
ups k = record { adds = λ x y. xor_shl x y k }

pub lows : (k : ℕ) → Linear (λ z. z % 2 ^ k)
lows k = record { adds = λ x y. xor_mod x y k }

pub both : (f g : ℕ → ℕ) → Linear f → Linear g → Linear (λ z. bit_xor (f z) (g z))
both f g p q =
    record { adds = λ x y. ap₂ bit_xor (p.adds x y) (q.adds x y) ∙ xor_swap (f x) (f y) (g x) (g y) }

pub next : (f g : ℕ → ℕ) → Linear f → Linear g → Linear (λ z. g (f z))
next f g p q = record { adds = λ x y. ap g (p.adds x y) ∙ q.adds (f x) (f y) }

-- ---- the law

none : (f : ℕ → ℕ) → Linear f → f 0 ≡ 0
none f p = p.adds 0 0 ∙ xor_self (f 0)

agree : (f g : ℕ → ℕ) → Linear f → Linear g → (n : ℕ) → ((k : ℕ) → k < n → f (2 ^ k) ≡ g (2 ^ k))
    → (z : ℕ) → z < 2 ^ n → f z ≡ g z
agree f g p q zero h z l = rw (lt-one l) (none f p ∙ sym (none g q))
agree f g p q (suc n) h z l =
    let e = xor_split z n in
    ap f e
    ∙ p.adds (z / 2 ^ n * 2 ^ n) (z % 2 ^ n)
    ∙ ap₂ bit_xor (top (z / 2 ^ n) (P.shr_lt 1 n one)) (agree f g p q n (λ k m. h k (omega arith)) (z % 2 ^ n) (mod-lt z (P.pow_pos n)))
    ∙ sym (q.adds (z / 2 ^ n * 2 ^ n) (z % 2 ^ n))
    ∙ ap g (sym e)
  where
    one : z < 2 ^ (1 + n)
    one = subst (λ (k : ℕ). z < 2 ^ k) (omega arith) l

    top : (b : ℕ) → b < 2 → f (b * 2 ^ n) ≡ g (b * 2 ^ n)
    top zero m = rw (zero-mul (2 ^ n)) (none f p ∙ sym (none g q))
    top (suc zero) m = rw (one-mul (2 ^ n)) (h n (omega arith))
    top (suc (suc b)) m = absurd (omega arith)

-- tested at all n
pub agree_tested : (f g : ℕ → ℕ) → Linear f → Linear g → (n : ℕ) → least (λ k. not (eqb (f (2 ^ k)) (g (2 ^ k)))) n ≡ n
    → (z : ℕ) → z < 2 ^ n → f z ≡ g z
agree_tested f g p q n e =
    agree f g p q n (λ k l. eqb-true _ _ (not-false _ (least_all (λ k. not (eqb (f (2 ^ k)) (g (2 ^ k)))) n e k l)))
