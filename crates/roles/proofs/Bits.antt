-- The bits of numbers that are shifted, and of two numbers together.
use mathlib.Core.Path.{◌≡◌, sym, ◌∙◌, ap}
use mathlib.Core.Logic.{◌⊎◌, inl, inr}
use Prim.Native.Nat.{ℕ, ◌+◌, ◌/◌, ◌%◌, ◌^◌}
use native.Mathlib.Omega.{arith}
use native.Mathlib.Nat.{div-div-eq-div-mul}
use lib.Pow.{pow-add}
use lib.Bits.{bit_and, bit_or, and_step, or_step, and_shr, or_shr}
use Rattle.kinds.proofs.Tests.{equal_or}
use Rattle.roles.specs.Engine.{bit}
use mathlib.Core.Logic.{⊎_elim}

pub and_bit : (a b k : ℕ) → bit k (bit_and a b) ≡ 1 → (bit k a ≡ 1) × (bit k b ≡ 1)
and_bit a b k e =
    let f = ap (λ (x : ℕ). x % 2) (and_shr a b k) in
    let g = and_step (a / 2 ^ k) (b / 2 ^ k) in
    (omega arith, omega arith)

pub or_bit : (a b k : ℕ) → bit k (bit_or a b) ≡ 1 → (bit k a ≡ 1) ⊎ (bit k b ≡ 1)
or_bit a b k e =
    let f = ap (λ (x : ℕ). x % 2) (or_shr a b k) in
    let g = or_step (a / 2 ^ k) (b / 2 ^ k) in
    ⊎_elim inl (λ h. inr (omega arith)) (equal_or (bit k a) 1)

pub shifted_bit : (r m k : ℕ) → bit k (r / 2 ^ m) ≡ bit (m + k) r
shifted_bit r m k = ap (λ (x : ℕ). x % 2) (div-div-eq-div-mul r (2 ^ m) (2 ^ k) ∙ ap (λ (x : ℕ). r / x) (sym (pow-add 2 m k)))
