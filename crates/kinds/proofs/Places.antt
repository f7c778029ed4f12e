-- The places of a resource: which of its span's positions they are.
use mathlib.Core.Path.{◌≡◌, sym, ◌∙◌, ap}
use mathlib.Core.Logic.{◌⊎◌, inl, inr}
use Prim.Native.Nat.{ℕ, ◌+◌, ◌*◌, ◌/◌, ◌%◌, ◌<◌}
use native.Mathlib.Omega.{arith}
use native.Mathlib.Nat.{mod-lt, mod-eq_of_lt, div-eq_of_lt, mul-add-div, mul-add-mod_self_left, div-add-mod}
use Rattle.kinds.specs.Kinds.{span}
use Rattle.kinds.specs.Signals.{Place}
use Rattle.kinds.proofs.Table.{spans, span_some, span_most}

-- ---- the positions of a span of n: place r of the one around p
abbrev pub at : ℕ → ℕ → ℕ → ℕ
at n p r = n * (p / n) + r

module _ (n : ℕ) (z : 0 < n) where
  pub at_span : (p r : ℕ) → r < n → at n p r / n ≡ p / n
  at_span p r l = mul-add-div z (p / n) r ∙ rw (div-eq_of_lt l) (omega arith)

  pub at_place : (p r : ℕ) → r < n → at n p r % n ≡ r
  at_place p r l = mul-add-mod_self_left n (p / n) r ∙ mod-eq_of_lt l

  pub at_self : (p : ℕ) → at n p (p % n) ≡ p
  at_self p = div-add-mod p n

-- ---- a place among the span
pub place_mod : (c p : ℕ) → c < 36 → p % span c < span c
place_mod c p h = mod-lt p (span_some c h)

pub place_low : (c p : ℕ) → c < 36 → p % span c < 16
place_low c p h = let l = place_mod c p h in let m = span_most c h in omega arith

pub place_at : (c p q : ℕ) → Place c p q → q ≡ span c * (p / span c) + q % span c
place_at c p q w = sym (div-add-mod q (span c)) ∙ ap (λ (k : ℕ). span c * k + q % span c) w.0

-- one of 01's does not leave its segment
pub place_segment : (c p q : ℕ) → c < 7 → Place c p q → q / 4 ≡ p / 4
place_segment c p q h w = go (span c) (spans c h) w.0
  where
    go : (n : ℕ) → (n ≡ 1) ⊎ ((n ≡ 2) ⊎ (n ≡ 4)) → q / n ≡ p / n → q / 4 ≡ p / 4
    go n (inl e) f = let g = rw e at f in omega arith
    go n (inr (inl e)) f = let g = rw e at f in omega arith
    go n (inr (inr e)) f = rw e at f
