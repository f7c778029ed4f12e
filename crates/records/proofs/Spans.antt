-- The fields of a resource's span: which positions it has, and what they give each channel.
use mathlib.Core.Path.{◌≡◌, refl}
use mathlib.Core.Logic.{◌⊎◌, inl, inr, ◌≢◌}
use mathlib.Core.Bool.{Bool, true, false, cond}
use Prim.Native.Nat.{ℕ, zero, suc, ◌+◌, ◌*◌, ◌/◌, ◌%◌, ◌≤◌, ◌<◌}
use native.Mathlib.Omega.{arith}
use native.Mathlib.Nat.{div-add-mod}
use lib.Dec.{eqb}
use Rattle.kinds.specs.Kinds.{span, takes}
use Rattle.kinds.specs.Signals.{Takes}
use Rattle.kinds.specs.Fields.{share, channel_share, shares, fields_in}
use Rattle.kinds.proofs.Tests.{by_test, not_both}
use Rattle.kinds.proofs.Places.{at_span, place_mod}
use Rattle.kinds.proofs.Table.{span_some, span_most, span_0}
use Rattle.records.specs.Records.{in_channel}
use Rattle.records.proofs.Sums.{sum_from}

-- ---- the window of a resource's span
module _ (x q : ℕ) (h : x < 36) where
  pub window_in : (k : ℕ) → k < span x → (span x * (q / span x) + k) / span x ≡ q / span x
  window_in k l = at_span (span x) (span_some x h) q k l

  pub window_below : (p : ℕ) → p < span x * (q / span x) → p / span x ≢ q / span x
  window_below p l e = let f : span x * (q / span x) + p % span x ≡ p = rw (← e) (div-add-mod p (span x)) in omega arith

  pub window_above : (p : ℕ) → span x * (q / span x) + span x ≤ p → p / span x ≢ q / span x
  window_above p l e =
      let f : span x * (q / span x) + p % span x ≡ p = rw (← e) (div-add-mod p (span x)) in
      omega (arith, place_mod x p h)

  pub window_room : (n : ℕ) → q < n → span x * (q / span x) + span x ≤ n + 16
  window_room n l = omega (arith, div-add-mod q (span x), span_most x h)

pub from_shares : (c x : ℕ) (row : ℕ → ℕ) (a s : ℕ) → sum_from (λ p. channel_share c x p (row p)) a s ≡ shares c x row a s
from_shares c x row a zero = refl
from_shares c x row a (suc s) = rw (from_shares c x row a s)

pub none_in : (c p : ℕ) → in_channel c p 0 ≡ 0
none_in c p = go (eqb (p % 2 + 1) c)
  where
    go : (t : Bool) → ◌≡◌ {A = ℕ} (cond t 0 0) 0
    go true = refl
    go false = refl

pub takes_cases : (x j : ℕ) → Takes x j ⊎ (Takes x j → ⊥)
takes_cases x j = by_test (takes x j) (λ e. inl e) (λ e. inr (λ f. not_both (takes x j) f e))

pub own_fields_in : (c : ℕ) (row : ℕ → ℕ) (p : ℕ) → fields_in c 0 row p ≡ in_channel c p (share 0 p (row p))
unfolding fields_in
own_fields_in c row p =
    let e : 1 * (p / 1) + 0 ≡ p = omega arith in
    rw (span_0, e) (omega arith)
