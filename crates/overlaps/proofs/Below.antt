-- The pairs of n entries look at no mask from n on.
use mathlib.Core.Path.{◌≡◌, refl}
use mathlib.Core.Bool.{Bool, true, false, ◌&&◌}
use Prim.Native.Nat.{ℕ, zero, suc, ◌/◌, ◌%◌, ◌<◌}
use native.Mathlib.Omega.{arith}
use lib.Dec.{ltb}
use borrow.Author.Tests.{ltb-true}
use Rattle.answer.specs.Tally.{tally}
use Rattle.answer.proofs.Tally.{tally_cong}
use Rattle.masks.specs.Engine.{meet, hit, pairs_to}

module _ (m o : ℕ → ℕ) (n : ℕ) (h : (k : ℕ) → k < n → m k ≡ o k) where
  hit_below : (q : ℕ) → hit m n q ≡ hit o n q
  unfolding hit
  hit_below q = go (ltb (q / 32) (q % 32)) (ltb (q % 32) n) refl refl
    where
      go : (a b : Bool) → ltb (q / 32) (q % 32) ≡ a → ltb (q % 32) n ≡ b
          → ((a && b) && meet (m (q / 32)) (m (q % 32))) ≡ ((a && b) && meet (o (q / 32)) (o (q % 32)))
      go true true e f =
          let u : q / 32 < q % 32 = ltb-true (q / 32) (q % 32) e in
          let w : q % 32 < n = ltb-true (q % 32) n f in
          rw (h (q / 32) (omega arith), h (q % 32) w)
      go true false e f = refl
      go false b e f = refl

  pub tally_below : (q : ℕ) → tally (hit m n) q ≡ tally (hit o n) q
  tally_below q = tally_cong (hit m n) (hit o n) q (λ k l. hit_below k)

  pub pairs_below : (q : ℕ) → pairs_to m n q ≡ pairs_to o n q
  unfolding pairs_to
  pairs_below zero = refl
  pairs_below (suc q) = rw (pairs_below q, hit_below q)
