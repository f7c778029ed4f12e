-- The `sta=` lines of both channels, one after the other, from the numbers of their owners.
use mathlib.Core.Path.{◌≡◌, sym, ap, ◌∙◌}
use mathlib.Core.List.{List, ◌++◌}
use Prim.Native.Nat.{ℕ, ◌+◌, ◌-◌, ◌<◌}
use native.Mathlib.Nat.{zero-add}
use native.Mathlib.Omega.{arith}
use borrow.Author.Tests.{lt-ltb, le-ltb}
use Rattle.text.specs.Text.{upto}
use Rattle.text.proofs.Laws.{upto_append, upto_cong}
use Rattle.station_lines.specs.Engine.{owned_line}
use Rattle.listed.specs.Listing.{owner_in}
use Rattle.listing_lines.specs.Engine.{field_line}

module _ (r fields : List ℕ) (m : ℕ) where
  in_first : (i : ℕ) → i < m → field_line r fields m i ≡ owned_line fields 0 r 1 i
  unfolding field_line owner_in
  in_first i h = rw (lt-ltb i m h, zero-add i)

  in_second : (i : ℕ) → field_line r fields m (m + i) ≡ owned_line fields m r 2 i
  unfolding field_line owner_in
  in_second i =
      let e : m + i - m ≡ i = omega arith in
      rw (le-ltb (m + i) m (omega arith), e)

  pub both_channels : (k : ℕ)
      → upto (owned_line fields 0 r 1) m ++ upto (owned_line fields m r 2) k ≡ upto (field_line r fields m) (m + k)
  both_channels k =
      sym (
      upto_append (field_line r fields m) m k
      ∙ ap (λ (l : List ℕ). l ++ upto (λ i. field_line r fields m (m + i)) k)
      (upto_cong (field_line r fields m) (owned_line fields 0 r 1) m in_first)
      ∙ ap (λ (l : List ℕ). upto (owned_line fields 0 r 1) m ++ l)
      (upto_cong (λ i. field_line r fields m (m + i)) (owned_line fields m r 2) k (λ i h. in_second i))
      )
