-- The steps of the code, said of the table.
use mathlib.Core.Path.{◌≡◌, sym, ◌∙◌, ap}
use mathlib.Core.Logic.{⊎_elim}
use mathlib.Core.Bool.{true, false, cond, ◌&&◌}
use lib.Dec.{eqb}
use Prim.Native.Nat.{ℕ, ◌+◌, ◌-◌, ◌*◌, ◌/◌, ◌%◌, ◌^◌, ◌≤◌, ◌<◌}
use native.Mathlib.Omega.{arith}
use native.Mathlib.Numerals.{add-one}
use native.Mathlib.Nat.{add-zero, zero-add, eq-or-lt_of_le, mul_comm, mod-lt}
use borrow.Author.Tests.{le-ltb, lt-ltb, eq-eqb, ne_eqb}
use Rattle.resource.specs.Values.{fields_of}
use Rattle.kinds.specs.Kinds.{family, span, mask, takes, takes_block, blank_at}
use Rattle.kinds.specs.Engine.{place_share}
use Rattle.kinds.specs.Fields.{gives, share, channel_share, shares, fields_in, together}
use Rattle.kinds.proofs.Table.{span_is, span_some, powers, span_0, full, plain_family}
use Rattle.kinds.proofs.Places.{at_place}

-- ---- the span by the range of its lines
module _ (c : ℕ) (h : c < 36) where
  pub span_least : c < 2 → c + 1 ≡ span c
  span_least l = sym (span_is c h ∙ rw (lt-ltb c 2 l))

  pub span_one : c ≡ 0 → 1 ≡ span c
  span_one e = let f = span_least (omega arith) in omega arith

  pub span_two : c ≡ 1 → 2 ≡ span c
  span_two e = let f = span_least (omega arith) in omega arith

  pub span_segment : 2 ≤ c → c < 7 → 4 ≡ span c
  span_segment l u = sym (span_is c h ∙ rw (le-ltb c 2 l, lt-ltb c 7 u))

  pub span_half : 7 ≤ c → c < 12 → 8 ≡ span c
  span_half l u = sym (span_is c h ∙ rw (le-ltb c 2 (omega arith), le-ltb c 7 l, lt-ltb c 12 u))

  pub span_whole : 12 ≤ c → 16 ≡ span c
  span_whole l = sym (span_is c h ∙ rw (le-ltb c 2 (omega arith), le-ltb c 7 (omega arith), le-ltb c 12 l))

  -- the place of a position in a span of n, and where the span begins
  pub place_of : (n p r : ℕ) → n ≡ span c → n ≤ 16 → r ≡ p % n → r < n → (r < 16) × (r ≡ p % span c)
  place_of n p r e l f u = (omega arith, f ∙ ap (λ (k : ℕ). p % k) e)

  pub start_at : (n p r : ℕ) → n ≡ span c → r ≡ p / n * n → r ≤ p → (r ≤ p) × (r ≡ span c * (p / span c))
  start_at n p r e f u = (u, f ∙ mul_comm (p / n) n ∙ ap (λ (k : ℕ). k * (p / k)) e)

-- ---- the blank of a place
block_yes : (c n j m : ℕ) → m ≡ mask c → m / 2 ^ (n * (j / n)) % 2 ^ n ≡ 2 ^ n - 1 → takes_block c n j ≡ true
unfolding takes_block
block_yes c n j m e f = eq-eqb _ _ (ap (λ (x : ℕ). x / 2 ^ (n * (j / n)) % 2 ^ n) (sym e) ∙ f)

block_no : (c n j m : ℕ) → m ≡ mask c → (m / 2 ^ (n * (j / n)) % 2 ^ n ≡ 2 ^ n - 1 → ⊥) → takes_block c n j ≡ false
unfolding takes_block
block_no c n j m e f = ne_eqb _ _ (λ g. f (ap (λ (x : ℕ). x / 2 ^ (n * (j / n)) % 2 ^ n) e ∙ g))

module _ (c j m : ℕ) (e : m ≡ mask c) where
  pub blank_30 : m / 2 ^ (4 * (j / 4)) % 16 ≡ 15 → 30 ≡ blank_at c j
  unfolding blank_at
  blank_30 f = rw (block_yes c 4 j m e f)

  pub blank_29 : (m / 2 ^ (4 * (j / 4)) % 16 ≡ 15 → ⊥) → m / 2 ^ (2 * (j / 2)) % 4 ≡ 3 → 29 ≡ blank_at c j
  unfolding blank_at
  blank_29 f g = rw (block_no c 4 j m e f, block_yes c 2 j m e g)

  pub blank_28 : (m / 2 ^ (4 * (j / 4)) % 16 ≡ 15 → ⊥) → (m / 2 ^ (2 * (j / 2)) % 4 ≡ 3 → ⊥) → 28 ≡ blank_at c j
  unfolding blank_at
  blank_28 f g = rw (block_no c 4 j m e f, block_no c 2 j m e g)

-- ---- the fields of a place
module _ (c p j v : ℕ) (h : c < 36) (l : j < span c) where
  -- of place j of the span around p
  pub share_at : place_share (mask c) (family c) j v ≡ share c (span c * (p / span c) + j) v
  unfolding place_share share gives takes
  share_at = rw (at_place (span c) (span_some c h) p j l)

-- as the code finds it, from the places and the family
pub share_here : (c p j v x m f b r : ℕ) → c < 36 → j < span c → m ≡ mask c → f ≡ family c → b ≡ span c * (p / span c) → v ≡ x
    → r ≡ place_share m f j v → r ≡ share c (b + j) x
share_here c p j v x m f b r h l em ef eb ev er = er ∙ rw (em, ef, ev, eb) (share_at c p j x h l)

pub share_yes : (m f j v r : ℕ) → (eqb (m / 2 ^ j % 2) 1 && eqb (v / 8) f) ≡ true → r ≡ fields_of v → r ≡ place_share m f j v
unfolding place_share
share_yes m f j v r e g = g ∙ rw e

pub share_no : (m f j v : ℕ) → (eqb (m / 2 ^ j % 2) 1 && eqb (v / 8) f) ≡ false → 0 ≡ place_share m f j v
unfolding place_share
share_no m f j v e = rw e

-- a position that is given to itself
pub share_alone : (p v : ℕ) → cond (eqb (v / 8) 8) (fields_of v) 0 ≡ share 0 p v
unfolding share gives
share_alone p v = rw (full 0 (omega arith) (p % span 0) (mod-lt p (span_some 0 (omega arith))), plain_family 0 (omega arith))

-- each position is one channel's
pub both_channels : (c p v : ℕ) → channel_share 1 c p v + channel_share 2 c p v ≡ share c p v
both_channels c p v =
    ⊎_elim
    (λ (e : 0 ≡ p % 2). rw (← e) (add-zero (share c p v)))
    (λ (e : 0 < p % 2). let f : p % 2 ≡ 1 = omega arith in rw f (zero-add (share c p v)))
    (eq-or-lt_of_le {n = 0} {m = p % 2} (omega arith))

pub shares_next : (c : ℕ) (row : ℕ → ℕ) (b i sum v : ℕ) → sum ≡ shares 1 c row b i + shares 2 c row b i → v ≡ share c (b + i) (row (b + i))
    → sum + v ≡ shares 1 c row b (i + 1) + shares 2 c row b (i + 1)
shares_next c row b i sum v e f =
    let g = both_channels c (b + i) (row (b + i)) in
    rw (add-one i, e, f) (omega (arith, g))

-- ---- the resource of a position is that of the position before, if both lie among its span
pub span_before : (c p : ℕ) → c < 36 → span c * (p / span c) < p → (p - 1) / span c ≡ p / span c
span_before c p h l =
    ⊎_elim (λ e. go 1 e (λ m. absurd (omega arith)))
    (⊎_elim (λ e. go 2 e (λ m. omega arith))
    (⊎_elim (λ e. go 4 e (λ m. omega arith)) (⊎_elim (λ e. go 8 e (λ m. omega arith)) (λ e. go 16 e (λ m. omega arith))))) (powers c h)
  where
    go : (n : ℕ) → span c ≡ n → (n * (p / n) < p → (p - 1) / n ≡ p / n) → (p - 1) / span c ≡ p / span c
    go n e f = let m : n * (p / n) < p = rw e at l in let g = f m in rw (e, g)

pub total_same : (c : ℕ) (row : ℕ → ℕ) (p : ℕ) → c < 36 → span c * (p / span c) < p → together c row (p - 1) ≡ together c row p
unfolding fields_in
total_same c row p h l = rw (span_before c p h l)

pub total_reused : (t before c p : ℕ) (row : ℕ → ℕ) → c < 36 → (0 < p → t ≡ together before row (p - 1)) → c ≡ before
    → span c * (p / span c) < p → t ≡ together c row p
total_reused t before c p row h f e l = f (omega arith) ∙ ap (λ (k : ℕ). together k row (p - 1)) (sym e) ∙ total_same c row p h l

pub total_alone : (c : ℕ) (row : ℕ → ℕ) (p : ℕ) → c ≡ 0 → share 0 p (row p) ≡ together c row p
unfolding fields_in
total_alone c row p e =
    let f : 1 * (p / 1) + 0 ≡ p = omega arith in
    rw (e, span_0, f) (omega (arith, both_channels 0 p (row p)))
