-- What the positions of a span name, and the kind that is meant.
use mathlib.Core.Path.{◌≡◌, refl, sym, ◌∙◌, ap}
use mathlib.Core.Logic.{◌⊎◌, inl, inr, ⊎_elim}
use mathlib.Core.Bool.{Bool, true, false, cond}
use Prim.Native.Nat.{ℕ, ◌+◌, ◌-◌, ◌/◌, ◌≤◌, ◌<◌}
use native.Mathlib.Omega.{arith}
use borrow.Author.Tests.{lt-ltb, le-ltb, le-leb, lt-leb}
use Rattle.resource.proofs.Test.{below_or}
use Rattle.kinds.specs.Kinds.{family, takes}
use Rattle.kinds.specs.Engine.{sought, kind_of, tell_tale, whole_or, alike, sided, settled}
use Rattle.kinds.proofs.Table.{first_of, family_first, first_family, first_sought}
use Rattle.segments.specs.Engine.{first_named}
use Rattle.segments.proofs.Named.{NoneAt, First, first_view}
use Rattle.spans.specs.Engine.{named}

-- ---- the kind that is meant: the named one, or the other of its family
pub settled_apart : (row : ℕ → ℕ) (b c : ℕ) → c < 24 → settled row b c ≡ c
unfolding settled
settled_apart row b c l = rw (lt-leb 24 c l)

pub settled_none : (row : ℕ → ℕ) (b c : ℕ) → 30 ≤ c → settled row b c ≡ c
unfolding settled
settled_none row b c l = rw (le-leb 24 c (omega arith), le-ltb c 30 l)

pub settled_sided : (row : ℕ → ℕ) (b c : ℕ) → 24 ≤ c → c < 30 → settled row b c ≡ sided c (row (b + tell_tale c))
unfolding settled
settled_sided row b c l u = rw (le-leb 24 c l, lt-ltb c 30 u)

sided_or : (c v : ℕ) → (sided c v ≡ c) ⊎ (sided c v ≡ c + 6)
unfolding sided
sided_or c v = go (alike (whole_or c v) (takes c (tell_tale c)))
  where
    go : (t : Bool) → (cond t c (c + 6) ≡ c) ⊎ (cond t c (c + 6) ≡ c + 6)
    go true = inl refl
    go false = inr refl

-- .. it is sought as the named one, and has its family
pub settled_like : (row : ℕ → ℕ) (b c : ℕ) → c < 30 → (settled row b c < 36) × (family (settled row b c) ≡ family c) × (sought (settled row b c) ≡ sought c)
settled_like row b c h = ⊎_elim (λ l. rw (settled_apart row b c l) (omega arith, refl, refl)) sides (below_or c 24)
  where
    sides : 24 ≤ c → (settled row b c < 36) × (family (settled row b c) ≡ family c) × (sought (settled row b c) ≡ sought c)
    sides l = rw (settled_sided row b c l h) (⊎_elim (λ e. rw e (omega arith, refl, refl)) (λ e. rw e twin) (sided_or c (row (b + tell_tale c))))
      where
        back : first_of (c + 6) ≡ c
        back = rw (le-ltb (c + 6) 30 (omega arith)) (omega arith)

        twin : (c + 6 < 36) × (family (c + 6) ≡ family c) × (sought (c + 6) ≡ sought c)
        twin = (
          omega arith,
          sym (first_family (c + 6) (omega arith)) ∙ ap family back,
          sym (first_sought (c + 6) (omega arith)) ∙ ap sought back,
        )

-- ---- what the n positions from b on name, and mean
-- one of them names the kind c
pub record Naming (n : ℕ) (row : ℕ → ℕ) (b c : ℕ) : Type 0 where
  pub place : ℕ
  pub inside : place < n
  pub kind : c < 36
  pub among : sought c ≡ n
  pub by : row (b + place) / 8 ≡ family c
  pub means : c ≡ settled row b (kind_of (family c))

pub named_view : (n : ℕ) → 0 < n → (row : ℕ → ℕ) (b : ℕ) → ((named n row b ≡ 36) × NoneAt n row b n) ⊎ Naming n row b (named n row b)
unfolding named
named_view n z row b = go (first_named n row b n) (first_view n z row b n)
  where
    go : (k : ℕ) → First n row b n k → ((settled row b k ≡ 36) × NoneAt n row b n) ⊎ Naming n row b (settled row b k)
    go k (inl h) = inl (settled_none row b k (omega (arith, h.0)) ∙ h.0, h.1)
    go k (inr (l, (q, w))) =
        let s = settled_like row b k l in
        let d : b + (q - b) ≡ q = omega (arith, w.0) in
        let f : kind_of (family k) ≡ k = family_first k w.2.0 ∙ rw (lt-ltb k 30 l) in
        inr (record {
          place = q - b;
          inside = omega (arith, w.0, w.1);
          kind = s.0;
          among = s.2 ∙ w.2.2;
          by = ap (λ (m : ℕ). row m / 8) d ∙ w.2.3 ∙ sym s.1;
          means = ap (settled row b) (sym f) ∙ ap (λ (m : ℕ). settled row b (kind_of m)) (sym s.1);
        })
