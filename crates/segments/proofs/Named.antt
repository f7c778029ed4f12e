-- The kind that a value names, and the first that the values of a part name, of those that are sought among n positions.
use mathlib.Core.Path.{◌≡◌, refl, sym, ◌∙◌, ap}
use mathlib.Core.Logic.{◌≢◌, ◌⊎◌, inl, inr, ⊎_elim}
use mathlib.Core.Bool.{Bool, true, false, cond}
use Prim.Native.Nat.{ℕ, zero, suc, ◌+◌, ◌-◌, ◌/◌, ◌≤◌, ◌<◌}
use native.Mathlib.Omega.{arith}
use lib.Dec.{ltb, eqb}
use borrow.Author.Tests.{ltb-true, ltb-false, eqb-true, eqb-false}
use Rattle.answer.proofs.Least.{least_holds, least_le}
use Rattle.resource.proofs.Test.{below_or}
use Rattle.kinds.specs.Kinds.{kinds, kind_at, family, span, mask, must_name}
use Rattle.kinds.specs.Engine.{sought, kind_of, name_of}
use Rattle.kinds.proofs.Tests.{equal_or}
use Rattle.kinds.proofs.Table.{Span, family_first, family_sought, sought_low, sought_high, wide_span}
use Rattle.segments.specs.Engine.{or_else, first_named}
use Rattle.segments.proofs.Steps.{or_else_low, or_else_high}

-- v names the kind c, which is sought among n; of two with one family it names both
abbrev pub Names : ℕ → ℕ → ℕ → Type 0
Names n v c = (c < 36) × (3 ≤ c) × (sought c ≡ n) × (v / 8 ≡ family c)

abbrev pub Nameless : ℕ → ℕ → Type 0
Nameless n v = (c : ℕ) → Names n v c → ⊥

pub four_least : (n : ℕ) → Span n → 4 ≤ n
four_least n (inl e) = omega arith
four_least n (inr (inl e)) = omega arith
four_least n (inr (inr e)) = omega arith

pub positive : (n : ℕ) → Span n → 0 < n
positive n h = let l = four_least n h in omega arith

kind_has : (f : ℕ) → kind_of f < 36 → family (kind_of f) ≡ f
unfolding kind_of
kind_has f l = eqb-true _ _ (least_holds (λ c. eqb (family c) f) 36 l)

kind_most : (f : ℕ) → kind_of f ≤ 36
unfolding kind_of
kind_most f = least_le (λ c. eqb (family c) f) 36

none_sought : sought 36 ≡ 0
unfolding sought must_name span mask kind_at kinds
none_sought = refl

-- the first kind of a family is none of the six that share theirs with one before
kind_first : (f : ℕ) → kind_of f < 36 → kind_of f < 30
kind_first f l = go (ltb (kind_of f) 30) refl (sym (ap kind_of (kind_has f l)) ∙ family_first (kind_of f) l)
  where
    go : (t : Bool) → ltb (kind_of f) 30 ≡ t → kind_of f ≡ cond t (kind_of f) (kind_of f - 6) → kind_of f < 30
    go true e g = ltb-true _ 30 e
    go false e g = absurd (let m = ltb-false (kind_of f) 30 e in omega arith)

-- the kinds that a segment can hold
pub narrow_named : (v c : ℕ) → Names 4 v c → c < 7
narrow_named v c w =
    ⊎_elim (λ l. l)
    (λ l. let e = sought_high c w.0 w.1 in absurd (⊎_elim (λ f. omega (arith, w.2)) (λ f. omega (arith, w.2)) (wide_span c w.0 l)))
    (below_or c 7)

-- q is one of the m from b on, and names c
abbrev pub NamedAt : ℕ → (ℕ → ℕ) → ℕ → ℕ → ℕ → ℕ → Type 0
NamedAt n row b m c q = (b ≤ q) × (q < b + m) × Names n (row q) c

-- none of the m from b on names
abbrev pub NoneAt : ℕ → (ℕ → ℕ) → ℕ → ℕ → Type 0
NoneAt n row b m = (q : ℕ) → b ≤ q → q < b + m → Nameless n (row q)

-- c is what is named first
abbrev pub First : ℕ → (ℕ → ℕ) → ℕ → ℕ → ℕ → Type 0
First n row b m c = ((c ≡ 36) × NoneAt n row b m) ⊎ ((c < 30) × ((q : ℕ) × NamedAt n row b m c q))

module _ (n : ℕ) (z : 0 < n) where
  -- v names no kind that is sought among n, or the first of its family is one
  pub name_view : (v : ℕ) → ((name_of n v ≡ 36) × Nameless n v) ⊎ ((name_of n v < 30) × Names n v (name_of n v))
  unfolding name_of
  name_view v = go (eqb (sought (kind_of (v / 8))) n) refl (below_or (kind_of (v / 8)) 36) (below_or (kind_of (v / 8)) 3)
    where
      go : (t : Bool) → eqb (sought (kind_of (v / 8))) n ≡ t
          → (kind_of (v / 8) < 36) ⊎ (36 ≤ kind_of (v / 8)) → (kind_of (v / 8) < 3) ⊎ (3 ≤ kind_of (v / 8))
          → ((cond t (kind_of (v / 8)) 36 ≡ 36) × Nameless n v) ⊎ ((cond t (kind_of (v / 8)) 36 < 30) × Names n v (cond t (kind_of (v / 8)) 36))
      go true e (inl l) (inl m) =
          let f = eqb-true _ n e in
          let g = sought_low (kind_of (v / 8)) l m in
          absurd (omega arith)
      go true e (inl l) (inr m) = inr (kind_first (v / 8) l, (l, m, eqb-true _ n e, sym (kind_has (v / 8) l)))
      go true e (inr l) y =
          let f = eqb-true _ n e in
          let m = kind_most (v / 8) in
          let g : kind_of (v / 8) ≡ 36 = omega arith in
          let k = ap sought g ∙ none_sought in
          absurd (omega arith)
      go false e x y = inl (refl, λ c w. eqb-false _ n e (ap (λ (f : ℕ). sought (kind_of f)) w.3 ∙ family_sought c w.0 ∙ w.2))

  -- ---- the first that is named
  module _ (row : ℕ → ℕ) where
    none_more : (b m : ℕ) → NoneAt n row b m → Nameless n (row (b + m)) → NoneAt n row b (suc m)
    none_more b m h g q l u = ⊎_elim (λ (e : q ≡ b + m). rw e g) (λ (e : q ≢ b + m). h q l (omega arith)) (equal_or q (b + m))

    pub first_view : (b m : ℕ) → First n row b m (first_named n row b m)
    first_view b zero = inl (refl, λ q l u. absurd (omega arith))
    first_view b (suc m) = go (first_view b m) (name_view (row (b + m)))
      where
        go : First n row b m (first_named n row b m)
            → ((name_of n (row (b + m)) ≡ 36) × Nameless n (row (b + m)))
            ⊎ ((name_of n (row (b + m)) < 30) × Names n (row (b + m)) (name_of n (row (b + m))))
            → First n row b (suc m) (or_else (first_named n row b m) (name_of n (row (b + m))))
        go (inr (f, w)) v = inr (rw (← or_else_low _ (name_of n (row (b + m))) w.1.2.0) (f, (w.0, (w.1.0, omega arith, w.1.2))))
        go (inl h) (inl g) = inl (sym (or_else_high _ _ (omega (arith, h.0))) ∙ g.0, none_more b m h.1 g.1)
        go (inl h) (inr g) =
            inr (rw (← or_else_high (first_named n row b m) (name_of n (row (b + m))) (omega (arith, h.0))) (g.0, (b + m, (omega arith, omega arith, g.1))))
