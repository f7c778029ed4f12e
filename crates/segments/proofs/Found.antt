-- Where the tests say so, what the segments say by themselves signals a part of a row, whatever its length; and the tests say so where a plan
-- gives the position to what its segment can hold.
use mathlib.Core.Path.{◌≡◌, refl, sym, subst}
use mathlib.Core.Logic.{◌⊎◌, inl, inr, ⊎_elim}
use mathlib.Core.Bool.{Bool, true, false, ◌&&◌, ◌||◌}
use Prim.Native.Nat.{ℕ, ◌+◌, ◌*◌, ◌/◌, ◌%◌, ◌≤◌, ◌<◌}
use native.Mathlib.Omega.{arith}
use lib.Dec.{eqb}
use borrow.Author.Tests.{eqb-true, eq-eqb}
use Rattle.resource.specs.Values.{smaller_at}
use Rattle.resource.proofs.Test.{below_or}
use Rattle.kinds.specs.Kinds.{family, span, takes, blank_at, must_name}
use Rattle.kinds.specs.Signals.{Place, Fits, own, blank, smaller, Signals}
use Rattle.kinds.proofs.Tests.{by_test, not_both}
use Rattle.kinds.proofs.Table.{span_0, span_1, span_2, named_high, family_high, span_four}
use Rattle.kinds.proofs.Places.{place_segment}
use Rattle.kinds.proofs.Fitting.{names_fits}
use Rattle.segments.specs.Engine.{segment_plan, fitting, right_at}
use Rattle.segments.proofs.Within.{within_yes, yes_within}
use Rattle.segments.proofs.Named.{First}
use Rattle.segments.proofs.Chosen.{left, joined, whole, half, alone, named_by, Given, given, given_is}
use Rattle.segments.proofs.Only.{segment_known, segment_first, named_joined, Ends, segment_narrow, signalled}

-- ---- the test of `Fits`
pub fitting_fits : (c p v : ℕ) → fitting c p v ≡ true → Fits c p v
unfolding fitting
fitting_fits c p v e =
    go (takes c (p % span c)) (eqb (v / 8) (family c)) (eqb v (blank_at c (p % span c))) (eqb c 0) (smaller_at (p % 4) v) refl refl refl refl refl e
  where
    go : (t f b z s : Bool) → takes c (p % span c) ≡ t → eqb (v / 8) (family c) ≡ f → eqb v (blank_at c (p % span c)) ≡ b → eqb c 0 ≡ z
        → smaller_at (p % 4) v ≡ s → (t && (f || b) || z && s) ≡ true → Fits c p v
    go true true b z s et ef eb ez es e = own et (eqb-true _ _ ef)
    go true false true z s et ef eb ez es e = blank et (eqb-true _ _ eb)
    go true false false true true et ef eb ez es e = smaller (eqb-true _ _ ez, es)
    go true false false true false et ef eb ez es e = not_both false e refl
    go true false false false s et ef eb ez es e = not_both false e refl
    go false f b true true et ef eb ez es e = smaller (eqb-true _ _ ez, es)
    go false f b true false et ef eb ez es e = not_both false e refl
    go false f b false s et ef eb ez es e = not_both false e refl

or_true : (t : Bool) → t || true ≡ true
or_true true = refl
or_true false = refl

pub fits_fitting : (c p v : ℕ) → Fits c p v → fitting c p v ≡ true
unfolding fitting
fits_fitting c p v (own t e) = rw (t, eq-eqb (v / 8) (family c) e)
fits_fitting c p v (blank t e) = rw (t, eq-eqb v (blank_at c (p % span c)) e, or_true (eqb (v / 8) (family c)))
fits_fitting c p v (smaller e) = rw (eq-eqb c 0 e.0, e.1) (or_true (takes c (p % span c) && (eqb (v / 8) (family c) || eqb v (blank_at c (p % span c)))))

-- ---- the places of what the segment gives p to are given to it too
module _ (row : ℕ → ℕ) (p : ℕ) where
  pub whole_given : (q : ℕ) → Place (segment_plan row p) p q → segment_plan row q ≡ segment_plan row p
  whole_given q w = go (segment_plan row p) (given row p) w
    where
      itself : (x : ℕ) → x ≡ 0 → Given row p p x → Place x p q → segment_plan row q ≡ x
      itself x e g w =
          let z = rw (e, span_0) at w.0 in
          let f : q ≡ p = omega arith in given_is row p q x (omega arith) (rw f g)

      go : (x : ℕ) → Given row p p x → Place x p q → segment_plan row q ≡ x
      go x (left h e) w = itself 0 refl (left h e) w
      go x (joined h e) w =
          let j = named_joined row p h in
          let z = span_four x j.1 (omega arith) in
          given_is row p q x (rw z at w.0) (joined h (rw z at w.1))
      go x (whole h t) w = given_is row p q 2 (rw span_2 at w.0) (whole h t)
      go x (half h n t) w =
          let f : q / 2 ≡ p / 2 = rw span_1 at w.0 in
          given_is row p q 1 (omega arith) (rw f (half h n t))
      go x (alone h n m) w = itself 0 refl (alone h n m) w

-- ---- the tests together
module _ (row : ℕ → ℕ) (a b : ℕ) (ends : Ends row a b)
    (fit : (p : ℕ) → a ≤ p → p < b → Fits (segment_plan row p) p (row p))
    (there : (p q : ℕ) → a ≤ p → p < b → Place (segment_plan row p) p q → q < b) where
  -- what must be named is
  named_there : (p : ℕ) → a ≤ p → p < b → must_name (segment_plan row p) ≡ true
      → (q : ℕ) × Place (segment_plan row p) p q × (row q / 8 ≡ family (segment_plan row p))
  named_there p l u m =
      let k = segment_known row p in
      go (segment_plan row p) (named_high (segment_plan row p) (omega arith) m) (given row p) (segment_first row p)
    where
      go : (x : ℕ) → 3 ≤ x → Given row p p x → First 4 row (4 * (p / 4)) 4 (named_by row p) → (q : ℕ) × Place x p q × (row q / 8 ≡ family x)
      go x h (joined k t) (inl f) = absurd (omega arith)
      go x h (joined k t) (inr (f, (q, w))) =
          by_test (takes x (q % 4)) (λ y. (q, rw (span_four x narrow (omega arith)) (omega arith, y), w.2.3)) (λ y. absurd (stray y))
        where
          narrow : x < 7
          narrow = (named_joined row p k).1

          inn : (a ≤ q) × (q < b)
          inn =
              ⊎_elim
              (λ g. (omega (arith, ends.aligned), g))
              (λ (g : b ≤ q). let z : row q ≡ 0 = ends.padded q g (omega arith) in let y = family_high x k h in absurd (omega (arith, w.2.3)))
              (below_or q b)

          -- a position that names it is none of those that it leaves out, for these are given to themselves
          stray : takes x (q % 4) ≡ false → ⊥
          stray y =
              let z : segment_plan row q ≡ 0 = given_is row p q 0 (omega arith) (left k y) in
              let g = names_fits x (segment_plan row q) q (row q) narrow h w.2.3 (fit q inn.0 inn.1) in
              omega arith
      go x h (left k t) f = absurd (omega arith)
      go x h (whole k t) f = absurd (omega arith)
      go x h (half k n t) f = absurd (omega arith)
      go x h (alone k n t) f = absurd (omega arith)

  pub fit_signals : Signals (segment_plan row) row a b
  fit_signals = record {
    fits = fit;
    entire = λ p q l u w.
        let e = place_segment (segment_plan row p) p q (segment_known row p) w in
        (omega (arith, ends.aligned), there p q l u w, whole_given row p q w);
    named = named_there;
  }

pub and_left : (s t : Bool) → s && t ≡ true → s ≡ true
and_left true t e = refl
and_left false t e = not_both false e refl

pub and_right : (s t : Bool) → s && t ≡ true → t ≡ true
and_right true t e = e
and_right false t e = not_both false e refl

-- ---- a position that is right, in a row of n
module _ (row : ℕ → ℕ) (n p : ℕ) where
  known : segment_plan row p < 36
  known = let k = segment_known row p in omega arith

  pub right_fits : right_at row n p ≡ true → Fits (segment_plan row p) p (row p)
  unfolding right_at
  right_fits e = fitting_fits (segment_plan row p) p (row p) (and_left (fitting (segment_plan row p) p (row p)) _ e)

  pub right_within : p < n → right_at row n p ≡ true → (q : ℕ) → Place (segment_plan row p) p q → q < n
  unfolding right_at
  right_within u e = within_yes (segment_plan row p) p n known u (and_right (fitting (segment_plan row p) p (row p)) _ e)

  pub is_right : p < n → Fits (segment_plan row p) p (row p) → ((q : ℕ) → Place (segment_plan row p) p q → q < n) → right_at row n p ≡ true
  unfolding right_at
  is_right u f g = rw (fits_fitting (segment_plan row p) p (row p) f, yes_within (segment_plan row p) p n known u g)

-- ---- a part of the row
module _ (row : ℕ → ℕ) (n a b : ℕ) (ends : Ends row a b) (most : b ≤ n) where
  -- one that ends with a segment or with the row: where every position is right, what the segments say signals it
  pub right_signals : (b % 4 ≡ 0) ⊎ (b ≡ n) → ((p : ℕ) → a ≤ p → p < b → right_at row n p ≡ true) → Signals (segment_plan row) row a b
  right_signals cut f = fit_signals row a b ends (λ p l u. right_fits row n p (f p l u)) there
    where
      there : (p q : ℕ) → a ≤ p → p < b → Place (segment_plan row p) p q → q < b
      there p q l u w =
          let m = right_within row n p (omega arith) (f p l u) q w in
          let e = place_segment (segment_plan row p) p q (segment_known row p) w in
          ⊎_elim (λ z. omega arith) (λ z. omega arith) cut

  -- and where a plan signals it, each position is right that the plan gives to a kind that the segment can hold
  pub signals_right : (o : ℕ → ℕ) → Signals o row a b → (p : ℕ) → a ≤ p → p < b → o p < 7 → right_at row n p ≡ true
  signals_right o s p l u k =
      let e : o p ≡ segment_plan row p = signalled o row a b ends s p l u k in
      is_right row n p (omega arith) (subst (λ (c : ℕ). Fits c p (row p)) e (s.fits p l u))
      (λ q w. let r = (s.entire p q l u (subst (λ (c : ℕ). Place c p q) (sym e) w)).1 in omega arith)

  -- which in a segment are all
  pub segment_right : (k : ℕ) → 4 * k ≤ a → b ≤ 4 * k + 4 → (o : ℕ → ℕ) → Signals o row a b → (p : ℕ) → a ≤ p → p < b → right_at row n p ≡ true
  segment_right k la lb o s p l u = signals_right o s p l u (segment_narrow o row a b s k la lb p l u)
