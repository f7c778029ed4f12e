-- "The same resource is one of the same size, index and segment (so of the same subcarriers), however many fields it has" (02, T-06).
use mathlib.Core.Path.{◌≡◌, refl, sym, ◌∙◌, ap, ap₂}
use mathlib.Core.Bool.{Bool, true, false, ◌&&◌, ◌||◌, false≢true}
use mathlib.Core.List.{List, [], ◌∷◌, Memᴰ}
use Prim.Native.Nat.{ℕ}
use lib.Dec.{eqb}
use borrow.Author.Tests.{eq-eqb, eqb-true}
use Rattle.answer.specs.Decides.{Decides}
use Rattle.resource.specs.Names.{name_of, number_of}
use Rattle.resource.specs.Tones.{tones_of}
use Rattle.resource.proofs.Names.{same_named}
use Rattle.records.specs.declared.Record.{Record}
use Rattle.compared.specs.Reading.{same_resource, has_same}

-- ---- tests
pub of_both : (s t : Bool) → s && t ≡ true → (s ≡ true) × (t ≡ true)
of_both true t e = (refl, e)
of_both false t e = absurd (false≢true e)

pub both : (s t : Bool) → s ≡ true → t ≡ true → s && t ≡ true
both s t p q = rw (p, q)

-- ---- what the test says
module _ (y z : Record) where
  pub says_same : y.resource ≡ z.resource → y.segment ≡ z.segment → same_resource y z ≡ true
  unfolding same_resource
  says_same e f =
      both _ _ (eq-eqb (name_of y.resource) (name_of z.resource) (ap name_of e))
      (both _ _ (eq-eqb (number_of y.resource) (number_of z.resource) (ap number_of e)) (eq-eqb y.segment z.segment f))

  pub same_says : same_resource y z ≡ true → (y.resource ≡ z.resource) × (y.segment ≡ z.segment)
  unfolding same_resource
  same_says e =
      let p = of_both (eqb (name_of y.resource) (name_of z.resource)) _ e in
      let q = of_both (eqb (number_of y.resource) (number_of z.resource)) (eqb y.segment z.segment) p.1 in
      (same_named y.resource z.resource (eqb-true _ _ p.0) (eqb-true _ _ q.0), eqb-true _ _ q.1)

  -- the test decides whether it is the same resource of the same segment ..
  pub same_resource_fact : Decides (same_resource y z) ((y.resource ≡ z.resource) × (y.segment ≡ z.segment))
  same_resource_fact = record { yes = same_says; no = λ e p. false≢true (sym e ∙ says_same p.0 p.1) }

  -- .. "so of the same subcarriers"
  pub same_tones : same_resource y z ≡ true → (n : ℕ) → tones_of n y.segment y.resource ≡ tones_of n z.segment z.resource
  same_tones e n = let p = same_says e in ap₂ (tones_of n) p.1 p.0

-- ---- one for the other, wherever it is asked
pub same_self : (z : Record) → same_resource z z ≡ true
same_self z = says_same z z refl refl

pub same_back : (y z : Record) → same_resource y z ≡ true → same_resource z y ≡ true
same_back y z e = let p = same_says y z e in says_same z y (sym p.0) (sym p.1)

module _ (y z : Record) (e : same_resource y z ≡ true) where
  pub same_left : (w : Record) → same_resource y w ≡ same_resource z w
  unfolding same_resource
  same_left w = let p = same_says y z e in rw (p.0, p.1)

  pub same_right : (w : Record) → same_resource w y ≡ same_resource w z
  unfolding same_resource
  same_right w = let p = same_says y z e in rw (p.0, p.1)

  pub has_same_left : (ws : List Record) → has_same y ws ≡ has_same z ws
  unfolding has_same
  has_same_left [] = refl
  has_same_left (w ∷ ws) = ap₂ ◌||◌ (same_left w) (has_same_left ws)

-- ---- among a plan's
pub member_has : (z : Record) (ws : List Record) → Memᴰ z ws → has_same z ws ≡ true
unfolding has_same
member_has z ws (Memᴰ.head {x = w} {xs = ws'} e) = rw (← e, same_self z)
member_has z ws (Memᴰ.tail {x = w} {xs = ws'} m) = go (same_resource z w) (member_has z ws' m)
  where
    go : (t : Bool) → has_same z ws' ≡ true → t || has_same z ws' ≡ true
    go true h = refl
    go false h = h

pub has_member : (z : Record) (ws : List Record) → has_same z ws ≡ true → (w : Record) × (same_resource z w ≡ true) × Memᴰ w ws
unfolding has_same
has_member z [] e = absurd (false≢true e)
has_member z (w ∷ ws) e = go (same_resource z w) refl e (has_member z ws)
  where
    go : (t : Bool) → same_resource z w ≡ t → t || has_same z ws ≡ true
        → (has_same z ws ≡ true → (v : Record) × (same_resource z v ≡ true) × Memᴰ v ws)
        → (v : Record) × (same_resource z v ≡ true) × Memᴰ v (w ∷ ws)
    go true f h below = (w, f, Memᴰ.head refl)
    go false f h below = let v = below h in (v.0, v.1, Memᴰ.tail v.2)
