-- A plan that signals some positions gives each of those that belong to a resource wider than a segment to the kind that the search finds there.
use mathlib.Core.Path.{◌≡◌, refl, sym, ◌∙◌, ap, subst}
use mathlib.Core.Logic.{◌≢◌, ◌⊎◌, inl, inr, ⊎_elim}
use mathlib.Core.Bool.{Bool, true, false, cond}
use mathlib.Core.List.{List, ◌∷◌}
use Prim.Native.Nat.{ℕ, ◌+◌, ◌-◌, ◌*◌, ◌/◌, ◌%◌, ◌≤◌, ◌<◌}
use native.Mathlib.Omega.{arith}
use native.Mathlib.Nat.{mod-lt}
use lib.Dec.{ltb, eqb}
use borrow.Author.Tests.{ltb-true, ltb-false, lt-ltb}
use Rattle.resource.proofs.Test.{below_or}
use Rattle.kinds.specs.Kinds.{family, span, takes, blank_at, must_name}
use Rattle.kinds.specs.Signals.{Place, Fits, own, blank, smaller, Signals}
use Rattle.kinds.specs.Engine.{sought, kind_of, tell_tale, whole_or, alike, sided, settled}
use Rattle.kinds.proofs.Tests.{Tested, decided, refuted, eqb_decides, or_tested, by_test, not_both, is_false}
use Rattle.kinds.proofs.Table.{powers, sought_high, sought_low, high_named}
use Rattle.kinds.proofs.Table.{family_sought, family_low, low_nameless, meets, whole_segment, widest}
use Rattle.kinds.proofs.Table.{first_of, family_first, first_family, Twin, twin, takes_known}
use Rattle.kinds.proofs.Places.{at, at_span, at_place, at_self}
use Rattle.kinds.proofs.Fitting.{known, high_own, fits_takes, smaller_view}
use Rattle.segments.proofs.Named.{NoneAt}
use Rattle.spans.specs.Engine.{named, search}
use Rattle.plan.proofs.Naming.{Naming, named_view, settled_apart, settled_sided}

-- ---- what is sought among n positions is no plain kind, must be named, and lies among n
pub sought_span : (n c : ℕ) → 0 < n → c < 36 → sought c ≡ n → (span c ≡ n) × (3 ≤ c) × (must_name c ≡ true)
sought_span n c z h e =
    let l : 3 ≤ c = ⊎_elim (λ m. absurd (omega (arith, sought_low c h m))) (λ m. m) (below_or c 3) in
    (sym (sought_high c h l) ∙ e, l, high_named c h l)

-- a value that names fits only a kind of its family
pub names_fits : (n c p v : ℕ) → 0 < n → sought (kind_of (v / 8)) ≡ n → Fits c p v → (v / 8 ≡ family c) × (sought c ≡ n)
names_fits n c p v z e f =
    let h = known c p v f in
    let l : 11 ≤ v / 8 = ⊎_elim (λ m. absurd (omega (arith, low_nameless (v / 8) m))) (λ m. m) (below_or (v / 8) 11) in
    let w = high_own c p v f (omega arith) in
    (w.1, sym (family_sought c h) ∙ sym (ap (λ (k : ℕ). sought (kind_of k)) w.1) ∙ e)

-- ---- which of the two 2x996+484 of a family it is
abbrev WholeOr : ℕ → ℕ → Type 0
WholeOr c v = (v ≡ 30) ⊎ (v / 8 ≡ family c)

whole_decides : (c v : ℕ) → Tested (whole_or c v) (WholeOr c v)
unfolding whole_or
whole_decides c v = or_tested (eqb v 30) (eqb (v / 8) (family c)) (v ≡ 30) (v / 8 ≡ family c) (eqb_decides v 30) (eqb_decides (v / 8) (family c))

module _ (o row : ℕ → ℕ) (a b : ℕ) (s : Signals o row a b) where
  abbrev pub In : ℕ → Type 0
  In p = (a ≤ p) × (p < b)

  pub entire_at : (c p q : ℕ) → In p → o p ≡ c → Place c p q → In q × (o q ≡ c)
  entire_at c p q i e w =
      let r = s.entire p q i.0 i.1 (subst (λ (x : ℕ). Place x p q) (sym e) w) in ((r.0, r.1), r.2 ∙ e)

  fits_at : (c p : ℕ) → In p → o p ≡ c → Fits c p (row p)
  fits_at c p i e = subst (λ (x : ℕ). Fits x p (row p)) e (s.fits p i.0 i.1)

  pub known_at : (p : ℕ) → In p → o p < 36
  known_at p i = known (o p) p (row p) (s.fits p i.0 i.1)

  -- a resource has all its places
  spread : (n : ℕ) → 0 < n → (c p r : ℕ) → In p → o p ≡ c → sought c ≡ n → r < n → takes c r ≡ true → In (at n p r) × (o (at n p r) ≡ c)
  spread n z c p r i e f l t =
      let g = (sought_span n c z (subst (λ (x : ℕ). x < 36) e (known_at p i)) f).0 in
      entire_at c p (at n p r) i e (rw g (at_span n z p r l, rw (at_place n z p r l) t))

  -- two resources that are sought among the same positions are one
  one_of : (n : ℕ) → 0 < n → (p q : ℕ) → In p → In q → q / n ≡ p / n → sought (o p) ≡ n → sought (o q) ≡ n → o p ≡ o q
  one_of n z p q i j e f g =
      let h = known_at p i in
      let m = meets (o p) (o q) h (known_at q j) (sought_span n (o p) z h f).1 (f ∙ sym g) in
      let l : m.0 < n = omega (arith, m.1) in
      let x = spread n z (o p) p m.0 i refl f l m.2 in
      let y = spread n z (o q) q m.0 j refl g l m.3 in
      sym x.1 ∙ ap (λ (k : ℕ). o (n * k + m.0)) (sym e) ∙ y.1

  names_owner : (n : ℕ) → 0 < n → (q : ℕ) → In q → sought (kind_of (row q / 8)) ≡ n → (row q / 8 ≡ family (o q)) × (sought (o q) ≡ n)
  names_owner n z q i e = names_fits n (o q) q (row q) z e (s.fits q i.0 i.1)

  -- the owner of a 30 has the whole segment
  pub thirty : (p r : ℕ) → In p → row p ≡ 30 → r / 4 ≡ p / 4 → In r × (o r ≡ o p)
  thirty p r i e f = go (s.fits p i.0 i.1)
    where
      k : o p < 36
      k = known_at p i

      go : Fits (o p) p (row p) → In r × (o r ≡ o p)
      go (own t x) = absurd (omega (arith, x, low))
        where
          low : 8 ≤ family (o p)
          low = family_low (o p) k
      go (smaller x) = absurd (⊎_elim (λ y. omega arith) (⊎_elim (λ y. omega arith) (λ y. omega arith)) (smaller_view (p % 4) (row p) x.1))
      go (blank t x) =
          ⊎_elim (λ z. let y = has 1 z (omega arith) (omega arith) in absurd (omega (arith, y.0)))
          (⊎_elim (λ z. let y = has 2 z (omega arith) (omega arith) in absurd (omega (arith, y.0)))
          (⊎_elim (λ z. in_span 4 z (omega arith) (omega arith) (omega arith) (omega arith))
          (⊎_elim (λ z. in_span 8 z (omega arith) (omega arith) (omega arith) (omega arith))
          (λ z. in_span 16 z (omega arith) (omega arith) (omega arith) (omega arith))))) (powers (o p) k)
        where
          has : (n : ℕ) → span (o p) ≡ n → p % n < n → p % n < 16 → (4 ≤ span (o p)) × (takes (o p) (4 * (p % n / 4) + r % 4) ≡ true)
          has n z l m = whole_segment (o p) k (p % n) (r % 4) m (rw z l) (sym (rw z at x) ∙ e) (omega arith)

          in_span : (n : ℕ) → span (o p) ≡ n → p % n < n → p % n < 16 → r / n ≡ p / n → r % n ≡ 4 * (p % n / 4) + r % 4 → In r × (o r ≡ o p)
          in_span n z l m g w = entire_at (o p) p r i refl (rw z (g, rw w (has n z l m).1))

  -- ---- the telltale place shows which of the two it is
  -- the positions of a span of n are there, or hold 0
  abbrev pub Inside : ℕ → Type 0
  Inside n = (p r : ℕ) → In p → r < n → In (at n p r) ⊎ (row (at n p r) ≡ 0)

  module _ (inside : Inside 16) (q : ℕ) (i : In q) (e : sought (o q) ≡ 16) (k : ℕ) (back : family k ≡ family (o q)) (w : Twin (o q) k) where
    abbrev t : ℕ
    t = at 16 q (tell_tale k)

    abbrev v : ℕ
    v = row (at 16 q (tell_tale k))

    z16 : 0 < 16
    z16 = omega arith

    h : o q < 36
    h = known_at q i

    long : span (o q) ≡ 16
    long = (sought_span 16 (o q) z16 h e).0

    has_it : takes (o q) (tell_tale k) ≡ true → WholeOr k v
    has_it x =
        let y = spread 16 z16 (o q) q (tell_tale k) i refl e w.low x in
        go (fits_at (o q) t y.0 y.1)
      where
        go : Fits (o q) t v → WholeOr k v
        go (own _ f) = inr (f ∙ sym back)
        go (blank _ f) =
            inl (f ∙ ap (λ (n : ℕ). blank_at (o q) (t % n)) long ∙ ap (blank_at (o q)) (at_place 16 z16 q (tell_tale k) w.low) ∙ w.whole x)
        go (smaller f) = absurd (omega (arith, e, ap sought f.0, sought_low 0 (omega arith) (omega arith)))

    -- whoever has the telltale place is not the resource that lacks it
    other : takes (o q) (tell_tale k) ≡ false → In t → o t ≡ o q → ⊥
    other x j g =
        let y : takes (o t) (t % span (o t)) ≡ true = fits_takes (o t) t v (s.fits t j.0 j.1) in
        let y' : takes (o q) (t % span (o q)) ≡ true = rw g at y in
        let y'' : takes (o q) (tell_tale k) ≡ true =
        sym (ap (λ (n : ℕ). takes (o q) (t % n)) long ∙ ap (takes (o q)) (at_place 16 z16 q (tell_tale k) w.low)) ∙ y' in
        not_both (takes (o q) (tell_tale k)) y'' x

    -- what it holds says that it is there
    there : WholeOr k v → In t
    there x = ⊎_elim (λ j. j) (λ f. absurd (⊎_elim (λ g. omega arith) (λ g. omega (arith, g, back, low)) x)) (inside q (tell_tale k) i w.low)
      where
        low : 8 ≤ family (o q)
        low = family_low (o q) h

    lacks_it : takes (o q) (tell_tale k) ≡ false → WholeOr k v → ⊥
    lacks_it x (inl f) =
        let j = there (inl f) in
        let r = at 16 q (4 * (tell_tale k / 4) + (2 - tell_tale k % 4)) in
        let y = spread 16 z16 (o q) q (4 * (tell_tale k / 4) + (2 - tell_tale k % 4)) i refl e (omega (arith, w.low)) (w.other x) in
        let u : o r ≡ o t = (thirty t r j f (omega arith)).1 in
        other x j (sym u ∙ y.1)
    lacks_it x (inr f) =
        let j = there (inr f) in
        let y = names_owner 16 z16 t j (ap (λ (m : ℕ). sought (kind_of m)) (f ∙ back) ∙ family_sought (o q) h ∙ e) in
        other x j (sym (one_of 16 z16 q t i j (at_span 16 z16 q (tell_tale k) w.low) e y.1))

    shows : whole_or k v ≡ takes (o q) (tell_tale k)
    shows = by_test (takes (o q) (tell_tale k))
        (λ x. decided (whole_or k v) (WholeOr k v) (whole_decides k v) (has_it x) ∙ sym x)
        (λ x. refuted (whole_or k v) (WholeOr k v) (whole_decides k v) (lacks_it x) ∙ sym x)

    sided_is : sided k v ≡ o q
    unfolding sided
    sided_is = ap (λ (u : Bool). cond (alike u (takes k (tell_tale k))) k (k + 6)) shows ∙ w.apart

  -- ---- one span: the n positions around each are there, or hold 0
  module _ (n : ℕ) (z : 0 < n) (inside : Inside n) where
    -- the kind that a value names, settled, is the owner of its position
    settled_is : (q : ℕ) → In q → sought (o q) ≡ n → settled row (n * (q / n)) (kind_of (family (o q))) ≡ o q
    settled_is q i e = rw (family_first (o q) (known_at q i)) (⊎_elim small large (below_or (o q) 24))
      where
        small : o q < 24 → settled row (n * (q / n)) (first_of (o q)) ≡ o q
        small l = rw (lt-ltb (o q) 30 (omega arith)) (settled_apart row (n * (q / n)) (o q) l)

        first_range : 24 ≤ o q → (24 ≤ first_of (o q)) × (first_of (o q) < 30)
        first_range l = go (ltb (o q) 30) refl
          where
            go : (u : Bool) → ltb (o q) 30 ≡ u → (24 ≤ cond u (o q) (o q - 6)) × (cond u (o q) (o q - 6) < 30)
            go true f = (l, ltb-true (o q) 30 f)
            go false f = let g = ltb-false (o q) 30 f in let k = known_at q i in (omega arith, omega arith)

        large : 24 ≤ o q → settled row (n * (q / n)) (first_of (o q)) ≡ o q
        large l =
            let c = known_at q i in
            let g : n ≡ 16 = sym e ∙ sought_high (o q) c (omega arith) ∙ widest (o q) c (omega arith) in
            let r = first_range l in
            settled_sided row (n * (q / n)) (first_of (o q)) r.0 r.1
            ∙ ap (λ (m : ℕ). sided (first_of (o q)) (row (m * (q / m) + tell_tale (first_of (o q))))) g
            ∙ sided_is (subst Inside g inside) q i (e ∙ g) (first_of (o q)) (first_family (o q) c) (twin (o q) c l)

    -- the kind that p's span names
    abbrev pub here : ℕ → ℕ
    here p = named n row (n * (p / n))

    -- .. is an owner in it
    pub record Found (p c : ℕ) : Type 0 where
      pub namer : ℕ
      pub there : In namer
      pub same : namer / n ≡ p / n
      pub is : c ≡ o namer
      pub among : sought (o namer) ≡ n

    found : (p : ℕ) → In p → Naming n row (n * (p / n)) (here p) → Found p (here p)
    found p i w =
        let q = at n p w.place in
        let d = at_span n z p w.place w.inside in
        let y = names_owner n z q j (ap (λ (m : ℕ). sought (kind_of m)) w.by ∙ family_sought (here p) w.kind ∙ w.among) in
        record {
          namer = q;
          there = j;
          same = d;
          is = w.means ∙ ap (λ (f : ℕ). settled row (n * (p / n)) (kind_of f)) (sym w.by ∙ y.0)
              ∙ ap (λ (m : ℕ). settled row (n * m) (kind_of (family (o q)))) (sym d)
              ∙ settled_is q j y.1;
          among = y.1;
        }
      where
        low : 8 ≤ family (here p)
        low = family_low (here p) w.kind

        j : In (at n p w.place)
        j = ⊎_elim (λ x. x) (λ x. absurd (omega (arith, w.by, x, low))) (inside p w.place i w.inside)

    -- what is sought among n is found; what is not, the search among fewer has to find
    pub wider_is : (ns : List ℕ) (p : ℕ) → In p → sought (o p) ≡ n → o p ≡ search (n ∷ ns) row p
    unfolding search
    wider_is ns p i e = ⊎_elim without with_name (named_view n z row (n * (p / n)))
      where
        with_name : Naming n row (n * (p / n)) (here p) → o p ≡ cond (takes (here p) (p % n)) (here p) (search ns row p)
        with_name m =
            let w = found p i m in
            let g : o p ≡ o w.namer = one_of n z p w.namer i w.there w.same e w.among in
            let f : here p ≡ o p = w.is ∙ sym g in
            let y : takes (o p) (p % span (o p)) ≡ true = fits_takes (o p) p (row p) (s.fits p i.0 i.1) in
            let l = (sought_span n (o p) z (known_at p i) e).0 in
            let t : takes (here p) (p % n) ≡ true = ap (λ (c : ℕ). takes c (p % n)) f ∙ (rw l at y) in
            rw t (sym f)

        without : (here p ≡ 36) × NoneAt n row (n * (p / n)) n → o p ≡ cond (takes (here p) (p % n)) (here p) (search ns row p)
        without h =
            let k = known_at p i in
            let g = sought_span n (o p) z k e in
            let w = s.named p i.0 i.1 g.2 in
            let q = w.0 in
            let d : q / n ≡ p / n = rw g.0 at w.1.0 in
            let x : at n p (q % n) ≡ q = ap (λ (m : ℕ). n * m + q % n) (sym d) ∙ at_self n z q in
            let l = mod-lt q z in
            absurd (h.1 q (omega arith) (omega arith) (o p) (k, g.1, e, w.2))

    pub wider_leaves : (ns : List ℕ) (p : ℕ) → In p → sought (o p) ≢ n → search (n ∷ ns) row p ≡ search ns row p
    unfolding search
    wider_leaves ns p i e = rw (is_false (takes (here p) (p % n)) no)
      where
        no : takes (here p) (p % n) ≡ true → ⊥
        no x = ⊎_elim (λ h. let y = takes_known (here p) (p % n) x in omega (arith, h.0)) has (named_view n z row (n * (p / n)))
          where
            has : Naming n row (n * (p / n)) (here p) → ⊥
            has m =
                let w = found p i m in
                let q = w.namer in
                let y = spread n z (o q) q (p % n) w.there refl w.among (mod-lt p z) (ap (λ (c : ℕ). takes c (p % n)) (sym w.is) ∙ x) in
                let g : o p ≡ o q = sym (ap o (ap (λ (m : ℕ). n * m + p % n) w.same ∙ at_self n z p)) ∙ y.1 in
                e (ap sought g ∙ w.among)
