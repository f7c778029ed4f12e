-- The only plan signals a part of a row where its test passes, and where it does not, no plan does.
use mathlib.Core.Path.{◌≡◌, refl, sym, ◌∙◌, ap, subst}
use mathlib.Core.Logic.{◌≢◌, ◌⊎◌, inl, inr, ⊎_elim}
use mathlib.Core.Bool.{Bool, true, false, not, ◌&&◌}
use mathlib.Core.List.{List, [], ◌∷◌}
use Prim.Native.Nat.{ℕ, ◌+◌, ◌-◌, ◌*◌, ◌/◌, ◌%◌, ◌≤◌, ◌<◌}
use native.Mathlib.Omega.{arith}
use native.Mathlib.Nat.{mod-lt}
use lib.Dec.{ltb, leb, eqb}
use lib.ListN.{length, get_or-eq_default}
use borrow.Author.Tests.{ltb-true, leb-true, eqb-true, eqb-false, eq-eqb, lt-ltb, le-leb, not-false}
use Rattle.answer.specs.Least.{least}
use Rattle.answer.proofs.Least.{least_before, least_none, least_holds, least_le}
use Rattle.answer.specs.Lists.{at as value}
use Rattle.resource.proofs.Test.{below_or}
use Rattle.kinds.specs.Kinds.{family, span, takes, must_name}
use Rattle.kinds.specs.Signals.{Place, Fits, Signals}
use Rattle.kinds.specs.Engine.{sought, kind_of}
use Rattle.kinds.proofs.Tests.{Tested, move, by_test, not_both}
use Rattle.kinds.proofs.Table.{span_some, named_high, family_sought, family_low, family_high, span_four, narrow_span, sought_low, sought_high}
use Rattle.kinds.proofs.Places.{at, at_span, at_place, place_at}
use Rattle.kinds.proofs.Fitting.{known, fits_takes, names_fits as joined_fits}
use Rattle.segments.specs.Engine.{segment_plan, fitting}
use Rattle.plan.specs.Answers.{Size, part_end, PartPlan}
use Rattle.spans.specs.Engine.{named, search, spans_in, part_plan}
use Rattle.plan.specs.Engine.{given, place_given, entirely, is_right, every_from, part_right}
use Rattle.segments.proofs.Only.{segment_known, segment_named}
use Rattle.segments.proofs.Found.{fitting_fits, fits_fitting, and_left, and_right}
use Rattle.plan.proofs.Wider.{sought_span, names_fits}
use Rattle.plan.proofs.Only.{Wide, Among, AllWide, source, part_known, part_only}

-- ---- tests
both_true : (s t : Bool) → s ≡ true → t ≡ true → s && t ≡ true
both_true s t e f = rw (e, f)

-- of every position from a up to b
module _ (fails : ℕ → Bool) (a b : ℕ) where
  every_says : every_from fails a b ≡ true → (p : ℕ) → a ≤ p → p < b → fails p ≡ false
  unfolding every_from
  every_says e p l u =
      let n : least (λ j. fails (a + j)) (b - a) ≡ b - a = eqb-true _ _ e in
      let q : a + (p - a) ≡ p = omega arith in
      subst (λ (k : ℕ). fails k ≡ false) q (least_before (λ j. fails (a + j)) (b - a) (p - a) (omega arith))

  says_every : ((p : ℕ) → a ≤ p → p < b → fails p ≡ false) → every_from fails a b ≡ true
  unfolding every_from
  says_every h = eq-eqb _ _ (least_none (λ j. fails (a + j)) (b - a) (λ k l. h (a + k) (omega arith) (omega arith)))

  -- .. or one of them fails
  pub one_fails : every_from fails a b ≡ false → (p : ℕ) × (a ≤ p) × (p < b) × (fails p ≡ true)
  unfolding every_from
  one_fails e =
      let n = least (λ j. fails (a + j)) (b - a) in
      let l : n < b - a = below_end n (least_le (λ j. fails (a + j)) (b - a)) (eqb-false _ _ e) in
      (a + n, omega arith, omega arith, least_holds (λ j. fails (a + j)) (b - a) l)
    where
      below_end : (n : ℕ) → n ≤ b - a → n ≢ b - a → n < b - a
      below_end n l d = omega arith

  pub every_tested : Tested (every_from fails a b) ((p : ℕ) → a ≤ p → p < b → fails p ≡ false)
  every_tested = go (every_from fails a b) refl
    where
      go : (t : Bool) → every_from fails a b ≡ t → Tested t ((p : ℕ) → a ≤ p → p < b → fails p ≡ false)
      go true e = every_says e
      go false e = λ h. not_both (every_from fails a b) (says_every h) e

-- ---- `entire`
module _ (o : ℕ → ℕ) (a b : ℕ) where
  given_is : (c q : ℕ) → given o a b c q ≡ true → (a ≤ q) × (q < b) × (o q ≡ c)
  unfolding given
  given_is c q e =
      let f = and_right (leb a q) (ltb q b && eqb (o q) c) e in
      (leb-true a q (and_left (leb a q) _ e), ltb-true q b (and_left (ltb q b) _ f), eqb-true (o q) c (and_right (ltb q b) (eqb (o q) c) f))

  is_given : (c q : ℕ) → a ≤ q → q < b → o q ≡ c → given o a b c q ≡ true
  unfolding given
  is_given c q l u e = both_true (leb a q) _ (le-leb a q l) (both_true (ltb q b) _ (lt-ltb q b u) (eq-eqb (o q) c e))

  pub entirely_all : (c p : ℕ) → 0 < span c → entirely o a b c p ≡ true → (q : ℕ) → Place c p q → (a ≤ q) × (q < b) × (o q ≡ c)
  unfolding entirely
  entirely_all c p z e q h =
      let j = q % span c in
      let n : least (λ j. not (place_given o a b c p j)) (span c) ≡ span c = eqb-true _ _ e in
      let l : j < span c = mod-lt q z in
      let t : place_given o a b c p j ≡ true = not-false _ (least_before (λ j. not (place_given o a b c p j)) (span c) j (omega arith)) in
      let g : given o a b c (span c * (p / span c) + j) ≡ true = rw h.1 at t in
      given_is c q (subst (λ (k : ℕ). given o a b c k ≡ true) (sym (place_at c p q h)) g)

  all_entirely : (c p : ℕ) → 0 < span c → ((q : ℕ) → Place c p q → (a ≤ q) × (q < b) × (o q ≡ c)) → entirely o a b c p ≡ true
  unfolding entirely
  all_entirely c p z h = eq-eqb _ _ (least_none (λ j. not (place_given o a b c p j)) (span c) one)
    where
      one : (j : ℕ) → j < span c → not (place_given o a b c p j) ≡ false
      one j l = by_test (takes c j)
          (λ t.
          let q = at (span c) p j in
          let r = h q (at_span (span c) z p j l, rw (at_place (span c) z p j l) t) in
          rw (t, is_given c q r.0 r.1 r.2))
          (λ t. rw t)

-- what fits a segment is sought in no wider span
pub narrow_sought : (c : ℕ) → c < 7 → sought c ≤ 4
narrow_sought c h =
    ⊎_elim (λ l. omega (arith, sought_low c (omega arith) l)) (λ l. omega (arith, sought_high c (omega arith) l, narrow_span c h)) (below_or c 3)

-- ---- the search's answer, where it is right at every position from a up to b
module _ (row : ℕ → ℕ) (a b : ℕ) (ns : List ℕ) (q : AllWide ns) where
  abbrev o : ℕ → ℕ
  o = search ns row

  -- the positions of the spans searched, and of each segment, are there or hold 0
  abbrev pub There : ℕ → Type 0
  There n = (p r : ℕ) → a ≤ p → p < b → r < n → ((a ≤ at n p r) × (at n p r < b)) ⊎ (row (at n p r) ≡ 0)

  module _ (there : (n : ℕ) → (n ≡ 4) ⊎ Among n ns → There n) (ok : (p : ℕ) → a ≤ p → p < b → is_right o row a b p ≡ true) where
    fit : (p : ℕ) → a ≤ p → p < b → Fits (o p) p (row p)
    fit p l u = fitting_fits (o p) p (row p) (and_left (fitting (o p) p (row p)) (entirely o a b (o p) p) (unfold is_right in ok p l u))

    here : (p : ℕ) → a ≤ p → p < b → o p < 36
    here p l u = known (o p) p (row p) (fit p l u)

    whole : (p q : ℕ) → a ≤ p → p < b → Place (o p) p q → (a ≤ q) × (q < b) × (o q ≡ o p)
    whole p q l u w =
        entirely_all o a b (o p) p (span_some (o p) (here p l u)) (and_right (fitting (o p) p (row p)) (entirely o a b (o p) p) (unfold is_right in ok p l u))
        q w

    -- what is sought among n comes from the span of n
    alone : (p r n : ℕ) → 0 < n → r / n ≡ p / n → (c : ℕ) → c ≡ named n row (n * (p / n)) → o r < 36 → 7 ≤ o r → sought (o r) ≡ n → o r ≡ c
    alone p r n z d c e h k f =
        ⊎_elim (λ x. absurd (omega (arith, x, segment_known row r)))
        (λ w.
        let m : w.0 ≡ n = sym w.2.naming.among ∙ f in
        w.2.is ∙ ap (λ (x : ℕ). named x row (x * (r / x))) m ∙ ap (λ (x : ℕ). named n row (n * x)) d ∙ sym e)
        (source row r ns q)

    -- a resource from a wider span has its name there
    from_span : (p n : ℕ) → a ≤ p → p < b → Among n ns → Wide row p (o p) n → (r : ℕ) × Place (o p) p r × (row r / 8 ≡ family (o p))
    from_span p n l u i w =
        let z = w.positive in
        let N = w.naming in
        let r = at n p N.place in
        let c = here p l u in
        let g : span (o p) ≡ n = (sought_span n (o p) z c N.among).0 in
        let d = at_span n z p N.place N.inside in
        let k = names_fits n (o r) r (row r) z named_here (fit r in_r.0 in_r.1) in
        let f : family (o r) ≡ family (o p) = sym k.0 ∙ N.by in
        let e : o r ≡ o p = alone p r n z d (o p) w.is (here r in_r.0 in_r.1) (wide_r k.1) k.1 in
        let t : takes (o p) (r % span (o p)) ≡ true = subst (λ (x : ℕ). takes x (r % span x) ≡ true) e
        (fits_takes (o r) r (row r) (fit r in_r.0 in_r.1)) in
        (r, (rw g d, t), N.by)
      where
        r₀ : ℕ
        r₀ = at n p w.naming.place

        low : 8 ≤ family (o p)
        low = family_low (o p) (here p l u)

        in_r : (a ≤ r₀) × (r₀ < b)
        in_r = ⊎_elim (λ x. x) (λ x. absurd (omega (arith, w.naming.by, x, low))) (there n (inr i) p w.naming.place l u w.naming.inside)

        named_here : sought (kind_of (row r₀ / 8)) ≡ n
        named_here = ap (λ (m : ℕ). sought (kind_of m)) w.naming.by ∙ family_sought (o p) (here p l u) ∙ w.naming.among

        wide_r : sought (o r₀) ≡ n → 7 ≤ o r₀
        wide_r e = ⊎_elim (λ h. absurd (omega (arith, w.wide, narrow_sought (o r₀) h))) (λ h. h) (below_or (o r₀) 7)

    name : (p : ℕ) → a ≤ p → p < b → must_name (o p) ≡ true → (r : ℕ) × Place (o p) p r × (row r / 8 ≡ family (o p))
    name p l u m = ⊎_elim from_segment (λ w. from_span p w.0 l u w.1 w.2) (source row p ns q)
      where
        from_segment : o p ≡ segment_plan row p → (r : ℕ) × Place (o p) p r × (row r / 8 ≡ family (o p))
        from_segment e =
            let k : segment_plan row p < 7 = segment_known row p in
            let h : o p < 7 = omega arith in
            let j : 3 ≤ o p = named_high (o p) (omega arith) m in
            let w = segment_named row p (omega arith) in
            let r = w.0 in
            let g : row r / 8 ≡ family (o p) = w.2 ∙ ap family (sym e) in
            let i : (a ≤ r) × (r < b) = in_r r w.1 (omega (arith, g, family_high (o p) (omega arith) j)) in
            let f = fit r i.0 i.1 in
            let x : o r ≡ o p = joined_fits (o p) (o r) r (row r) h j g f in
            let t : takes (o p) (r % span (o p)) ≡ true = subst (λ (c : ℕ). takes c (r % span c) ≡ true) x (fits_takes (o r) r (row r) f) in
            (r, (rw (span_four (o p) h (omega arith)) w.1, t), g)
          where
            in_r : (r : ℕ) → r / 4 ≡ p / 4 → 1 ≤ row r → (a ≤ r) × (r < b)
            in_r r e z =
                let d : at 4 p (r % 4) ≡ r = omega arith in
                ⊎_elim (λ x. rw d at x) (λ x. let y : row r ≡ 0 = rw d at x in absurd (omega arith)) (there 4 (inl refl) p (r % 4) l u (omega arith))

    pub search_signals : Signals o row a b
    search_signals = record { fits = fit; entire = whole; named = name }

-- ---- a part of a row: its test decides whether it has a plan
module _ (row : List ℕ) where
  abbrev R : ℕ → ℕ
  R = value row

  -- the positions of a span of m in a part of n, whose beginning and end are a multiple of m
  there_in : (a b : ℕ) (ns : List ℕ) (w : AllWide ns) → (n : ℕ)
      → ((p r : ℕ) → a ≤ p → p < b → r < n → (a ≤ at n p r) × (at n p r < length row → at n p r < b)) → There R a b ns w n
  there_in a b ns w n f p r l u h =
      let g = f p r l u h in
      ⊎_elim (λ k. inl (g.0, g.1 k)) (λ k. inr (get_or-eq_default row 0 k)) (below_or (at n p r) (length row))

  abbrev PartSignals : ℕ → Type 0
  PartSignals n = (k : ℕ) → ((p : ℕ) → n * k ≤ p → p < part_end row n k → is_right (part_plan n R) R (n * k) (part_end row n k) p ≡ true)
      → Signals (part_plan n R) R (n * k) (part_end row n k)

  signals_4 : PartSignals 4
  unfolding part_plan spans_in
  signals_4 k ok = search_signals R (4 * k) (part_end row 4 k) [] tt there ok
    where
      there : (n : ℕ) → (n ≡ 4) ⊎ Among n [] → There R (4 * k) (part_end row 4 k) [] tt n
      there n (inl e) = subst (There R (4 * k) (part_end row 4 k) [] tt) (sym e)
          (there_in (4 * k) (part_end row 4 k) [] tt 4 (λ p r l u h. (omega arith, λ g. omega arith)))
      there n (inr e) = absurd e

  signals_8 : PartSignals 8
  unfolding part_plan spans_in
  signals_8 k ok = search_signals R (8 * k) (part_end row 8 k) (8 ∷ []) w there ok
    where
      w : AllWide (8 ∷ [])
      w = (omega arith, tt)

      there : (n : ℕ) → (n ≡ 4) ⊎ Among n (8 ∷ []) → There R (8 * k) (part_end row 8 k) (8 ∷ []) w n
      there n (inl e) = subst (There R (8 * k) (part_end row 8 k) (8 ∷ []) w) (sym e)
          (there_in (8 * k) (part_end row 8 k) (8 ∷ []) w 4 (λ p r l u h. (omega arith, λ g. omega arith)))
      there n (inr (inl e)) = subst (There R (8 * k) (part_end row 8 k) (8 ∷ []) w) (sym e)
          (there_in (8 * k) (part_end row 8 k) (8 ∷ []) w 8 (λ p r l u h. (omega arith, λ g. omega arith)))
      there n (inr (inr e)) = absurd e

  signals_16 : PartSignals 16
  unfolding part_plan spans_in
  signals_16 k ok = search_signals R (16 * k) (part_end row 16 k) (16 ∷ 8 ∷ []) w there ok
    where
      w : AllWide (16 ∷ 8 ∷ [])
      w = (omega arith, (omega arith, tt))

      there : (n : ℕ) → (n ≡ 4) ⊎ Among n (16 ∷ 8 ∷ []) → There R (16 * k) (part_end row 16 k) (16 ∷ 8 ∷ []) w n
      there n (inl e) = subst (There R (16 * k) (part_end row 16 k) (16 ∷ 8 ∷ []) w) (sym e)
          (there_in (16 * k) (part_end row 16 k) (16 ∷ 8 ∷ []) w 4 (λ p r l u h. (omega arith, λ g. omega arith)))
      there n (inr (inl e)) = subst (There R (16 * k) (part_end row 16 k) (16 ∷ 8 ∷ []) w) (sym e)
          (there_in (16 * k) (part_end row 16 k) (16 ∷ 8 ∷ []) w 16 (λ p r l u h. (omega arith, λ g. omega arith)))
      there n (inr (inr (inl e))) = subst (There R (16 * k) (part_end row 16 k) (16 ∷ 8 ∷ []) w) (sym e)
          (there_in (16 * k) (part_end row 16 k) (16 ∷ 8 ∷ []) w 8 (λ p r l u h. (omega arith, λ g. omega arith)))
      there n (inr (inr (inr e))) = absurd e

  part_signals : (n : ℕ) → Size n → PartSignals n
  part_signals n (inl e) = subst PartSignals (sym e) signals_4
  part_signals n (inr (inl e)) = subst PartSignals (sym e) signals_8
  part_signals n (inr (inr e)) = subst PartSignals (sym e) signals_16

  module _ (n : ℕ) (h : Size n) (k : ℕ) where
    abbrev a : ℕ
    a = n * k

    abbrev b : ℕ
    b = part_end row n k

    -- where some plan signals the part, the only plan does
    pub part_agrees : (o : ℕ → ℕ) → Signals o R a b → Signals (part_plan n R) R a b
    part_agrees o s = record {
      fits = λ p l u. subst (λ (x : ℕ). Fits x p (R p)) (same p l u) (s.fits p l u);
      entire = λ p q l u i.
          let r = s.entire p q l u (subst (λ (x : ℕ). Place x p q) (sym (same p l u)) i) in
          (r.0, r.1, sym (same q r.0 r.1) ∙ r.2 ∙ same p l u);
      named = λ p l u. subst (λ (x : ℕ). must_name x ≡ true → (q : ℕ) × Place x p q × (R q / 8 ≡ family x)) (same p l u) (s.named p l u);
    }
      where
        same : (p : ℕ) → a ≤ p → p < b → o p ≡ part_plan n R p
        same = part_only row n h k o s

    signals_right : Signals (part_plan n R) R a b → (p : ℕ) → a ≤ p → p < b → is_right (part_plan n R) R a b p ≡ true
    unfolding is_right
    signals_right s p l u =
        let c = part_plan n R p in
        both_true (fitting c p (R p)) (entirely (part_plan n R) a b c p) (fits_fitting c p (R p) (s.fits p l u))
        (all_entirely (part_plan n R) a b c p (span_some c (part_known n h R p)) (λ q i. s.entire p q l u i))

    pub right_tested : Tested (part_right row n k) (PartPlan row n k)
    unfolding part_right
    right_tested = move (every_from (λ p. not (is_right (part_plan n R) R a b p)) a b) _ (PartPlan row n k)
        (λ f. (part_plan n R, part_signals n h k (λ p l u. not-false _ (f p l u))))
        (λ w p l u. rw (signals_right (part_agrees w.0 w.1) p l u))
        (every_tested (λ p. not (is_right (part_plan n R) R a b p)) a b)
