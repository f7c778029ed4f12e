-- 01's sentences on what may stand where, in its own ranges of values, as laws of the table of kinds: so the definitions by
-- the table say what 01 says kind by kind ("What a plan is").
use mathlib.Core.Path.{◌≡◌, refl, sym, ◌∙◌}
use mathlib.Core.Logic.{◌≢◌, ◌⊎◌, inl, inr, ⊎_elim}
use mathlib.Core.Bool.{Bool, true, false, cond, not, ◌&&◌}
use Prim.Native.Nat.{ℕ, ◌+◌, ◌*◌, ◌/◌, ◌%◌, ◌≤◌, ◌<◌}
use native.Mathlib.Omega.{arith}
use lib.Dec.{T, eqb, eqb→eq}
use borrow.Author.Tests.{eq-eqb, ne_eqb, le-leb}
use Rattle.resource.specs.Values.{smaller_at, carried, fields_of}
use Rattle.resource.proofs.Test.{both_right, below, every_below, every_between}
use Rattle.kinds.specs.Kinds.{kinds, kind_at, family, span, mask, takes, takes_block, blank_at, must_name}
use Rattle.kinds.specs.Signals.{Place, Fits, own, blank, smaller}
use Rattle.kinds.proofs.Tests.{equal_or, not_both}
use Rattle.kinds.proofs.Table.{family_low, family_most, span_0, span_1, span_2, span_four, named_high, high_named, plain_family, plain_blank, full}
use Rattle.kinds.proofs.Places.{place_mod}
use Rattle.kinds.proofs.Fitting.{leaf, smaller_view}

-- each follows from the other
abbrev Same : Type 0 → Type 0 → Type 0
Same A B = (A → B) × (B → A)

-- ---- "a 484 on the lower or upper pair (each place 29 or 72 to 79); a 996 on all four (each 30 or 80 to 87)"
module _ (c p v : ℕ) (h : c < 3) where
  plain_to : c ≢ 0 → Fits c p v → (v ≡ 28 + c) ⊎ (v / 8 ≡ 8 + c)
  plain_to n f = ⊎_elim (λ x. x) (λ x. absurd (n x.0)) (leaf c p v h f)

  plain_from : (v ≡ 28 + c) ⊎ (v / 8 ≡ 8 + c) → Fits c p v
  plain_from (inl e) = blank (full c h _ (place_mod c p (omega arith))) (e ∙ sym (plain_blank c h _ (place_mod c p (omega arith))))
  plain_from (inr e) = own (full c h _ (place_mod c p (omega arith))) (e ∙ sym (plain_family c h))

pub pair_holds : (p v : ℕ) → Same (Fits 1 p v) ((v ≡ 29) ⊎ ((72 ≤ v) × (v ≤ 79)))
pair_holds p v = (
  λ f. ⊎_elim (λ e. inl e) (λ e. inr (omega arith, omega arith)) (plain_to 1 p v (omega arith) (λ e. omega arith) f),
  λ x. plain_from 1 p v (omega arith) (⊎_elim (λ e. inl e) (λ e. inr (omega (arith, e.0, e.1))) x),
)

pub whole_holds : (p v : ℕ) → Same (Fits 2 p v) ((v ≡ 30) ⊎ ((80 ≤ v) × (v ≤ 87)))
whole_holds p v = (
  λ f. ⊎_elim (λ e. inl e) (λ e. inr (omega arith, omega arith)) (plain_to 2 p v (omega arith) (λ e. omega arith) f),
  λ x. plain_from 2 p v (omega arith) (⊎_elim (λ e. inl e) (λ e. inr (omega (arith, e.0, e.1))) x),
)

-- ---- "to itself (values 0 to 28, 48, 50, 64 to 71)"; "48 isn't allowed in a fourth position nor 50 in a third"
abbrev pub Itself : ℕ → ℕ → Type 0
Itself p v = (v ≤ 28) ⊎ (((v ≡ 48) × (p % 4 ≢ 3)) ⊎ (((v ≡ 50) × (p % 4 ≢ 2)) ⊎ ((64 ≤ v) × (v ≤ 71))))

smaller_ranges : (p v : ℕ) → smaller_at (p % 4) v ≡ true → Itself p v
smaller_ranges p v e = ⊎_elim (λ l. inl (omega arith)) (⊎_elim (λ f. inr (inl (f, at_48 f))) (λ f. inr (inr (inl (f, at_50 f))))) (smaller_view (p % 4) v e)
  where
    at_48 : v ≡ 48 → p % 4 ≢ 3
    at_48 f g = not_both _ e (unfold smaller_at in rw (f, g))

    at_50 : v ≡ 50 → p % 4 ≢ 2
    at_50 f g = not_both _ e (unfold smaller_at in rw (f, g))

pub itself_holds : (p v : ℕ) → Same (Fits 0 p v) (Itself p v)
itself_holds p v = (to, back)
  where
    to : Fits 0 p v → Itself p v
    to (own t e) = let f = e ∙ plain_family 0 (omega arith) in inr (inr (inr (omega arith, omega arith)))
    to (blank t e) = inl (let f = e ∙ plain_blank 0 (omega arith) (p % span 0) (place_mod 0 p (omega arith)) in omega arith)
    to (smaller e) = smaller_ranges p v e.1

    back : Itself p v → Fits 0 p v
    back (inl l) =
        ⊎_elim
        (λ (e : v ≡ 28). plain_from 0 p v (omega arith) (inl e))
        (λ (e : v ≢ 28). smaller (refl, unfold smaller_at in rw (le-leb v 27 (omega arith))))
        (equal_or v 28)
    back (inr (inl (e, n))) = smaller (refl, unfold smaller_at in rw (e, ne_eqb (p % 4) 3 n))
    back (inr (inr (inl (e, n)))) = smaller (refl, unfold smaller_at in rw (e, ne_eqb (p % 4) 2 n))
    back (inr (inr (inr (l, u)))) = plain_from 0 p v (omega arith) (inr (omega arith))

-- ---- "a 484+242 on three of four (each place its own family's value or, with no field, 29 on its whole pair and 28 on its single
-- position)": the kind 3 + k leaves out place k, from 0, and its single position is the one beside it
abbrev left_test : ℕ → ℕ → Bool
left_test k j = eqb (cond (takes (3 + k) j) 1 0) (cond (eqb j k) 0 1) && eqb (blank_at (3 + k) j) (cond (eqb (j / 2) (k / 2)) 28 29)

lefts_tested : T (below (λ k. below (left_test k) 4) 4)
unfolding mask takes takes_block blank_at kind_at kinds
lefts_tested = tt

abbrev own_test : ℕ → Bool
own_test k = eqb (family (3 + k)) (12 + k)

owns_tested : T (below own_test 4)
unfolding family kind_at kinds
owns_tested = tt

module _ (k : ℕ) (h : k < 4) where
  own_family : family (3 + k) ≡ 12 + k
  own_family = eqb→eq _ _ (every_below own_test 4 owns_tested k h)

  left_line : (j : ℕ) → j < 4 → T (left_test k j)
  left_line j l = every_below (left_test k) 4 (every_below (λ k. below (left_test k) 4) 4 lefts_tested k h) j l

  takes_is : (j : ℕ) → j < 4 → takes (3 + k) j ≡ not (eqb j k)
  takes_is j l = go (takes (3 + k) j) (eqb j k) (left_line j l)
    where
      go : (s t : Bool) → T (eqb (cond s 1 0) (cond t 0 1) && eqb (blank_at (3 + k) j) (cond (eqb (j / 2) (k / 2)) 28 29)) → s ≡ not t
      go true true e = absurd e
      go true false e = refl
      go false true e = refl
      go false false e = absurd e

  blank_is : (j : ℕ) → j < 4 → blank_at (3 + k) j ≡ cond (eqb (j / 2) (k / 2)) 28 29
  blank_is j l = eqb→eq _ _ (both_right (eqb (cond (takes (3 + k) j) 1 0) (cond (eqb j k) 0 1)) _ (left_line j l))

  span_is : span (3 + k) ≡ 4
  span_is = span_four (3 + k) (omega arith) (omega arith)

  abbrev pub Joined : ℕ → ℕ → Type 0
  Joined p v =
      (p % 4 ≢ k) × (((96 + 8 * k ≤ v) × (v ≤ 103 + 8 * k)) ⊎ (((p % 4 / 2 ≡ k / 2) × (v ≡ 28)) ⊎ ((p % 4 / 2 ≢ k / 2) × (v ≡ 29))))

  taken : (p : ℕ) → takes (3 + k) (p % span (3 + k)) ≡ true → p % 4 ≢ k
  taken p t e =
      let u : takes (3 + k) (p % 4) ≡ true = rw span_is at t in
      not_both (takes (3 + k) (p % 4)) u (takes_is (p % 4) (omega arith) ∙ rw (eq-eqb (p % 4) k e))

  take : (p : ℕ) → p % 4 ≢ k → takes (3 + k) (p % span (3 + k)) ≡ true
  take p n = rw span_is (takes_is (p % 4) (omega arith) ∙ rw (ne_eqb (p % 4) k n))

  pub joined_holds : (p v : ℕ) → Same (Fits (3 + k) p v) (Joined p v)
  joined_holds p v = (to, back)
    where
      b : blank_at (3 + k) (p % span (3 + k)) ≡ cond (eqb (p % 4 / 2) (k / 2)) 28 29
      b = rw span_is (blank_is (p % 4) (omega arith))

      to : Fits (3 + k) p v → Joined p v
      to (own t e) = let f = e ∙ own_family in (taken p t, inl (omega arith, omega arith))
      to (blank t e) = (
        taken p t,
        inr (⊎_elim
            (λ f. inl (f, e ∙ b ∙ rw (eq-eqb (p % 4 / 2) (k / 2) f)))
            (λ f. inr (f, e ∙ b ∙ rw (ne_eqb (p % 4 / 2) (k / 2) f)))
            (equal_or (p % 4 / 2) (k / 2))),
      )
      to (smaller e) = absurd (omega (arith, e.0))

      back : Joined p v → Fits (3 + k) p v
      back (n, inl x) = own (take p n) (omega (arith, x.0, x.1, own_family))
      back (n, inr (inl x)) = blank (take p n) (x.1 ∙ sym (b ∙ rw (eq-eqb (p % 4 / 2) (k / 2) x.0)))
      back (n, inr (inr x)) = blank (take p n) (x.1 ∙ sym (b ∙ rw (ne_eqb (p % 4 / 2) (k / 2) x.0)))

  -- its places are the segment's other three
  pub joined_places : (p q : ℕ) → Same (Place (3 + k) p q) ((q / 4 ≡ p / 4) × (q % 4 ≢ k))
  joined_places p q = (λ w. (rw span_is at w.0, taken q w.1), λ w. (rw span_is w.0, take q w.1))

-- ---- the places of the others
pub own_place : (p q : ℕ) → Same (Place 0 p q) (q ≡ p)
own_place p q = (λ w. let e = rw span_0 at w.0 in omega arith, λ e. (rw e, full 0 (omega arith) _ (place_mod 0 q (omega arith))))

pub pair_places : (p q : ℕ) → Same (Place 1 p q) (q / 2 ≡ p / 2)
pair_places p q = (λ w. rw span_1 at w.0, λ e. (rw span_1 e, full 1 (omega arith) _ (place_mod 1 q (omega arith))))

pub whole_places : (p q : ℕ) → Same (Place 2 p q) (q / 4 ≡ p / 4)
whole_places p q = (λ w. rw span_2 at w.0, λ e. (rw span_2 e, full 2 (omega arith) _ (place_mod 2 q (omega arith))))

-- ---- "with at least one place in its own family" is asked of the 484+242, and of what is wider than a segment
pub joined_named : (c : ℕ) → c < 36 → Same (must_name c ≡ true) (3 ≤ c)
joined_named c h = (named_high c h, high_named c h)

-- ---- "each with 1 to 8 fields": a value of a kind's family gives as many as its lowest three bits say, and one
family_test : ℕ → Bool
family_test v = eqb (fields_of v) (v % 8 + 1)

pub family_fields : (c v : ℕ) → c < 36 → v / 8 ≡ family c → fields_of v ≡ v % 8 + 1
unfolding family_test fields_of carried
family_fields c v h e =
    let l = family_low c h in
    let u = family_most c h in
    eqb→eq (fields_of v) (v % 8 + 1) (every_between family_test 64 304 v tt (omega arith) (omega arith))
