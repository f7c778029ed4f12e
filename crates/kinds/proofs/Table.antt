-- What the table of kinds says, each rule a test that the checker computes over its lines.
use mathlib.Core.Path.{◌≡◌, refl, sym, ◌∙◌, ap}
use mathlib.Core.Logic.{◌⊎◌, inl, inr, ⊎_elim}
use mathlib.Core.Bool.{Bool, true, false, cond, not, ◌&&◌, ◌||◌}
use mathlib.Core.List.{List, [], ◌∷◌}
use Prim.Native.Nat.{ℕ, ◌+◌, ◌-◌, ◌*◌, ◌/◌, ◌%◌, ◌^◌, ◌≤◌, ◌<◌}
use native.Mathlib.Omega.{arith}
use native.Mathlib.Nat.{zero-div}
use lib.Dec.{T, ltb, leb, eqb, eqb→eq}
use lib.ListN.{get_or-eq_default}
use borrow.Author.Tests.{ltb-true, ltb-false, le-ltb, leb-true, eqb-true, eq-eqb, le-leb, lt-ltb}
use Rattle.answer.specs.Least.{least}
use Rattle.answer.proofs.Least.{least_holds}
use Rattle.resource.proofs.Test.{below_or, both_left, both_right, wherever, met, below, every_below, Missed, key_or, no_key}
use Rattle.kinds.specs.Kinds.{kind, kinds, kind_at, family_in, mask_in, family, span, mask, takes, takes_block, blank_at, must_name}
use Rattle.kinds.specs.Engine.{sought, kind_of, tell_tale, alike}
use Rattle.kinds.proofs.Tests.{holds, is_true, both, either, by_test, not_both}

-- ---- what lies past the table is no kind
pub mask_past : (c : ℕ) → 36 ≤ c → mask c ≡ 0
unfolding mask kind_at
mask_past c h = ap mask_in (get_or-eq_default kinds (kind 0 0 0) {n = c} (unfold kinds in h))

pub family_past : (c : ℕ) → 36 ≤ c → family c ≡ 0
unfolding family kind_at
family_past c h = ap family_in (get_or-eq_default kinds (kind 0 0 0) {n = c} (unfold kinds in h))

-- what a `match` on all the kinds leaves over
abbrev all_kinds : List (List ℕ)
all_kinds =
    (35 ∷ []) ∷ (34 ∷ []) ∷ (33 ∷ []) ∷ (32 ∷ []) ∷ (31 ∷ []) ∷ (30 ∷ []) ∷ (29 ∷ []) ∷ (28 ∷ []) ∷ (27 ∷ []) ∷ (26 ∷ []) ∷ (25 ∷ []) ∷ (24 ∷
    []) ∷ (23 ∷ []) ∷ (22 ∷ []) ∷ (21 ∷ []) ∷ (20 ∷ []) ∷ (19 ∷ []) ∷ (18 ∷ []) ∷ (17 ∷ []) ∷ (16 ∷ []) ∷ (15 ∷ []) ∷ (14 ∷ []) ∷ (13 ∷ []) ∷
    (12 ∷ []) ∷ (11 ∷ []) ∷ (10 ∷ []) ∷ (9 ∷ []) ∷ (8 ∷ []) ∷ (7 ∷ []) ∷ (6 ∷ []) ∷ (5 ∷ []) ∷ (4 ∷ []) ∷ (3 ∷ []) ∷ (2 ∷ []) ∷ (1 ∷ []) ∷ (0 ∷
    []) ∷ []

pub left_over : (v : ℕ) → Missed all_kinds v → 36 ≤ v
left_over v m =
    ⊎_elim (λ h. leb-true 36 v (is_true _ (no_key (leb 36) all_kinds v (every_below (key_or (leb 36) all_kinds) 36 tt v h) m))) (λ h. h) (below_or v 36)

pub takes_known : (c j : ℕ) → takes c j ≡ true → c < 36
unfolding takes
takes_known c j e = ⊎_elim (λ h. h) (λ (h : 36 ≤ c). absurd (no_bit (ap (λ (m : ℕ). m / 2 ^ j % 2) (mask_past c h)))) (below_or c 36)
  where
    no_bit : mask c / 2 ^ j % 2 ≡ 0 / 2 ^ j % 2 → ⊥
    no_bit f =
        let y : 0 / 2 ^ j % 2 ≡ 0 = ap (λ (m : ℕ). m % 2) (zero-div (2 ^ j)) in
        let z : ◌≡◌ {A = ℕ} 1 0 = sym (eqb-true (mask c / 2 ^ j % 2) 1 e) ∙ f ∙ y in omega arith

-- ---- the rules
-- the spans of the first three are 1, 2 and 4, of the rest of 01's 4, of the wider ones 8 and 16
abbrev pub span_from : ℕ → ℕ
span_from c = cond (ltb c 2) (c + 1) (cond (ltb c 7) 4 (cond (ltb c 12) 8 16))

abbrev span_test : ℕ → Bool
span_test c = eqb (span c) (span_from c)

-- the first three need no name; the rest do, and are sought in their span
abbrev name_test : ℕ → Bool
name_test c = cond (must_name c) (leb 3 c && eqb (sought c) (span c)) (ltb c 3 && eqb (sought c) 0)

-- a family is from 8 up to 38; its first kind is the kind itself, or six lines before it; those of the first three follow one another,
-- those of the rest are higher
abbrev pub first_of : ℕ → ℕ
first_of c = cond (ltb c 30) c (c - 6)

abbrev family_test : ℕ → Bool
family_test c = eqb (kind_of (family c)) (first_of c) && (leb (cond (ltb c 3) 8 11) (family c) && ltb (family c) 38)

abbrev twins_test : ℕ → Bool
twins_test c = eqb (family (first_of c)) (family c) && eqb (sought (first_of c)) (sought c)

abbrev plain_test : ℕ → Bool
plain_test c = eqb (family c) (8 + c)

-- no family below 11 names
abbrev low_test : ℕ → Bool
low_test f = eqb (sought (kind_of f)) 0

-- the first three have every place, and hold 28, 29, 30 with no field
abbrev full_test : ℕ → ℕ → Bool
full_test c j = wherever (ltb j (span c)) (takes c j && eqb (blank_at c j) (28 + c))

-- no place lies past the span
abbrev inside_test : ℕ → ℕ → Bool
inside_test c j = wherever (takes c j) (ltb j (span c))

-- of 01's joined ones: a place that one lacks, the place beside it is its own
abbrev beside_test : ℕ → ℕ → Bool
beside_test c j = wherever (leb 3 c && not (takes c j)) (takes c (2 * (j / 2) + (1 - j % 2)))

-- two that are sought among the same positions have a place in common
abbrev common : ℕ → ℕ → ℕ → Bool
common c d r = takes c r && takes d r

abbrev meet_test : ℕ → ℕ → Bool
meet_test c d = wherever (leb 3 c && eqb (sought c) (sought d)) (ltb (least (common c d) (sought c)) (sought c))

-- a place that may hold 30 is in a segment, one that may hold 29 in a pair, wholly the resource's own
abbrev block_test : ℕ → ℕ → ℕ → ℕ → Bool
block_test n v c j = wherever (ltb j (span c) && eqb (blank_at c j) v) (leb n (span c) && below (λ i. takes c (n * (j / n) + i)) n)

-- the two of a family: each that has the telltale place may hold 30 there, the other has the pair beside it; they differ there
abbrev tell_test : ℕ → ℕ → Bool
tell_test c k =
    ltb (tell_tale k) 16
    && (wherever (takes c (tell_tale k)) (eqb (blank_at c (tell_tale k)) 30)
    && (wherever (not (takes c (tell_tale k))) (takes c (4 * (tell_tale k / 4) + (2 - tell_tale k % 4)))
    && eqb (cond (alike (takes c (tell_tale k)) (takes k (tell_tale k))) k (k + 6)) c))

-- one that must be named has a place in each half of its span
abbrev halves_test : ℕ → Bool
halves_test c =
    wherever (must_name c)
    (ltb (least (takes c) (span c / 2)) (span c / 2) && ltb (least (λ i. takes c (span c / 2 + i)) (span c / 2)) (span c / 2))

spans_tested : T (below span_test 36)
unfolding span kind_at kinds
spans_tested = tt

names_tested : T (below name_test 36)
unfolding sought must_name span mask kind_at kinds
names_tested = tt

families_tested : T (below family_test 36)
unfolding family kind_of least kind_at kinds
families_tested = tt

twins_tested : T (below twins_test 36)
unfolding sought must_name span mask family kind_at kinds
twins_tested = tt

plains_tested : T (below plain_test 3)
unfolding family kind_at kinds
plains_tested = tt

lows_tested : T (below low_test 11)
unfolding sought must_name span mask family kind_of least kind_at kinds
lows_tested = tt

fulls_tested : T (below (λ c. below (full_test c) 4) 3)
unfolding span mask takes takes_block blank_at kind_at kinds
fulls_tested = tt

insides_tested : T (below (λ c. below (inside_test c) 16) 36)
unfolding span mask takes kind_at kinds
insides_tested = tt

besides_tested : T (below (λ c. below (beside_test c) 4) 7)
unfolding mask takes kind_at kinds
besides_tested = tt

meets_tested : T (below (λ c. below (meet_test c) 36) 36)
unfolding sought must_name span mask takes least kind_at kinds
meets_tested = tt

segments_tested : T (below (λ c. below (block_test 4 30 c) 16) 36)
unfolding span mask takes takes_block blank_at kind_at kinds
segments_tested = tt

pairs_tested : T (below (λ c. below (block_test 2 29 c) 16) 36)
unfolding span mask takes takes_block blank_at kind_at kinds
pairs_tested = tt

tells_tested : T (below (λ c. wherever (leb 24 c) (tell_test c (first_of c))) 36)
unfolding tell_tale mask takes takes_block blank_at kind_at kinds
tells_tested = tt

halves_tested : T (below halves_test 36)
unfolding must_name span mask takes least kind_at kinds
halves_tested = tt

-- ---- the rules as facts
-- the spans of what is sought
abbrev pub Span : ℕ → Type 0
Span n = (n ≡ 4) ⊎ ((n ≡ 8) ⊎ (n ≡ 16))

abbrev pub Power : ℕ → Type 0
Power n = (n ≡ 1) ⊎ ((n ≡ 2) ⊎ Span n)

module _ (c : ℕ) (h : c < 36) where
  pub span_is : span c ≡ span_from c
  span_is = eqb→eq _ _ (every_below span_test 36 spans_tested c h)

  pub powers : Power (span c)
  powers = rw span_is (go (ltb c 2) (ltb c 7) (ltb c 12) refl)
    where
      go : (s t u : Bool) → ltb c 2 ≡ s → Power (cond s (c + 1) (cond t 4 (cond u 8 16)))
      go true t u e =
          let l = ltb-true c 2 e in
          ⊎_elim (λ (k : c < 1). inl (omega arith)) (λ (k : 1 ≤ c). inr (inl (omega arith))) (below_or c 1)
      go false true u e = inr (inr (inl refl))
      go false false true e = inr (inr (inr (inl refl)))
      go false false false e = inr (inr (inr (inr refl)))

  pub span_some : 0 < span c
  span_some = ⊎_elim (λ e. omega arith) (⊎_elim (λ e. omega arith) (⊎_elim (λ e. omega arith) (⊎_elim (λ e. omega arith) (λ e. omega arith)))) powers

  pub span_most : span c ≤ 16
  span_most = ⊎_elim (λ e. omega arith) (⊎_elim (λ e. omega arith) (⊎_elim (λ e. omega arith) (⊎_elim (λ e. omega arith) (λ e. omega arith)))) powers

  name_line : T (name_test c)
  name_line = every_below name_test 36 names_tested c h

  -- one that must be named is not one of the first three, and the other way round
  pub named_high : must_name c ≡ true → 3 ≤ c
  named_high e = go (must_name c) e name_line
    where
      go : (t : Bool) → t ≡ true → T (cond t (leb 3 c && eqb (sought c) (span c)) (ltb c 3 && eqb (sought c) 0)) → 3 ≤ c
      go true e u = leb-true _ _ (is_true _ (both_left (leb 3 c) _ u))
      go false e u = not_both false e refl

  pub nameless_low : must_name c ≡ false → c < 3
  nameless_low e = go (must_name c) e name_line
    where
      go : (t : Bool) → t ≡ false → T (cond t (leb 3 c && eqb (sought c) (span c)) (ltb c 3 && eqb (sought c) 0)) → c < 3
      go false e u = ltb-true _ _ (is_true _ (both_left (ltb c 3) _ u))
      go true e u = not_both true refl e

  pub high_named : 3 ≤ c → must_name c ≡ true
  high_named l = by_test (must_name c) (λ e. e) (λ e. absurd (let m = nameless_low e in omega arith))

  pub sought_high : 3 ≤ c → sought c ≡ span c
  sought_high l = go (must_name c) (high_named l) name_line
    where
      go : (t : Bool) → t ≡ true → T (cond t (leb 3 c && eqb (sought c) (span c)) (ltb c 3 && eqb (sought c) 0)) → sought c ≡ span c
      go true e u = eqb→eq _ _ (both_right (leb 3 c) _ u)
      go false e u = not_both false e refl

  pub sought_low : c < 3 → sought c ≡ 0
  sought_low l = go (must_name c) refl name_line
    where
      go : (t : Bool) → must_name c ≡ t → T (cond t (leb 3 c && eqb (sought c) (span c)) (ltb c 3 && eqb (sought c) 0)) → sought c ≡ 0
      go true e u = absurd (let m = named_high e in omega arith)
      go false e u = eqb→eq _ _ (both_right (ltb c 3) _ u)

  family_line : T (family_test c)
  family_line = every_below family_test 36 families_tested c h

  family_range : T (leb (cond (ltb c 3) 8 11) (family c) && ltb (family c) 38)
  family_range = both_right (eqb (kind_of (family c)) (first_of c)) _ family_line

  family_least : cond (ltb c 3) 8 11 ≤ family c
  family_least = leb-true _ _ (is_true _ (both_left (leb (cond (ltb c 3) 8 11) (family c)) _ family_range))

  pub family_first : kind_of (family c) ≡ first_of c
  family_first = eqb→eq _ _ (both_left (eqb (kind_of (family c)) (first_of c)) _ family_line)

  pub family_low : 8 ≤ family c
  family_low = go (ltb c 3) family_least
    where
      go : (t : Bool) → cond t 8 11 ≤ family c → 8 ≤ family c
      go true l = l
      go false l = omega arith

  pub family_high : 3 ≤ c → 11 ≤ family c
  family_high l = go (ltb c 3) refl family_least
    where
      go : (t : Bool) → ltb c 3 ≡ t → cond t 8 11 ≤ family c → 11 ≤ family c
      go true e m = absurd (let k = ltb-true c 3 e in omega arith)
      go false e m = m

  pub family_most : family c < 38
  family_most = ltb-true _ _ (is_true _ (both_right (leb (cond (ltb c 3) 8 11) (family c)) _ family_range))

  -- the first kind of its family has the family, and is sought as it is
  pub first_family : family (first_of c) ≡ family c
  first_family = eqb→eq _ _ (both_left (eqb (family (first_of c)) (family c)) _ (every_below twins_test 36 twins_tested c h))

  pub first_sought : sought (first_of c) ≡ sought c
  first_sought = eqb→eq _ _ (both_right (eqb (family (first_of c)) (family c)) _ (every_below twins_test 36 twins_tested c h))

  pub family_sought : sought (kind_of (family c)) ≡ sought c
  family_sought = ap sought family_first ∙ first_sought

  pub place_inside : (j : ℕ) → j < 16 → takes c j ≡ true → j < span c
  place_inside j l e =
      ltb-true _ _ (is_true _ (met (takes c j) _ (every_below (inside_test c) 16 (every_below (λ c. below (inside_test c) 16) 36 insides_tested c h) j l)
      (holds _ e)))

  block_own : (n v : ℕ) → T (below (λ c. below (block_test n v c) 16) 36) → (j i : ℕ) → j < 16 → j < span c → blank_at c j ≡ v → i < n
      → (n ≤ span c) × (takes c (n * (j / n) + i) ≡ true)
  block_own n v tested j i l m e k =
      let t = met (ltb j (span c) && eqb (blank_at c j) v) (leb n (span c) && below (λ i. takes c (n * (j / n) + i)) n)
      (every_below (block_test n v c) 16 (every_below (λ c. below (block_test n v c) 16) 36 tested c h) j l)
      (both (ltb j (span c)) (eqb (blank_at c j) v) (holds _ (lt-ltb j (span c) m)) (holds _ (eq-eqb (blank_at c j) v e))) in (
        leb-true n (span c) (is_true _ (both_left (leb n (span c)) _ t)),
        is_true _ (every_below (λ i. takes c (n * (j / n) + i)) n (both_right (leb n (span c)) _ t) i k),
      )

  -- a place that may hold 30 has its segment, one that may hold 29 its pair
  pub whole_segment : (j i : ℕ) → j < 16 → j < span c → blank_at c j ≡ 30 → i < 4 → (4 ≤ span c) × (takes c (4 * (j / 4) + i) ≡ true)
  whole_segment = block_own 4 30 segments_tested

  pub whole_pair : (j i : ℕ) → j < 16 → j < span c → blank_at c j ≡ 29 → i < 2 → (2 ≤ span c) × (takes c (2 * (j / 2) + i) ≡ true)
  whole_pair = block_own 2 29 pairs_tested

  -- ---- a place in each half
  halves_line : must_name c ≡ true
      → T (ltb (least (takes c) (span c / 2)) (span c / 2) && ltb (least (λ i. takes c (span c / 2 + i)) (span c / 2)) (span c / 2))
  halves_line m = met (must_name c) _ (every_below halves_test 36 halves_tested c h) (holds _ m)

  pub lower_place : must_name c ≡ true → (r : ℕ) × (r < span c / 2) × (takes c r ≡ true)
  lower_place m =
      let l : least (takes c) (span c / 2) < span c / 2 =
      ltb-true _ _ (is_true _ (both_left (ltb (least (takes c) (span c / 2)) (span c / 2)) _ (halves_line m))) in
      (least (takes c) (span c / 2), l, least_holds (takes c) (span c / 2) l)

  pub upper_place : must_name c ≡ true → (r : ℕ) × (r < span c / 2) × (takes c (span c / 2 + r) ≡ true)
  upper_place m =
      let u = both_right (ltb (least (takes c) (span c / 2)) (span c / 2)) _ (halves_line m) in
      let l : least (λ i. takes c (span c / 2 + i)) (span c / 2) < span c / 2 = ltb-true _ _ (is_true _ u) in
      (least (λ i. takes c (span c / 2 + i)) (span c / 2), l, least_holds (λ i. takes c (span c / 2 + i)) (span c / 2) l)

-- no family below 11 names
pub low_nameless : (f : ℕ) → f < 11 → sought (kind_of f) ≡ 0
low_nameless f h = eqb→eq _ _ (every_below low_test 11 lows_tested f h)

-- two that are sought among the same positions have a place in common
pub meets : (c d : ℕ) → c < 36 → d < 36 → 3 ≤ c → sought c ≡ sought d → (r : ℕ) × (r < sought c) × (takes c r ≡ true) × (takes d r ≡ true)
meets c d h i l e =
    let u = met (leb 3 c && eqb (sought c) (sought d)) _ (every_below (meet_test c) 36 (every_below (λ c. below (meet_test c) 36) 36 meets_tested c h) d i)
    (both (leb 3 c) (eqb (sought c) (sought d)) (holds _ (le-leb 3 c l)) (holds _ (eq-eqb _ _ e))) in
    let k : least (common c d) (sought c) < sought c = ltb-true _ _ (is_true _ u) in
    let t = holds _ (least_holds (common c d) (sought c) k) in
    let r = least (common c d) (sought c) in
    (r, k, is_true _ (both_left (takes c r) (takes d r) t), is_true _ (both_right (takes c r) (takes d r) t))

-- ---- those that no segment is too narrow for
module _ (c : ℕ) (h : c < 7) where
  narrow_known : c < 36
  narrow_known = omega arith

  pub narrow_first : first_of c ≡ c
  narrow_first = rw (lt-ltb c 30 (omega arith))

  pub family_back : kind_of (family c) ≡ c
  family_back = family_first c narrow_known ∙ narrow_first

  pub narrow_span : span c ≤ 4
  narrow_span = rw (span_is c narrow_known) (go (ltb c 2) refl)
    where
      go : (t : Bool) → ltb c 2 ≡ t → cond t (c + 1) (cond (ltb c 7) 4 (cond (ltb c 12) 8 16)) ≤ 4
      go true e = let l = ltb-true c 2 e in omega arith
      go false e = rw (lt-ltb c 7 h) (omega arith)

  pub spans : (span c ≡ 1) ⊎ ((span c ≡ 2) ⊎ (span c ≡ 4))
  spans =
      ⊎_elim inl (λ x. inr (⊎_elim inl
      (λ y. inr (⊎_elim (λ e. e) (⊎_elim (λ e. absurd (omega (arith, narrow_span))) (λ e. absurd (omega (arith, narrow_span)))) y)) x))
      (powers c narrow_known)

  pub span_four : 2 ≤ c → span c ≡ 4
  span_four l = span_is c narrow_known ∙ rw (le-ltb c 2 l, lt-ltb c 7 h)

  -- a joined one that lacks a place has the place beside it
  pub beside : (j : ℕ) → 3 ≤ c → j < 4 → takes c j ≡ false → takes c (2 * (j / 2) + (1 - j % 2)) ≡ true
  beside j l m e =
      is_true _ (met (leb 3 c && not (takes c j)) _ (every_below (beside_test c) 4 (every_below (λ c. below (beside_test c) 4) 7 besides_tested c h) j m)
      (both (leb 3 c) (not (takes c j)) (holds _ (le-leb 3 c l)) (rw e tt)))

-- a family of theirs is one kind's
pub one_kind : (c d : ℕ) → c < 36 → d < 7 → family c ≡ family d → c ≡ d
one_kind c d h i e = go (ltb c 30) refl (sym (family_first c h) ∙ ap kind_of e ∙ family_back d i)
  where
    go : (t : Bool) → ltb c 30 ≡ t → cond t c (c - 6) ≡ d → c ≡ d
    go true f g = g
    go false f g = absurd (let l = ltb-false c 30 f in omega arith)

-- ---- the wider ones
pub wide_span : (c : ℕ) → c < 36 → 7 ≤ c → (span c ≡ 8) ⊎ (span c ≡ 16)
wide_span c h l = rw (span_is c h) (rw (le-ltb c 2 (omega arith), le-ltb c 7 l) (go (ltb c 12)))
  where
    go : (t : Bool) → (◌≡◌ {A = ℕ} (cond t 8 16) 8) ⊎ (◌≡◌ {A = ℕ} (cond t 8 16) 16)
    go true = inl refl
    go false = inr refl

abbrev wide_test : ℕ → Bool
wide_test c = wherever (leb 7 c) (eqb (family c) 11 || leb 16 (family c))

wides_tested : T (below wide_test 36)
unfolding family kind_at kinds
wides_tested = tt

pub wide_family : (c : ℕ) → c < 36 → 7 ≤ c → (family c ≡ 11) ⊎ (16 ≤ family c)
wide_family c h l =
    ⊎_elim (λ t. inl (eqb→eq _ _ t)) (λ t. inr (leb-true _ _ (is_true _ t)))
    (either (eqb (family c) 11) (leb 16 (family c)) (met (leb 7 c) _ (every_below wide_test 36 wides_tested c h) (holds _ (le-leb 7 c l))))

pub widest : (c : ℕ) → c < 36 → 12 ≤ c → span c ≡ 16
widest c h l = span_is c h ∙ rw (le-ltb c 2 (omega arith), le-ltb c 7 (omega arith), le-ltb c 12 l)

-- ---- the 2x996+484: c and the first k of its family
pub record Twin (c k : ℕ) : Type 0 where
  pub low : tell_tale k < 16
  pub whole : takes c (tell_tale k) ≡ true → blank_at c (tell_tale k) ≡ 30
  pub other : takes c (tell_tale k) ≡ false → takes c (4 * (tell_tale k / 4) + (2 - tell_tale k % 4)) ≡ true
  pub apart : cond (alike (takes c (tell_tale k)) (takes k (tell_tale k))) k (k + 6) ≡ c

pub twin : (c : ℕ) → c < 36 → 24 ≤ c → Twin c (first_of c)
twin c h l = go (first_of c) (met (leb 24 c) _ (every_below (λ c. wherever (leb 24 c) (tell_test c (first_of c))) 36 tells_tested c h)
    (holds _ (le-leb 24 c l)))
  where
    go : (k : ℕ) → T (tell_test c k) → Twin c k
    go k t =
        let t1 = both_right (ltb (tell_tale k) 16) _ t in
        let t2 = both_right (wherever (takes c (tell_tale k)) (eqb (blank_at c (tell_tale k)) 30)) _ t1 in
        record {
          low = ltb-true _ _ (is_true _ (both_left (ltb (tell_tale k) 16) _ t));
          whole = λ e. eqb→eq _ _ (met (takes c (tell_tale k)) _ (both_left (wherever (takes c (tell_tale k)) (eqb (blank_at c (tell_tale k)) 30)) _ t1)
              (holds _ e));
          other = λ e. is_true _ (met (not (takes c (tell_tale k))) _
              (both_left (wherever (not (takes c (tell_tale k))) (takes c (4 * (tell_tale k / 4) + (2 - tell_tale k % 4)))) _ t2) (rw e tt));
          apart = eqb→eq _ _ (both_right (wherever (not (takes c (tell_tale k))) (takes c (4 * (tell_tale k / 4) + (2 - tell_tale k % 4)))) _ t2);
        }

-- ---- the first three: their values tell them apart
module _ (c : ℕ) (h : c < 3) where
  plain_line : (j : ℕ) → j < 4 → j < span c → T (takes c j && eqb (blank_at c j) (28 + c))
  plain_line j l m =
      met (ltb j (span c)) _ (every_below (full_test c) 4 (every_below (λ c. below (full_test c) 4) 3 fulls_tested c h) j l) (holds _ (lt-ltb j (span c) m))

  pub plain_family : family c ≡ 8 + c
  plain_family = eqb→eq _ _ (every_below plain_test 3 plains_tested c h)

  pub full : (j : ℕ) → j < span c → takes c j ≡ true
  full j l = let m = narrow_span c (omega arith) in is_true _ (both_left (takes c j) _ (plain_line j (omega arith) l))

  pub plain_blank : (j : ℕ) → j < span c → blank_at c j ≡ 28 + c
  plain_blank j l = let m = narrow_span c (omega arith) in eqb→eq _ _ (both_right (takes c j) _ (plain_line j (omega arith) l))

pub span_0 : span 0 ≡ 1
unfolding span kind_at kinds
span_0 = refl

pub span_1 : span 1 ≡ 2
unfolding span kind_at kinds
span_1 = refl

pub span_2 : span 2 ≡ 4
unfolding span kind_at kinds
span_2 = refl
