-- What a segment says by itself gives each position to a kind that the segment can hold and the position is a place of; and a plan that signals
-- a row, where it gives a position to such a kind, gives it to what the segment says.
use mathlib.Core.Path.{◌≡◌, refl, sym, ◌∙◌, ap, subst}
use mathlib.Core.Logic.{◌≢◌, ◌⊎◌, inl, inr, ⊎_elim}
use mathlib.Core.Bool.{true, false}
use mathlib.Core.List.{List}
use Prim.Native.Nat.{ℕ, ◌+◌, ◌-◌, ◌*◌, ◌/◌, ◌%◌, ◌≤◌, ◌<◌, min}
use native.Mathlib.Omega.{arith}
use lib.ListN.{length, get_or-eq_default}
use Rattle.answer.specs.Lists.{at}
use Rattle.resource.proofs.Test.{below_or}
use Rattle.kinds.specs.Kinds.{family, span, takes, blank_at}
use Rattle.kinds.specs.Signals.{Place, Fits, own, blank, smaller, Signals}
use Rattle.kinds.specs.Engine.{sought}
use Rattle.kinds.proofs.Tests.{not_both, equal_or}
use Rattle.kinds.proofs.Table.{Span, Power, powers, span_1, span_2, high_named, sought_high, family_low, family_high, span_four, beside, meets, one_kind}
use Rattle.kinds.proofs.Table.{span_some, narrow_span, wide_span, lower_place, upper_place, whole_segment, whole_pair, plain_family, full}
use Rattle.kinds.proofs.Places.{at as place_of, at_span, at_place, place_mod, place_low}
use Rattle.kinds.proofs.Fitting.{known, fits_takes, high_own, names_fits, smaller_view, leaf}
use Rattle.segments.specs.Engine.{segment_plan}
use Rattle.segments.proofs.Named.{four_least, Names, narrow_named, NoneAt, First, first_view}
use Rattle.segments.proofs.Chosen.{Told, leaf_told, leaf_is, left, joined, whole, half, alone, named_by, Given, given}

-- ---- the kinds are those of a segment, and have the position
-- one of the first three has every place, the rest those of a segment's four
plain_takes : (c p : ℕ) → c < 3 → takes c (p % span c) ≡ true
plain_takes c p h = full c h (p % span c) (place_mod c p (omega arith))

module _ (row : ℕ → ℕ) (p : ℕ) where
  pub segment_first : First 4 row (4 * (p / 4)) 4 (named_by row p)
  segment_first = first_view 4 (omega arith) row (4 * (p / 4)) 4

  -- what is named is one of 01's joined ones
  pub named_joined : named_by row p < 36 → (3 ≤ named_by row p) × (named_by row p < 7)
  named_joined h =
      ⊎_elim (λ f. absurd (omega (arith, f.0))) (λ f. (f.1.1.2.1, narrow_named (row f.1.0) (named_by row p) f.1.1.2)) segment_first

  has_place : (x : ℕ) → Given row p p x → (x < 7) × (takes x (p % span x) ≡ true)
  has_place x (left k t) = (omega arith, plain_takes 0 p (omega arith))
  has_place x (joined k t) = let j = named_joined k in (j.1, rw (span_four x j.1 (omega arith)) t)
  has_place x (whole k t) = (omega arith, plain_takes 2 p (omega arith))
  has_place x (half k n t) = (omega arith, plain_takes 1 p (omega arith))
  has_place x (alone k n t) = (omega arith, plain_takes 0 p (omega arith))

  pub segment_known : segment_plan row p < 7
  segment_known = (has_place (segment_plan row p) (given row p)).0

  pub segment_takes : takes (segment_plan row p) (p % span (segment_plan row p)) ≡ true
  segment_takes = (has_place (segment_plan row p) (given row p)).1

  -- where it is a joined one, a position of the segment names it
  pub segment_named : 3 ≤ segment_plan row p → (q : ℕ) × (q / 4 ≡ p / 4) × (row q / 8 ≡ family (segment_plan row p))
  segment_named = go (segment_plan row p) (given row p)
    where
      go : (x : ℕ) → Given row p p x → 3 ≤ x → (q : ℕ) × (q / 4 ≡ p / 4) × (row q / 8 ≡ family x)
      go x (joined k t) h =
          ⊎_elim (λ f. absurd (omega (arith, f.0))) (λ f. (f.1.0, omega (arith, f.1.1.0, f.1.1.1), f.1.1.2.3)) segment_first
      go x (left k t) h = absurd (omega arith)
      go x (whole k t) h = absurd (omega arith)
      go x (half k n t) h = absurd (omega arith)
      go x (alone k n t) h = absurd (omega arith)

-- ---- a pair's 29 and a segment's 30
-- the aligned block of n around a position lies in the span around it
block_place : (n s t p : ℕ) → (n ≡ 2) ⊎ (n ≡ 4) → Power s → n ≤ s → p / n ≡ t / n → (p / s ≡ t / s) × (p % s ≡ n * (t % s / n) + p % n)
block_place n s t p (inl a) (inl b) l e = absurd (omega arith)
block_place n s t p (inl a) (inr (inl b)) l e = let f = rw a at e in rw (a, b) (f, omega arith)
block_place n s t p (inl a) (inr (inr (inl b))) l e = let f = rw a at e in rw (a, b) (omega arith, omega arith)
block_place n s t p (inl a) (inr (inr (inr (inl b)))) l e = let f = rw a at e in rw (a, b) (omega arith, omega arith)
block_place n s t p (inl a) (inr (inr (inr (inr b)))) l e = let f = rw a at e in rw (a, b) (omega arith, omega arith)
block_place n s t p (inr a) (inl b) l e = absurd (omega arith)
block_place n s t p (inr a) (inr (inl b)) l e = absurd (omega arith)
block_place n s t p (inr a) (inr (inr (inl b))) l e = let f = rw a at e in rw (a, b) (f, omega arith)
block_place n s t p (inr a) (inr (inr (inr (inl b)))) l e = let f = rw a at e in rw (a, b) (omega arith, omega arith)
block_place n s t p (inr a) (inr (inr (inr (inr b)))) l e = let f = rw a at e in rw (a, b) (omega arith, omega arith)

-- whatever kind has a place with a value that tells a 484 (d is 1) or a 996 (d is 2), has the pair or the segment around it
module _ (d c t p v : ℕ) (h : d < 3) (z : d ≢ 0) (f : Fits c t v) (e : p / span d ≡ t / span d) where
  c_known : c < 36
  c_known = known c t v f

  j_low : t % span c < 16
  j_low = place_low c t c_known

  j_mod : t % span c < span c
  j_mod = place_mod c t c_known

  block : (n : ℕ) → (n ≡ 2) ⊎ (n ≡ 4) → span d ≡ n → (n ≤ span c) × (takes c (n * (t % span c / n) + p % n) ≡ true) → Place c t p
  block n o g w =
      let b = block_place n (span c) t p o (powers c c_known) w.0 (rw g at e) in (b.0, rw b.1 w.1)

  by_blank : blank_at c (t % span c) ≡ 28 + d → Place c t p
  by_blank b =
      ⊎_elim
      (λ (g : d ≡ 1). block 2 (inl refl) (rw g span_1) (whole_pair c c_known (t % span c) (p % 2) j_low j_mod (omega arith) (omega arith)))
      (λ (g : d ≢ 1).
      let k : d ≡ 2 = omega arith in
      block 4 (inr refl) (rw k span_2) (whole_segment c c_known (t % span c) (p % 4) j_low j_mod (omega arith) (omega arith)))
      (equal_or d 1)

  pub told_place : Told d v → Place c t p
  told_place (inr g) =
      let w = high_own c t v f (omega arith) in
      let k : c ≡ d = one_kind c d c_known (omega arith) (sym w.1 ∙ g ∙ sym (plain_family d h)) in
      rw k (e, plain_takes d p h)
  told_place (inl g) = go f
    where
      go : Fits c t v → Place c t p
      go (own x y) = absurd (let l = family_low c c_known in omega arith)
      go (blank x y) = by_blank (sym y ∙ g)
      go (smaller x) = absurd (⊎_elim (λ y. omega arith) (⊎_elim (λ y. omega arith) (λ y. omega arith)) (smaller_view (t % 4) v x.1))

-- the other position of a pair, by its place in the segment
next_door : (p : ℕ) → (2 * (p / 2) + (1 - p % 2)) % 4 ≡ 2 * (p % 4 / 2) + (1 - p % 4 % 2)
next_door p =
    let e : p / 2 ≡ 2 * (p / 4) + p % 4 / 2 = omega arith in
    let f : p % 2 ≡ p % 4 % 2 = omega arith in
    let g : p % 4 / 2 ≤ 1 = omega arith in
    rw (e, f) (small (p / 4) (p % 4 / 2) (1 - p % 4 % 2) g (omega arith))
  where
    small : (q a b : ℕ) → a ≤ 1 → b ≤ 1 → (2 * (2 * q + a) + b) % 4 ≡ 2 * a + b
    small q a b l m = omega arith

-- ---- a part of a row
-- what a row is like outside the positions from a up to b: they begin with a segment, and what the last segment lacks holds 0
pub record Ends (row : ℕ → ℕ) (a b : ℕ) : Type 0 where
  pub aligned : a % 4 ≡ 0
  pub padded : (q : ℕ) → b ≤ q → q < 4 * ((b + 3) / 4) → row q ≡ 0

pub row_ends : (row : List ℕ) → Ends (at row) 0 (length row)
row_ends row = record { aligned = refl; padded = λ q h u. get_or-eq_default row 0 h }

-- an aligned group of 4, 8 or 16 positions, as far as the row goes: it ends with a segment or with the row
pub part_cut : (row : List ℕ) (n k : ℕ) → Span n → (min (n * k + n) (length row) % 4 ≡ 0) ⊎ (min (n * k + n) (length row) ≡ length row)
part_cut row n k h = ⊎_elim (λ l. inl (go h l)) (λ l. inr (omega arith)) (below_or (n * k + n) (length row))
  where
    go : Span n → n * k + n < length row → min (n * k + n) (length row) % 4 ≡ 0
    go (inl e) l = let g = ap (λ (z : ℕ). z * k) e in omega arith
    go (inr (inl e)) l = let g = ap (λ (z : ℕ). z * k) e in omega arith
    go (inr (inr e)) l = let g = ap (λ (z : ℕ). z * k) e in omega arith

pub part_ends : (row : List ℕ) (n k : ℕ) → Span n → Ends (at row) (n * k) (min (n * k + n) (length row))
part_ends row n k h = record { aligned = go h; padded = λ q l u. get_or-eq_default row 0 (past q l u) }
  where
    go : Span n → n * k % 4 ≡ 0
    go (inl e) = let g = ap (λ (z : ℕ). z * k) e in omega arith
    go (inr (inl e)) = let g = ap (λ (z : ℕ). z * k) e in omega arith
    go (inr (inr e)) = let g = ap (λ (z : ℕ). z * k) e in omega arith

    past : (q : ℕ) → min (n * k + n) (length row) ≤ q → q < 4 * ((min (n * k + n) (length row) + 3) / 4) → length row ≤ q
    past q l u = ⊎_elim (λ e. omega arith) (λ e. omega arith) (part_cut row n k h)

-- ---- nothing is wider than the part
-- a position of the lower half of a span and one of the upper half do not lie in one narrower group
apart : (n k s m x y : ℕ) → Span n → (s ≡ 8) ⊎ (s ≡ 16) → n < s → x < s * m + s / 2 → s * m + s / 2 ≤ y → n * k ≤ x → y < n * k + n → ⊥
apart n k s m x y (inl e) (inl f) h lx ly i j = let g = ap (λ (z : ℕ). z * k) e in let w = ap (λ (z : ℕ). z * m + z / 2) f in omega arith
apart n k s m x y (inl e) (inr f) h lx ly i j = let g = ap (λ (z : ℕ). z * k) e in let w = ap (λ (z : ℕ). z * m + z / 2) f in omega arith
apart n k s m x y (inr (inl e)) (inl f) h lx ly i j = omega arith
apart n k s m x y (inr (inl e)) (inr f) h lx ly i j = let g = ap (λ (z : ℕ). z * k) e in let w = ap (λ (z : ℕ). z * m + z / 2) f in omega arith
apart n k s m x y (inr (inr e)) (inl f) h lx ly i j = omega arith
apart n k s m x y (inr (inr e)) (inr f) h lx ly i j = omega arith

module _ (o row : ℕ → ℕ) (a b : ℕ) (s : Signals o row a b) where
  place_there : (p r : ℕ) → a ≤ p → p < b → r < span (o p) → takes (o p) r ≡ true → (a ≤ place_of (span (o p)) p r) × (place_of (span (o p)) p r < b)
  place_there p r l u h t =
      let z = span_some (o p) (known (o p) p (row p) (s.fits p l u)) in
      let w = s.entire p (place_of (span (o p)) p r) l u (at_span (span (o p)) z p r h, rw (at_place (span (o p)) z p r h) t) in (w.0, w.1)

  -- of a part that lies in an aligned group of 4, 8 or 16 positions no resource is wider than the group
  pub span_inside : (n k : ℕ) → Span n → n * k ≤ a → b ≤ n * k + n → (p : ℕ) → a ≤ p → p < b → span (o p) ≤ n
  span_inside n k h la lb p l u = ⊎_elim (λ w. absurd (wider w)) (λ w. w) (below_or n (span (o p)))
    where
      c_known : o p < 36
      c_known = known (o p) p (row p) (s.fits p l u)

      wider : n < span (o p) → ⊥
      wider w =
          ⊎_elim (λ (c : o p < 7). let m = narrow_span (o p) c in let g = four_least n h in omega arith)
          (λ (c : 7 ≤ o p).
          let name = high_named (o p) c_known (omega arith) in
          let x = lower_place (o p) c_known name in
          let y = upper_place (o p) c_known name in
          let i = place_there p x.0 l u (omega (arith, x.1)) x.2 in
          let j = place_there p (span (o p) / 2 + y.0) l u (omega (arith, y.1)) y.2 in
          apart n k (span (o p)) (p / span (o p)) (place_of (span (o p)) p x.0) (place_of (span (o p)) p (span (o p) / 2 + y.0)) h
          (wide_span (o p) c_known c) w (omega (arith, x.1)) (omega arith) (omega (arith, i.0)) (omega (arith, j.1)))
          (below_or (o p) 7)

  -- so in a segment each position is given to a kind that the segment can hold
  pub segment_narrow : (k : ℕ) → 4 * k ≤ a → b ≤ 4 * k + 4 → (p : ℕ) → a ≤ p → p < b → o p < 7
  segment_narrow k la lb p l u =
      let m = span_inside 4 k (inl refl) la lb p l u in
      ⊎_elim (λ c. c)
      (λ c. absurd (⊎_elim (λ e. omega arith) (λ e. omega arith) (wide_span (o p) (known (o p) p (row p) (s.fits p l u)) c)))
      (below_or (o p) 7)

-- ---- a plan that signals the part
module _ (o row : ℕ → ℕ) (a b : ℕ) (ends : Ends row a b) (s : Signals o row a b) where
  inside : (p q c : ℕ) → a ≤ p → p < b → q / 4 ≡ p / 4 → Names 4 (row q) c → (a ≤ q) × (q < b)
  inside p q c l u e n =
      ⊎_elim
      (λ h. (omega (arith, ends.aligned), h))
      (λ (h : b ≤ q). let z : row q ≡ 0 = ends.padded q h (omega arith) in let m = family_high c n.0 n.1 in absurd (omega (arith, n.3)))
      (below_or q b)

  entire_at : (x p q : ℕ) → a ≤ p → p < b → o p ≡ x → Place x p q → (a ≤ q) × (q < b) × (o q ≡ x)
  entire_at x p q l u e pl =
      let r = s.entire p q l u (subst (λ (y : ℕ). Place y p q) (sym e) pl) in (r.0, r.1, r.2 ∙ e)

  fits_at : (x p : ℕ) → a ≤ p → p < b → o p ≡ x → Fits x p (row p)
  fits_at x p l u e = subst (λ (y : ℕ). Fits y p (row p)) e (s.fits p l u)

  -- the places of a joined one, and of one of the first three
  joined_place : (c p q : ℕ) → c < 7 → 3 ≤ c → q / 4 ≡ p / 4 → takes c (q % 4) ≡ true → Place c p q
  joined_place c p q h l e t = rw (span_four c h (omega arith)) (e, t)

  plain_place : (c p q : ℕ) → c < 3 → q / span c ≡ p / span c → Place c p q
  plain_place c p q h f = (f, plain_takes c q h)

  -- position p is given to a kind that its segment can hold
  module _ (p : ℕ) (l : a ≤ p) (u : p < b) (narrow : o p < 7) where
    abbrev b₄ : ℕ
    b₄ = 4 * (p / 4)

    abbrev b₂ : ℕ
    b₂ = 2 * (p / 2)

    -- ---- where position q names the kind k
    module _ (k q : ℕ) (e : q / 4 ≡ p / 4) (n : Names 4 (row q) k) where
      k_narrow : k < 7
      k_narrow = narrow_named (row q) k n

      i : (a ≤ q) × (q < b)
      i = inside p q k l u e n

      here : o q ≡ k
      here = names_fits k (o q) q (row q) k_narrow n.1 n.3 (s.fits q i.0 i.1)

      there : (m : ℕ) → m / 4 ≡ p / 4 → takes k (m % 4) ≡ true → o m ≡ k
      there m f t = (entire_at k q m i.0 i.1 here (joined_place k q m k_narrow n.1 (f ∙ sym e) t)).2

      -- a position that it leaves out is given to itself
      left_out : takes k (p % 4) ≡ false → o p ≡ 0
      left_out t = ⊎_elim small large (below_or (o p) 3)
        where
          large : 3 ≤ o p → o p ≡ 0
          large m =
              let y4 : sought (o p) ≡ 4 = sought_high (o p) (omega arith) m ∙ span_four (o p) narrow (omega arith) in
              let r = meets (o p) k (omega arith) n.0 m (y4 ∙ sym n.2) in
              let z = b₄ + r.0 in
              let rr : r.0 < 4 = omega (arith, r.1) in
              let d : z % 4 ≡ r.0 = omega arith in
              let x = (entire_at (o p) p z l u refl (joined_place (o p) p z narrow m (omega arith) (rw d r.2))).2 in
              let y = there z (omega arith) (rw d r.3) in
              let g : o p ≡ k = sym x ∙ y in
              let v : takes (o p) (p % 4) ≡ true = rw (span_four (o p) narrow (omega arith)) at (fits_takes (o p) p (row p) (s.fits p l u)) in
              not_both (takes k (p % 4)) (rw g at v) t

          small : o p < 3 → o p ≡ 0
          small m = ⊎_elim (λ f. f) (λ f. ⊎_elim one (λ g. two (omega arith)) (equal_or (o p) 1)) (equal_or (o p) 0)
            where
              one : o p ≡ 1 → o p ≡ 0
              one f =
                  let z = b₂ + (1 - p % 2) in
                  let x = (entire_at 1 p z l u f (plain_place 1 p z (omega arith) (rw span_1 (omega arith)))).2 in
                  let d : z % 4 ≡ 2 * (p % 4 / 2) + (1 - p % 4 % 2) = next_door p in
                  let y = there z (omega arith) (rw d (beside k k_narrow (p % 4) n.1 (omega arith) t)) in
                  absurd (omega (arith, n.1))

              two : o p ≡ 2 → o p ≡ 0
              two f =
                  let x = (entire_at 2 p q l u f (plain_place 2 p q (omega arith) (rw span_2 e))).2 in
                  absurd (omega (arith, here, n.1))

    -- ---- where no position of the segment names one
    module _ (none : NoneAt 4 row b₄ 4) where
      plain : (q : ℕ) → a ≤ q → q < b → q / 4 ≡ p / 4 → o q < 7 → o q < 3
      plain q lq uq e k = ⊎_elim (λ h. h) (λ h. absurd (named_here h)) (below_or (o q) 3)
        where
          named_here : 3 ≤ o q → ⊥
          named_here h =
              let four = span_four (o q) k (omega arith) in
              let w = s.named q lq uq (high_named (o q) (omega arith) h) in
              let f : w.0 / 4 ≡ q / 4 = rw four at w.1.0 in
              none w.0 (omega arith) (omega arith) (o q) (omega arith, h, sought_high (o q) (omega arith) h ∙ four, w.2)

      -- where position t of the segment tells one of the first three, those in its span are given to it
      told_here : (d t : ℕ) → d < 3 → d ≢ 0 → a ≤ t → t < b → t / 4 ≡ p / 4 → p / span d ≡ t / span d → Told d (row t) → o p ≡ d
      told_here d t h n lt ut e f g =
          let x : o p ≡ o t = (s.entire t p lt ut (told_place d (o t) t p (row t) h n (s.fits t lt ut) f g)).2 in
          let k = plain t lt ut e (omega arith) in
          x ∙ leaf_is (o t) d (row t) k h (leaf (o t) t (row t) k (s.fits t lt ut)) g

      tells_here : (d t : ℕ) → d < 3 → d ≢ 0 → t / span d ≡ p / span d → o p ≡ d → Told d (row t)
      tells_here d t h n f e =
          let r = entire_at d p t l u e (plain_place d p t h f) in
          leaf_told d (row t) h n (leaf d t (row t) h (fits_at d t r.0 r.1 r.2))

      whole_here : Told 2 (row b₄) → o p ≡ 2
      whole_here =
          told_here 2 b₄ (omega arith) (λ e. omega arith) (omega (arith, ends.aligned)) (omega arith) (omega arith) (rw span_2 (omega arith))

      half_here : Told 1 (row b₂) → o p ≡ 1
      half_here =
          told_here 1 b₂ (omega arith) (λ e. omega arith) (omega (arith, ends.aligned)) (omega arith) (omega arith) (rw span_1 (omega arith))

      alone_here : (Told 2 (row b₄) → ⊥) → (Told 1 (row b₂) → ⊥) → o p ≡ 0
      alone_here n2 n1 = ⊎_elim (λ f. f) (λ f. ⊎_elim one (λ g. two (let k = plain p l u refl narrow in omega arith)) (equal_or (o p) 1)) (equal_or (o p) 0)
        where
          one : o p ≡ 1 → o p ≡ 0
          one f = absurd (n1 (tells_here 1 b₂ (omega arith) (λ e. omega arith) (rw span_1 (omega arith)) f))

          two : o p ≡ 2 → o p ≡ 0
          two f = absurd (n2 (tells_here 2 b₄ (omega arith) (λ e. omega arith) (rw span_2 (omega arith)) f))

    pub signalled : o p ≡ segment_plan row p
    signalled = go (segment_plan row p) (segment_first row p) (given row p)
      where
        go : (x : ℕ) → First 4 row b₄ 4 (named_by row p) → Given row p p x → o p ≡ x
        go x (inl h) (left c d) = absurd (omega arith)
        go x (inl h) (joined c d) = absurd (omega arith)
        go x (inl h) (whole c d) = whole_here h.1 d
        go x (inl h) (half c d f) = half_here h.1 f
        go x (inl h) (alone c d f) = alone_here h.1 d f
        go x (inr w) (left c d) = left_out (named_by row p) w.1.0 (omega arith) w.1.1.2 d
        go x (inr w) (joined c d) = there (named_by row p) w.1.0 (omega arith) w.1.1.2 p refl d
        go x (inr w) (whole c d) = absurd (omega (arith, w.0))
        go x (inr w) (half c d f) = absurd (omega (arith, w.0))
        go x (inr w) (alone c d f) = absurd (omega (arith, w.0))
