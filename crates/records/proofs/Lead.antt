-- The lowest place of a kind, its upper places and its width: what the table of kinds says of them, each rule a test that the checker
-- computes over its lines.
use mathlib.Core.Path.{◌≡◌, refl, sym, ◌∙◌, ap}
use mathlib.Core.Logic.{◌⊎◌, inl, inr, ⊎_elim}
use mathlib.Core.Bool.{Bool, true, ◌&&◌, ◌||◌}
use Prim.Native.Nat.{ℕ, ◌+◌, ◌*◌, ◌/◌, ◌%◌, ◌^◌, ◌≤◌, ◌<◌}
use native.Mathlib.Omega.{arith}
use native.Mathlib.Nat.{div-add-mod, lt_of_mul-lt-mul_left, mul-le-mul_left, mul-suc}
use lib.Dec.{T, ltb, leb, eqb, eqb→eq}
use lib.ListN.{get_or-eq_default}
use borrow.Author.Tests.{ltb-true, leb-true, eqb-true, eqb-false, eq-eqb, ne_eqb}
use Rattle.answer.specs.Least.{least}
use Rattle.answer.proofs.Least.{least_holds, least_le, least_below}
use Rattle.resource.proofs.Test.{below_or, both_left, both_right, below, every_below}
use Rattle.kinds.specs.Kinds.{kind, kinds, kind_at, span_in, span, mask, takes}
use Rattle.kinds.specs.Signals.{Place}
use Rattle.kinds.proofs.Tests.{holds, is_true, either, by_test}
use Rattle.kinds.proofs.Places.{at_span, at_place, place_mod}
use Rattle.kinds.proofs.Table.{span_some, span_0, takes_known}
use Rattle.records.specs.Records.{lead}
use Rattle.records.specs.Engine.{lowest}

-- it is one of its own
abbrev lead_test : ℕ → Bool
lead_test c = ltb (lead c) (span c) && leb (lead c) 6

-- one of its places lies in the upper half of its span
abbrev upper : ℕ → ℕ → Bool
upper c j = leb (span c / 2) j && takes c j

abbrev upper_test : ℕ → Bool
upper_test c = ltb (least (upper c) (span c)) (span c)

-- a channel of 2 ^ b positions has whole spans of it, or none
abbrev room_test : ℕ → ℕ → Bool
room_test c b = eqb (2 ^ b % span c) 0 || leb (2 ^ b) (span c / 2)

leads_tested : T (below lead_test 36)
unfolding lead least span mask takes kind_at kinds
leads_tested = tt

uppers_tested : T (below upper_test 36)
unfolding least span mask takes kind_at kinds
uppers_tested = tt

rooms_tested : T (below (λ c. below (room_test c) 5) 36)
unfolding span kind_at kinds
rooms_tested = tt

pub lead_0 : lead 0 ≡ 0
unfolding lead least span mask takes kind_at kinds
lead_0 = refl

module _ (c : ℕ) (h : c < 36) where
  lead_line : T (lead_test c)
  lead_line = every_below lead_test 36 leads_tested c h

  pub lead_span : lead c < span c
  lead_span = ltb-true _ _ (is_true _ (both_left (ltb (lead c) (span c)) _ lead_line))

  pub lead_most : lead c ≤ 6
  lead_most = leb-true _ _ (is_true _ (both_right (ltb (lead c) (span c)) _ lead_line))

  pub lead_takes : takes c (lead c) ≡ true
  unfolding lead
  lead_takes = least_holds (takes c) (span c) lead_span

  pub upper_place : (j : ℕ) × (j < span c) × (span c / 2 ≤ j) × (takes c j ≡ true)
  upper_place =
      let l : least (upper c) (span c) < span c = ltb-true _ _ (is_true _ (every_below upper_test 36 uppers_tested c h)) in
      let j = least (upper c) (span c) in
      let t : T (upper c j) = holds _ (least_holds (upper c) (span c) l) in
      (j, l, leb-true _ _ (is_true _ (both_left (leb (span c / 2) j) (takes c j) t)), is_true _ (both_right (leb (span c / 2) j) (takes c j) t))

-- what lies past the table has no span
span_past : (c : ℕ) → 36 ≤ c → span c ≡ 0
unfolding span kind_at
span_past c h = ap span_in (get_or-eq_default kinds (kind 0 0 0) {n = c} (unfold kinds in h))

lead_le : (c : ℕ) → lead c ≤ span c
unfolding lead
lead_le c = least_le (takes c) (span c)

-- none of its places is lower
pub lead_low : (c j : ℕ) → j < span c → takes c j ≡ true → lead c ≤ j
unfolding lead
lead_low c j l t = least_below (takes c) (span c) j l t

-- ---- the lowest place of the resource that lies at p
pub lowest_place : (c p : ℕ) → c < 36 → Place c p (lowest c p) × (lowest c p % span c ≡ lead c)
unfolding lowest
lowest_place c p h =
    let e = at_place (span c) (span_some c h) p (lead c) (lead_span c h) in
    ((at_span (span c) (span_some c h) p (lead c) (lead_span c h), rw e (lead_takes c h)), e)

pub lowest_only : (c p q : ℕ) → Place c p q → q % span c ≡ lead c → q ≡ lowest c p
unfolding lowest
lowest_only c p q h e = sym (div-add-mod q (span c)) ∙ rw (h.0, e)

-- it is at most six positions later, of any number, and no later where p is a place
pub lowest_near : (c p : ℕ) → lowest c p ≤ p + 6
unfolding lowest
lowest_near c p = omega (arith, div-add-mod p (span c), most)
  where
    most : lead c ≤ 6
    most = ⊎_elim (lead_most c) (λ h. omega (arith, lead_le c, span_past c h)) (below_or c 36)

pub lowest_below : (c p : ℕ) → takes c (p % span c) ≡ true → lowest c p ≤ p
unfolding lowest
lowest_below c p t =
    let h = takes_known c (p % span c) t in
    omega (arith, div-add-mod p (span c), lead_low c (p % span c) (place_mod c p h) t)

-- p itself is the lowest exactly where its place is
pub lowest_here : (c p : ℕ) → eqb (lowest c p) p ≡ eqb (p % span c) (lead c)
unfolding lowest
lowest_here c p = same (span c * (p / span c)) (lead c) (p % span c) p (div-add-mod p (span c))
  where
    same : (a l r p : ℕ) → a + r ≡ p → eqb (a + l) p ≡ eqb r l
    same a l r p e = by_test (eqb r l) (λ f. eq-eqb (a + l) p (omega (arith, eqb-true r l f)) ∙ sym f)
        (λ f. ne_eqb (a + l) p (λ g. eqb-false r l f (omega arith)) ∙ sym f)

-- ---- the position itself
pub itself_place : (p q : ℕ) → Place 0 p q → q ≡ p
itself_place p q w = let e = rw span_0 at w.0 in omega arith

pub itself_lowest : (p : ℕ) → lowest 0 p ≡ p
unfolding lowest
itself_lowest p = rw (span_0, lead_0) (omega arith)

-- ---- where every place of a resource lies in a channel of 2 ^ b positions, so does its span
whole_or_half : (c b : ℕ) → c < 36 → b < 5 → (2 ^ b % span c ≡ 0) ⊎ (2 ^ b ≤ span c / 2)
whole_or_half c b h i =
    ⊎_elim (λ t. inl (eqb→eq _ _ t)) (λ t. inr (leb-true _ _ (is_true _ t)))
    (either (eqb (2 ^ b % span c) 0) (leb (2 ^ b) (span c / 2))
    (every_below (room_test c) 5 (every_below (λ c. below (room_test c) 5) 36 rooms_tested c h) b i))

-- n is a multiple of s, and a lower one lies below it
next_span : (s n k : ℕ) → 0 < s → n % s ≡ 0 → s * k < n → s * k + s ≤ n
next_span s n k z e l =
    let f : s * (n / s) ≡ n = omega (arith, div-add-mod n s) in
    let g : k < n / s = lt_of_mul-lt-mul_left s (rw (← f) at l) in
    omega (arith, mul-le-mul_left s g, mul-suc s k)

pub span_within : (c p b : ℕ) → c < 36 → b < 5 → ((q : ℕ) → Place c p q → q < 2 ^ b) → span c * (p / span c) + span c ≤ 2 ^ b
span_within c p b h i f =
    let u = upper_place c h in
    let j = u.0 in
    let q : span c * (p / span c) + j < 2 ^ b =
    f (span c * (p / span c) + j) (at_span (span c) (span_some c h) p j u.1, rw (at_place (span c) (span_some c h) p j u.1) u.3) in
    ⊎_elim
    (λ e. next_span (span c) (2 ^ b) (p / span c) (span_some c h) e (omega arith))
    (λ e. absurd (omega (arith, u.2)))
    (whole_or_half c b h i)
