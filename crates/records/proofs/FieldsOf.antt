-- The fields that a resource owns: how many there may be, which is the t-th, and in which order their User words come; for every plan that
-- signals the row.
use mathlib.Core.Path.{◌≡◌, refl, ◌∙◌, ap, subst}
use mathlib.Core.Logic.{⊎_elim, ◌⊎◌, inl, inr, ◌≢◌}
use mathlib.Core.Bool.{false}
use mathlib.Core.List.{List}
use Prim.Native.Nat.{ℕ, ◌+◌, ◌-◌, ◌≤◌, ◌<◌}
use native.Mathlib.Omega.{arith}
use lib.ListN.{length}
use Rattle.resource.specs.Values.{fields_of, divides}
use Rattle.resource.proofs.Test.{below_or}
use Rattle.resource.proofs.Pieces.{divided_low}
use Rattle.kinds.specs.Signals.{Place, Fits, Signals}
use Rattle.kinds.specs.Fields.{share, together, Eight}
use Rattle.kinds.proofs.Tests.{equal_or, by_test}
use Rattle.records.specs.declared.Record.{Record}
use Rattle.records.specs.Records.{records_from}
use Rattle.records.specs.Owns.{fields_before, ComesFrom, Owns, of_piece, of_place, number, Counts, Channel}
use Rattle.records.specs.Demand.{resource_in}
use Rattle.records.specs.FieldsOf.{fields_on, OwnsMany, EightOwned, AtMostEight, FieldOf, in_1, in_2, word_of, Turns}
use Rattle.records.specs.Engine.{lowest}
use Rattle.records.proofs.Lead.{lead_takes, lowest_place}
use Rattle.records.proofs.Listing.{record_at, Located, located, located_record, once_lead, larger_one}
use Rattle.records.proofs.Owners.{divided_itself, comes_below, owner_only}
use Rattle.records.proofs.Gives.{low_share, share_fields}
use Rattle.records.proofs.Homes.{located_below, fit, kind, home_entire, home_whole}
use Rattle.records.proofs.Shares.{owns_share, owner_listed}
use Rattle.records.proofs.Counting.{counts_once, counts_below, counts_each, counts_before, counts_same}
use Rattle.records.proofs.Totals.{own_total, piece_one, all_places}

first : Channel 1
first = (omega arith, omega arith)

second : Channel 2
second = (omega arith, omega arith)

-- a field that is owned is one of its channel's, and that is one of the two
pub owned_below : (o row : ℕ → ℕ) (n i c j : ℕ) → Owns o row n i c j → j < fields_before c row n
owned_below o row n i c j (of_piece p k w e l f) = comes_below row n c j p k w
owned_below o row n i c j (of_place p k q w e h g f) = comes_below row n c j p k w

channel_of : (row : ℕ → ℕ) (n c j p k : ℕ) → ComesFrom row n c j p k → (c ≡ 1) ⊎ (c ≡ 2)
channel_of row n c j p k w = ⊎_elim (λ (h : c < 2). inl (omega (arith, w.channel))) (λ (h : 2 ≤ c). inr (omega (arith, w.channel))) (below_or c 2)

owned_channel : (o row : ℕ → ℕ) (n i c j : ℕ) → Owns o row n i c j → (c ≡ 1) ⊎ (c ≡ 2)
owned_channel o row n i c j (of_piece p k w e l f) = channel_of row n c j p k w
owned_channel o row n i c j (of_place p k q w e h g f) = channel_of row n c j p k w

not_none : {x : ℕ} → x ≢ 0 → 0 < x
not_none {x} h = ⊎_elim (λ (l : x < 1). absurd (h (omega arith))) (λ (l : 1 ≤ x). l) (below_or x 1)

module _ (o row : ℕ → ℕ) (n : ℕ) (s : Signals o row 0 n) where
  abbrev rs : List Record
  rs = records_from o row n

  -- ---- how many
  many : (i : ℕ) → i < length rs → OwnsMany o row n i (resource_in rs i).fields1 (resource_in rs i).fields2
  many i l = record { of_1 = owns_share o row n s i 1 l first; of_2 = owns_share o row n s i 2 l second }

  so_many : (i m m' : ℕ) → i < length rs → OwnsMany o row n i m m' → m + m' ≡ fields_on (resource_in rs i)
  so_many i m m' l w =
      let a = counts_once _ _ _ _ w.of_1 (many i l).of_1 in
      let b = counts_once _ _ _ _ w.of_2 (many i l).of_2 in
      omega arith

  -- a resource that is listed at p has one field, or all that are given to the resource of p
  listed_fields : (i p k : ℕ) → Located o row n i p k → (fields_on (resource_in rs i) ≡ 1) ⊎ (fields_on (resource_in rs i) ≡ together (o p) row p)
  listed_fields i p k w =
      let e = ap fields_on (located_record o row n i p k w) in
      let own : Place (o p) p p = (refl, rw (once_lead (o p) row p k w.place) (lead_takes (o p) (kind o row n s p w.inside))) in
      by_test (divides (row p))
      (λ d. inl (e ∙ piece_one o row n s p k d (divided_itself (o p) p (row p) d (fit o row n s p w.inside))))
      (λ d. inr (e ∙ all_places o row n s p p k w.inside d own))

  eight_owned : Eight o row 0 n → (i : ℕ) → i < length rs → EightOwned o row n i
  eight_owned h i l m m' w =
      let a = located o row n i l in
      let e = so_many i m m' l w in
      ⊎_elim (λ f. omega arith) (λ f. omega (arith, h a.0 (omega arith) a.2.inside)) (listed_fields i a.0 a.1 a.2)

  -- the other way: the resource of p has no field, or is one of the list, with all of them
  abbrev Home : ℕ → Type 0
  Home p = (i : ℕ) × (i < length rs) × (fields_on (resource_in rs i) ≡ together (o p) row p)

  at_lowest : (p : ℕ) → p < n → divides (row p) ≡ false → Located o row n (number o row (lowest (o p) p) 0) (lowest (o p) p) 0 → Home p
  at_lowest p l d w = (
    number o row (lowest (o p) p) 0,
    located_below o row n _ _ _ w,
    ap fields_on (located_record o row n _ _ _ w)
        ∙ ap (λ (x : ℕ). fields_on (record_at x row (lowest (o p) p) 0)) (home_entire o row n s p l).1
        ∙ all_places o row n s p (lowest (o p) p) 0 l d (lowest_place (o p) p (kind o row n s p l)).0,
  )

  own_none : (p : ℕ) → o p ≡ 0 → share 0 p (row p) ≡ 0 → together (o p) row p ≡ 0
  own_none p e f = ap (λ (x : ℕ). together x row p) e ∙ own_total row p ∙ f

  own_home : (p : ℕ) → p < n → divides (row p) ≡ false → o p ≡ 0 → (together (o p) row p ≡ 0) ⊎ Home p
  own_home p l d e =
      ⊎_elim
      (λ z. inl (own_none p e (share_fields 0 p (row p) (subst (λ (x : ℕ). Fits x p (row p)) e (fit o row n s p l)) d ∙ z)))
      (λ (z : fields_of (row p) ≢ 0). inr (at_lowest p l d (home_whole o row n s p l (not_none z) d)))
      (equal_or (fields_of (row p)) 0)

  larger_home : (p : ℕ) → p < n → divides (row p) ≡ false → o p ≢ 0 → Home p
  larger_home p l d z =
      let w = home_entire o row n s p l in
      at_lowest p l d (record {
        inside = w.0;
        place = rw w.1 (omega (arith, larger_one (o p) row (lowest (o p) p) z (lowest_place (o p) p (kind o row n s p l)).1));
        numbered = refl;
      })

  home_of : (p : ℕ) → p < n → (together (o p) row p ≡ 0) ⊎ Home p
  home_of p l =
      by_test (divides (row p))
      (λ d. inl (own_none p (divided_itself (o p) p (row p) d (fit o row n s p l)) (low_share 0 p (row p) (omega (arith, divided_low (row p) d)))))
      (λ d. ⊎_elim (own_home p l d) (λ z. inr (larger_home p l d z)) (equal_or (o p) 0))

  counted_eight : ((i : ℕ) → i < length rs → EightOwned o row n i) → Eight o row 0 n
  counted_eight h p a l =
      ⊎_elim
      (λ e. omega arith)
      (λ w. let f = h w.0 w.1 _ _ (many w.0 w.1) in omega (arith, w.2))
      (home_of p l)

  pub at_most_eight_fact : AtMostEight o row n rs
  at_most_eight_fact = record { owned = eight_owned; counted = counted_eight }

  -- ---- which
  each_field : (i t : ℕ) → i < length rs → t < fields_on (resource_in rs i) → (c : ℕ) × (j : ℕ) × FieldOf o row n i t c j
  each_field i t l h =
      ⊎_elim
      (λ (k : t < (resource_in rs i).fields1). let w = counts_each _ _ _ t k (many i l).of_1 in (1, w.0, in_1 w.0 w.2 w.3))
      (λ (k : (resource_in rs i).fields1 ≤ t).
      let w = counts_each _ _ _ (t - (resource_in rs i).fields1) (omega arith) (many i l).of_2 in
      (2, w.0, in_2 w.0 _ _ w.2 (many i l).of_1 w.3 (omega arith)))
      (below_or t (resource_in rs i).fields1)

  field_within : (i t c j : ℕ) → i < length rs → FieldOf o row n i t c j → t < fields_on (resource_in rs i)
  field_within i t c j l (in_1 x w a) =
      let y = counts_below _ _ _ x (owned_below o row n i 1 x w) (many i l).of_1 in
      omega (arith, counts_once _ _ _ _ a y.1, y.3 w)
  field_within i t c j l (in_2 x m m' w a b e) =
      let y = counts_below _ _ _ x (owned_below o row n i 2 x w) (many i l).of_2 in
      omega (arith, counts_once _ _ _ _ a (many i l).of_1, counts_once _ _ _ _ b y.1, y.3 w)

  -- the owner of a field is one of the list's
  owner_below : (i c j : ℕ) → Owns o row n i c j → i < length rs
  owner_below i c j w = rw (owner_only o row n i c j w) (owner_listed o row n s c j (owned_below o row n i c j w))

  each_owned : (i c j : ℕ) → Owns o row n i c j → (t : ℕ) × FieldOf o row n i t c j
  each_owned i c j w = ⊎_elim (λ e. one e w) (λ e. two e w) (owned_channel o row n i c j w)
    where
      l : i < length rs
      l = owner_below i c j w

      one : c ≡ 1 → Owns o row n i c j → (t : ℕ) × FieldOf o row n i t c j
      one e v =
          let v = rw e at v in
          let x = counts_below _ _ _ j (owned_below o row n i 1 j v) (many i l).of_1 in
          rw e (x.0, in_1 j v x.1)

      two : c ≡ 2 → Owns o row n i c j → (t : ℕ) × FieldOf o row n i t c j
      two e v =
          let v = rw e at v in
          let x = counts_below _ _ _ j (owned_below o row n i 2 j v) (many i l).of_2 in
          rw e (_, in_2 j _ _ v (many i l).of_1 x.1 refl)

-- ---- one field for each t, and one t for each field
module _ (o row : ℕ → ℕ) (n i : ℕ) where
  -- channel 1's stand before channel 2's
  first_before : (j t m : ℕ) → Owns o row n i 1 j → Counts (Owns o row n i 1) j t → Counts (Owns o row n i 1) (fields_before 1 row n) m → t < m
  first_before j t m w a b =
      let x = counts_below _ _ _ j (owned_below o row n i 1 j w) b in
      omega (arith, counts_once _ _ _ _ a x.1, x.3 w)

  one_field : (t c j c' j' : ℕ) → FieldOf o row n i t c j → FieldOf o row n i t c' j' → (c ≡ c') × (j ≡ j')
  one_field t c j c' j' (in_1 x w a) (in_1 x' w' a') = (refl, counts_same _ x x' t w w' a a')
  one_field t c j c' j' (in_1 x w a) (in_2 x' m m' w' d b e) = absurd (omega (arith, first_before x t m w a d))
  one_field t c j c' j' (in_2 x m m' w d b e) (in_1 x' w' a') = absurd (omega (arith, first_before x' t m w' a' d))
  one_field t c j c' j' (in_2 x m m' w d b e) (in_2 x' k k' w' d' b' e') =
      let f : k' ≡ m' = omega (arith, counts_once _ _ _ _ d d') in
      (refl, counts_same _ x x' m' w w' b (subst (λ (y : ℕ). Counts (Owns o row n i 2) x' y) f b'))

  one_turn : (t t' c j : ℕ) → FieldOf o row n i t c j → FieldOf o row n i t' c j → t ≡ t'
  one_turn t t' c j (in_1 x w a) (in_1 x' w' a') = counts_once _ _ _ _ a a'
  one_turn t t' c j (in_2 x m m' w d b e) (in_2 x' k k' w' d' b' e') = omega (arith, counts_once _ _ _ _ d d', counts_once _ _ _ _ b b')

  words_follow : (t t' c j c' j' : ℕ) → FieldOf o row n i t c j → FieldOf o row n i t' c' j' → t < t' → word_of row n c j < word_of row n c' j'
  words_follow t t' c j c' j' (in_1 x w a) (in_1 x' w' a') h = counts_before _ x x' t t' w w' h a a'
  words_follow t t' c j c' j' (in_1 x w a) (in_2 x' m m' w' d b e) h = omega (arith, owned_below o row n i 1 x w)
  words_follow t t' c j c' j' (in_2 x m m' w d b e) (in_1 x' w' a') h = absurd (omega (arith, first_before x' t' m w' a' d))
  words_follow t t' c j c' j' (in_2 x m m' w d b e) (in_2 x' k k' w' d' b' e') h =
      omega (arith, counts_before _ x x' m' k' w w' (omega (arith, counts_once _ _ _ _ d d')) b b')

pub turns : (o row : ℕ → ℕ) (n : ℕ) → Signals o row 0 n → Turns o row n (records_from o row n)
turns o row n s = record {
  each = each_field o row n s;
  within = field_within o row n s;
  one_field = one_field o row n;
  each_owned = each_owned o row n s;
  one_turn = one_turn o row n;
  words_follow = words_follow o row n;
}
