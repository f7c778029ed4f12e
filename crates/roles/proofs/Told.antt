-- What the roles of four values tell is a plan of their segment, and how many fields its places and its resources have: `settled`.
use mathlib.Core.Path.{◌≡◌, refl, sym, ◌∙◌, ap}
use mathlib.Core.Logic.{◌⊎◌, inl, inr, ⊎_elim}
use mathlib.Core.Bool.{Bool, true, false, cond, not, ◌||◌, ◌&&◌}
use Prim.Native.Nat.{ℕ, zero, suc, ◌+◌, ◌*◌, ◌/◌, ◌%◌, ◌^◌, ◌≤◌, ◌<◌}
use native.Mathlib.Omega.{arith}
use lib.Bits.{bit_or}
use lib.Dec.{T, ltb, leb, eqb, eqb→eq}
use borrow.Author.Tests.{ltb-true, ltb-false, eqb-true, eqb-false, eq-eqb, ne_eqb, not-true}
use Rattle.resource.specs.Values.{fields_of}
use Rattle.resource.proofs.Fields.{fields_family}
use Rattle.resource.proofs.Test.{below, every_below, wherever, met, both_left, both_right}
use Rattle.kinds.specs.Kinds.{kinds, kind_at, family, span, mask, takes, must_name}
use Rattle.kinds.specs.Signals.{Place}
use Rattle.kinds.specs.Fields.{share, fields_in, together}
use Rattle.kinds.proofs.Tests.{holds, is_true, both, either, not_both, by_test, equal_or}
use Rattle.kinds.proofs.Table.{span_1, span_four}
use Rattle.kinds.proofs.Steps.{both_channels, total_alone, share_alone}
use Rattle.roles.specs.declared.Settled.{Settled}
use Rattle.roles.specs.Engine.{bit, place_of, Tells, Role, own_bits, pair_kinds, one_kinds, unsettled, over, by_pairs, named, by_one}
use Rattle.roles.specs.Engine.{lower_pair, upper_pair, all_four, settle_of, kind_in, total_in, mark, Given, Segment, Past}
use Rattle.roles.proofs.Bits.{and_bit, or_bit, shifted_bit}
use Rattle.roles.proofs.Steps.{most, own_bits_most, one_most}

-- ---- places by their number
pub at_place : (P : ℕ → Type 0) → P 0 → P 1 → P 2 → P 3 → (j : ℕ) → j < 4 → P j
at_place P a b c d zero l = a
at_place P a b c d (suc zero) l = b
at_place P a b c d (suc (suc zero)) l = c
at_place P a b c d (suc (suc (suc zero))) l = d
at_place P a b c d (suc (suc (suc (suc j)))) l = absurd (omega arith)

-- the kind that has the pair of place j: c the lower, d the upper
abbrev pair_of : ℕ → ℕ → ℕ → ℕ
pair_of c d j = cond (ltb j 2) c d

-- ---- kinds k that are the pairs' c and d, as a test
abbrev place_test : ℕ → ℕ → ℕ → Bool
place_test c j i = eqb (i / span c) (j / span c) && takes c (i % span c)

abbrev same_test : ℕ → ℕ → ℕ → Bool
same_test k j i = wherever (place_test (kind_in k j) j i) (eqb (kind_in k i) (kind_in k j))

abbrev kind_test : ℕ → ℕ → ℕ → ℕ → Bool
kind_test k c d j = eqb (kind_in k j) (place_of (pair_of c d j) j) && (ltb (kind_in k j) 7 && below (same_test k j) 4)

unfoldable pub kinds_test : ℕ → ℕ → ℕ → Bool
kinds_test k c d = below (kind_test k c d) 4

-- no resource of them must be named
unfoldable pub nameless_test : ℕ → Bool
nameless_test k = below (λ j. not (must_name (kind_in k j))) 4

plain_test : ℕ → ℕ → Bool
plain_test c j = eqb (place_of c j) c

-- a 484 has both places of its pair
plain_place : (c j : ℕ) → c < 2 → j < 4 → place_of c j ≡ c
unfolding plain_test place_of takes span mask kind_at kinds
plain_place c j l m = eqb→eq _ _ (every_below (plain_test c) 4 (every_below (λ c. below (plain_test c) 4) 2 tt c l) j m)

place_or : (c j : ℕ) → (place_of c j ≡ c) ⊎ (place_of c j ≡ 0)
unfolding place_of
place_or c j = by_test (takes c (j % span c)) (λ e. inl (rw e)) (λ e. inr (rw e))

module _ (k c d : ℕ) (t : T (kinds_test k c d)) (j : ℕ) (l : j < 4) where
  line : T (kind_test k c d j)
  line = every_below (kind_test k c d) 4 (unfold kinds_test in t) j l

  kind_is : kind_in k j ≡ place_of (pair_of c d j) j
  kind_is = eqb→eq _ _ (both_left (eqb (kind_in k j) (place_of (pair_of c d j) j)) _ line)

  kind_low : kind_in k j < 7
  kind_low = ltb-true _ 7 (is_true _ (both_left (ltb (kind_in k j) 7) _ (both_right (eqb (kind_in k j) (place_of (pair_of c d j) j)) _ line)))

  kind_same : (i : ℕ) → i < 4 → Place (kind_in k j) j i → kind_in k i ≡ kind_in k j
  kind_same i m w = eqb→eq _ _ (met (place_test (kind_in k j) j i) (eqb (kind_in k i) (kind_in k j))
      (every_below (same_test k j) 4 (both_right (ltb (kind_in k j) 7) _ (both_right (eqb (kind_in k j) (place_of (pair_of c d j) j)) _ line)) i m)
      (both (eqb (i / span (kind_in k j)) (j / span (kind_in k j))) (takes (kind_in k j) (i % span (kind_in k j))) (holds _ (eq-eqb _ _ w.0)) (holds _ w.1)))

kind_one : (k c : ℕ) → T (kinds_test k c c) → (j : ℕ) → j < 4 → kind_in k j ≡ place_of c j
kind_one k c t = at_place (λ j. kind_in k j ≡ place_of c j)
    (kind_is k c c t 0 (omega arith)) (kind_is k c c t 1 (omega arith)) (kind_is k c c t 2 (omega arith)) (kind_is k c c t 3 (omega arith))

nameless : (k : ℕ) → T (nameless_test k) → (j : ℕ) → j < 4 → must_name (kind_in k j) ≡ true → ⊥
unfolding nameless_test
nameless k t j l e = not_both (must_name (kind_in k j)) e (not-true _ (is_true _ (every_below (λ j. not (must_name (kind_in k j))) 4 t j l)))

itself_nameless : must_name 0 ≡ false
unfolding must_name span mask kind_at kinds
itself_nameless = refl

-- ---- the fields of a resource
own_most : (j v : ℕ) → share 0 j v ≤ 8
own_most j v = rw (← share_alone j v) (by_test (eqb (v / 8) 8) yes (λ e. rw e (omega arith)))
  where
    yes : eqb (v / 8) 8 ≡ true → cond (eqb (v / 8) 8) (fields_of v) 0 ≤ 8
    yes e = let f = eqb-true (v / 8) 8 e in rw (e, fields_family v (omega arith) (omega arith)) (omega arith)

total_own : (v : ℕ → ℕ) (c j : ℕ) → c ≡ 0 → together c v j ≡ share 0 j (v j)
total_own v c j e = sym (total_alone c v j e)

total_lower : (v : ℕ → ℕ) (c j : ℕ) → c ≡ 1 → j < 2 → together c v j ≡ share 1 0 (v 0) + share 1 1 (v 1)
unfolding fields_in
total_lower v c j e l =
    let z : j / 2 ≡ 0 = omega arith in
    rw (e, span_1, z) (omega (arith, both_channels 1 0 (v 0), both_channels 1 1 (v 1)))

total_upper : (v : ℕ → ℕ) (c j : ℕ) → c ≡ 1 → 2 ≤ j → j < 4 → together c v j ≡ share 1 2 (v 2) + share 1 3 (v 3)
unfolding fields_in
total_upper v c j e l u =
    let z : j / 2 ≡ 1 = omega arith in
    rw (e, span_1, z) (omega (arith, both_channels 1 2 (v 2), both_channels 1 3 (v 3)))

total_four : (v : ℕ → ℕ) (c j : ℕ) → c < 7 → 2 ≤ c → j < 4
    → together c v j ≡ share c 0 (v 0) + share c 1 (v 1) + share c 2 (v 2) + share c 3 (v 3)
unfolding fields_in
total_four v c j h l u =
    let z : j / 4 ≡ 0 = omega arith in
    rw (span_four c h l, z) (omega (arith, both_channels c 0 (v 0), both_channels c 1 (v 1), both_channels c 2 (v 2), both_channels c 3 (v 3)))

-- ---- the tables have no other entries
pair_test : ℕ → Bool
pair_test i = eqb (pair_kinds i) 0 || (eqb i 6 || (eqb i 9 || eqb i 10))

pair_view : (i : ℕ) → i < 16 → (pair_kinds i ≡ 0 → ⊥) → (i ≡ 6) ⊎ ((i ≡ 9) ⊎ (i ≡ 10))
unfolding pair_test pair_kinds
pair_view i l n =
    ⊎_elim (λ t. absurd (n (eqb→eq _ _ t)))
    (λ t. ⊎_elim (λ a. inl (eqb→eq _ _ a)) (λ b. inr (⊎_elim (λ a. inl (eqb→eq _ _ a)) (λ a. inr (eqb→eq _ _ a)) (either (eqb i 9) (eqb i 10) b)))
    (either (eqb i 6) (eqb i 9 || eqb i 10) t))
    (either (eqb (pair_kinds i) 0) (eqb i 6 || (eqb i 9 || eqb i 10)) (every_below pair_test 16 tt i l))

one_test : ℕ → Bool
one_test i = eqb (one_kinds i) 0 || (eqb i 1 || (eqb i 2 || (eqb i 4 || (eqb i 8 || eqb i 16))))

one_view : (i : ℕ) → i < 32 → (one_kinds i ≡ 0 → ⊥) → (i ≡ 1) ⊎ ((i ≡ 2) ⊎ ((i ≡ 4) ⊎ ((i ≡ 8) ⊎ (i ≡ 16))))
unfolding one_test one_kinds
one_view i l n =
    ⊎_elim (λ t. absurd (n (eqb→eq _ _ t))) ones
    (either (eqb (one_kinds i) 0) (eqb i 1 || (eqb i 2 || (eqb i 4 || (eqb i 8 || eqb i 16)))) (every_below one_test 32 tt i l))
  where
    last : T (eqb i 8 || eqb i 16) → (i ≡ 8) ⊎ (i ≡ 16)
    last t = ⊎_elim (λ a. inl (eqb→eq _ _ a)) (λ a. inr (eqb→eq _ _ a)) (either (eqb i 8) (eqb i 16) t)

    fours : T (eqb i 4 || (eqb i 8 || eqb i 16)) → (i ≡ 4) ⊎ ((i ≡ 8) ⊎ (i ≡ 16))
    fours t = ⊎_elim (λ a. inl (eqb→eq _ _ a)) (λ a. inr (last a)) (either (eqb i 4) (eqb i 8 || eqb i 16) t)

    twos : T (eqb i 2 || (eqb i 4 || (eqb i 8 || eqb i 16))) → (i ≡ 2) ⊎ ((i ≡ 4) ⊎ ((i ≡ 8) ⊎ (i ≡ 16)))
    twos t = ⊎_elim (λ a. inl (eqb→eq _ _ a)) (λ a. inr (fours a)) (either (eqb i 2) (eqb i 4 || (eqb i 8 || eqb i 16)) t)

    ones : T (eqb i 1 || (eqb i 2 || (eqb i 4 || (eqb i 8 || eqb i 16)))) → (i ≡ 1) ⊎ ((i ≡ 2) ⊎ ((i ≡ 4) ⊎ ((i ≡ 8) ⊎ (i ≡ 16))))
    ones t = ⊎_elim (λ a. inl (eqb→eq _ _ a)) (λ a. inr (twos a)) (either (eqb i 1) (eqb i 2 || (eqb i 4 || (eqb i 8 || eqb i 16))) t)

-- ---- the fields that two roles give to a resource larger than a position
wide_sum : (x y : ℕ) → x % 2 ^ 56 < 2 ^ 48 → y % 2 ^ 56 < 2 ^ 48 → (x + y) / 2 ^ 56 ≡ x / 2 ^ 56 + y / 2 ^ 56
wide_sum x y l m = omega arith

mark_0 : (t : ℕ) → t ≡ 0 → mark t ≡ 0
mark_0 t e = rw e

marked : (t m : ℕ) → cond (leb 2 t) m 0 ≡ m * mark t
marked t m = go (leb 2 t)
  where
    go : (b : Bool) → cond b m 0 ≡ m * cond b 1 0
    go true = omega arith
    go false = omega arith

-- the mark of a place that is given to itself, and of one that is not
many_own : (x t m : ℕ) → x ≡ 0 → m ≡ cond (eqb x 0 && leb 2 t) 1 0 → m ≡ mark t
many_own x t m e f = f ∙ rw e

many_none : (x t m : ℕ) → (x ≡ 0 → ⊥) → m ≡ cond (eqb x 0 && leb 2 t) 1 0 → m ≡ 0
many_none x t m e f = f ∙ rw (ne_eqb x 0 e)

-- ---- four values with their roles
module _ (v f r : ℕ → ℕ) (role : (j : ℕ) → j < 4 → Role (v j) (f j) (r j)) where
  -- a plan of the segment, and the fields of each place
  abbrev Whole : ℕ → ℕ → Type 0
  Whole k m = Segment v k m × ((j : ℕ) → j < 4 → r j % 256 ≡ f j)

  abbrev lower : ℕ
  lower = lower_pair (r 0) (r 1)

  abbrev upper : ℕ
  upper = upper_pair (r 2) (r 3)

  -- what agrees in a pair is told of both its places
  module _ (c d : ℕ) (lc : c < 7) (ld : d < 7) (ec : bit c lower ≡ 1) (ed : bit d upper ≡ 1) where
    agreed : (j : ℕ) → j < 4 → Tells (v j) (f j) (r j) (pair_of c d j) j
    agreed = at_place (λ j. Tells (v j) (f j) (r j) (pair_of c d j) j)
        ((role 0 (omega arith)).tells c 0 lc (omega arith) (sym (shifted_bit (r 0) 16 c) ∙ (and_bit (r 0 / 2 ^ 16) (r 1 / 2 ^ 24) c ec).0))
        ((role 1 (omega arith)).tells c 1 lc (omega arith) (sym (shifted_bit (r 1) 24 c) ∙ (and_bit (r 0 / 2 ^ 16) (r 1 / 2 ^ 24) c ec).1))
        ((role 2 (omega arith)).tells d 2 ld (omega arith) (sym (shifted_bit (r 2) 32 d) ∙ (and_bit (r 2 / 2 ^ 32) (r 3 / 2 ^ 40) d ed).0))
        ((role 3 (omega arith)).tells d 3 ld (omega arith) (sym (shifted_bit (r 3) 40 d) ∙ (and_bit (r 2 / 2 ^ 32) (r 3 / 2 ^ 40) d ed).1))

  agreed_one : (c : ℕ) → c < 7 → bit c lower ≡ 1 → bit c upper ≡ 1 → (j : ℕ) → j < 4 → Tells (v j) (f j) (r j) c j
  agreed_one c l x y = at_place (λ j. Tells (v j) (f j) (r j) c j)
      (agreed c c l l x y 0 (omega arith)) (agreed c c l l x y 1 (omega arith)) (agreed c c l l x y 2 (omega arith)) (agreed c c l l x y 3 (omega arith))

  lower_sum : (r 0 + r 1) / 2 ^ 56 ≡ r 0 / 2 ^ 56 + r 1 / 2 ^ 56
  lower_sum = wide_sum (r 0) (r 1) (role 0 (omega arith)).low (role 1 (omega arith)).low

  upper_sum : (r 2 + r 3) / 2 ^ 56 ≡ r 2 / 2 ^ 56 + r 3 / 2 ^ 56
  upper_sum = wide_sum (r 2) (r 3) (role 2 (omega arith)).low (role 3 (omega arith)).low

  abbrev t : ℕ
  t = (r 0 + r 1) / 2 ^ 56

  abbrev u : ℕ
  u = (r 2 + r 3) / 2 ^ 56

  abbrev own : ℕ
  own = own_bits (r 0) (r 1) (r 2) (r 3)

  own_least : own ≤ 15
  own_least = own_bits_most (r 0) (r 1) (r 2) (r 3)

  -- ---- the mark of a place, and its resource's fields, where those of a larger resource are w
  abbrev Marked : ℕ → ℕ → ℕ → Type 0
  Marked k j w = (mark (total_in k v j) ≡ bit (8 + j) (r j) + w) × (total_in k v j ≤ 8)

  module _ (k c j : ℕ) (told : Tells (v j) (f j) (r j) c j) (ek : kind_in k j ≡ place_of c j) where
    place_own : (w : ℕ) → place_of c j ≡ 0 → w ≡ 0 → Marked k j w
    place_own w e z =
        let x = total_own v (kind_in k j) j (ek ∙ e) in
        let y = many_own (place_of c j) (share 0 j (v j)) (bit (8 + j) (r j)) e told.many in
        let m = own_most j (v j) in
        (rw x (omega arith), omega arith)

    place_wide : (w : ℕ) → (place_of c j ≡ 0 → ⊥) → total_in k v j ≡ w → w ≤ 8 → Marked k j (mark w)
    place_wide w e x l =
        let y = many_none (place_of c j) (share 0 j (v j)) (bit (8 + j) (r j)) e told.many in
        (rw x (omega arith), omega arith)

    no_wide : c ≡ 0 → r j / 2 ^ 56 ≡ 0
    no_wide e = told.wide ∙ rw e

    some_wide : (c ≡ 0 → ⊥) → r j / 2 ^ 56 ≡ share c j (v j)
    some_wide e = told.wide ∙ rw (ne_eqb c 0 e)

  -- ---- two pairs, each a 484 or given to its places
  module _ (k c d : ℕ) (lc : c < 2) (ld : d < 2) (ec : bit c lower ≡ 1) (ed : bit d upper ≡ 1)
      (kt : T (kinds_test k c d)) (nt : T (nameless_test k)) where
    told : (j : ℕ) → j < 4 → Tells (v j) (f j) (r j) (pair_of c d j) j
    told = agreed c d (omega arith) (omega arith) ec ed

    is : (j : ℕ) → j < 4 → kind_in k j ≡ place_of (pair_of c d j) j
    is = kind_is k c d kt

    pairs_given : Given v k
    pairs_given = record {
      fit = λ j l. rw (is j l) (told j l).fits;
      low = kind_low k c d kt;
      entire = λ j i l n w. kind_same k c d kt j l i n w;
      named = λ j l n. absurd (nameless k nt j l n);
    }

    -- a pair with fields for more than its places is a 484
    pairs_past : (8 < t) ⊎ (8 < u) → Past v k
    pairs_past x = record { given = pairs_given; past = ⊎_elim lower_past upper_past x }
      where
        lower_past : 8 < t → (j : ℕ) × (j < 4) × (8 < total_in k v j)
        lower_past l =
            let w = told 0 (omega arith) in
            let y = told 1 (omega arith) in
            let o : c ≡ 1 = ⊎_elim (λ e. absurd (omega (arith, lower_sum, no_wide k c 0 w (is 0 (omega arith)) e, no_wide k c 1 y (is 1 (omega arith)) e)))
            (λ e. omega arith) (equal_or c 0) in
            let n : c ≡ 0 → ⊥ = λ e. omega arith in
            let g : r 0 / 2 ^ 56 ≡ share 1 0 (v 0) = some_wide k c 0 w (is 0 (omega arith)) n ∙ ap (λ (i : ℕ). share i 0 (v 0)) o in
            let h : r 1 / 2 ^ 56 ≡ share 1 1 (v 1) = some_wide k c 1 y (is 1 (omega arith)) n ∙ ap (λ (i : ℕ). share i 1 (v 1)) o in
            let z = total_lower v (kind_in k 0) 0 (is 0 (omega arith) ∙ plain_place c 0 lc (omega arith) ∙ o) (omega arith) in
            (0, omega arith, omega (arith, lower_sum, z))

        upper_past : 8 < u → (j : ℕ) × (j < 4) × (8 < total_in k v j)
        upper_past l =
            let w = told 2 (omega arith) in
            let y = told 3 (omega arith) in
            let o : d ≡ 1 = ⊎_elim (λ e. absurd (omega (arith, upper_sum, no_wide k d 2 w (is 2 (omega arith)) e, no_wide k d 3 y (is 3 (omega arith)) e)))
            (λ e. omega arith) (equal_or d 0) in
            let n : d ≡ 0 → ⊥ = λ e. omega arith in
            let g : r 2 / 2 ^ 56 ≡ share 1 2 (v 2) = some_wide k d 2 w (is 2 (omega arith)) n ∙ ap (λ (i : ℕ). share i 2 (v 2)) o in
            let h : r 3 / 2 ^ 56 ≡ share 1 3 (v 3) = some_wide k d 3 y (is 3 (omega arith)) n ∙ ap (λ (i : ℕ). share i 3 (v 3)) o in
            let z = total_upper v (kind_in k 2) 2 (is 2 (omega arith) ∙ plain_place d 2 ld (omega arith) ∙ o) (omega arith) (omega arith) in
            (2, omega arith, omega (arith, upper_sum, z))

    module _ (lt : t ≤ 8) (lu : u ≤ 8) where
      lower_marked : Marked k 0 (mark t) × Marked k 1 (mark t)
      lower_marked = ⊎_elim alone pair (equal_or c 0)
        where
          alone : c ≡ 0 → Marked k 0 (mark t) × Marked k 1 (mark t)
          alone e =
              let z : t ≡ 0 = omega (
                arith,
                lower_sum,
                no_wide k c 0 (told 0 (omega arith)) (is 0 (omega arith)) e,
                no_wide k c 1 (told 1 (omega arith)) (is 1 (omega arith)) e,
              ) in (
                place_own k c 0 (told 0 (omega arith)) (is 0 (omega arith)) (mark t) (plain_place c 0 lc (omega arith) ∙ e) (mark_0 t z),
                place_own k c 1 (told 1 (omega arith)) (is 1 (omega arith)) (mark t) (plain_place c 1 lc (omega arith) ∙ e) (mark_0 t z),
              )

          pair : (c ≡ 0 → ⊥) → Marked k 0 (mark t) × Marked k 1 (mark t)
          pair e =
              let o : c ≡ 1 = omega arith in
              let x = plain_place c 0 lc (omega arith) in
              let y = plain_place c 1 lc (omega arith) in
              let g : r 0 / 2 ^ 56 ≡ share 1 0 (v 0) = some_wide k c 0 (told 0 (omega arith)) (is 0 (omega arith)) e ∙ ap (λ (i : ℕ). share i 0 (v 0)) o in
              let h : r 1 / 2 ^ 56 ≡ share 1 1 (v 1) = some_wide k c 1 (told 1 (omega arith)) (is 1 (omega arith)) e ∙ ap (λ (i : ℕ). share i 1 (v 1)) o in
              let z : share 1 0 (v 0) + share 1 1 (v 1) ≡ t = omega (arith, lower_sum) in (
                place_wide k c 0 (told 0 (omega arith)) (is 0 (omega arith)) t (λ h. e (sym x ∙ h))
                    (total_lower v (kind_in k 0) 0 (is 0 (omega arith) ∙ x ∙ o) (omega arith) ∙ z) lt,
                place_wide k c 1 (told 1 (omega arith)) (is 1 (omega arith)) t (λ h. e (sym y ∙ h))
                    (total_lower v (kind_in k 1) 1 (is 1 (omega arith) ∙ y ∙ o) (omega arith) ∙ z) lt,
              )

      upper_marked : Marked k 2 (mark u) × Marked k 3 (mark u)
      upper_marked = ⊎_elim alone pair (equal_or d 0)
        where
          alone : d ≡ 0 → Marked k 2 (mark u) × Marked k 3 (mark u)
          alone e =
              let z : u ≡ 0 = omega (
                arith,
                upper_sum,
                no_wide k d 2 (told 2 (omega arith)) (is 2 (omega arith)) e,
                no_wide k d 3 (told 3 (omega arith)) (is 3 (omega arith)) e,
              ) in (
                place_own k d 2 (told 2 (omega arith)) (is 2 (omega arith)) (mark u) (plain_place d 2 ld (omega arith) ∙ e) (mark_0 u z),
                place_own k d 3 (told 3 (omega arith)) (is 3 (omega arith)) (mark u) (plain_place d 3 ld (omega arith) ∙ e) (mark_0 u z),
              )

          pair : (d ≡ 0 → ⊥) → Marked k 2 (mark u) × Marked k 3 (mark u)
          pair e =
              let o : d ≡ 1 = omega arith in
              let x = plain_place d 2 ld (omega arith) in
              let y = plain_place d 3 ld (omega arith) in
              let g : r 2 / 2 ^ 56 ≡ share 1 2 (v 2) = some_wide k d 2 (told 2 (omega arith)) (is 2 (omega arith)) e ∙ ap (λ (i : ℕ). share i 2 (v 2)) o in
              let h : r 3 / 2 ^ 56 ≡ share 1 3 (v 3) = some_wide k d 3 (told 3 (omega arith)) (is 3 (omega arith)) e ∙ ap (λ (i : ℕ). share i 3 (v 3)) o in
              let z : share 1 2 (v 2) + share 1 3 (v 3) ≡ u = omega (arith, upper_sum) in (
                place_wide k d 2 (told 2 (omega arith)) (is 2 (omega arith)) u (λ h. e (sym x ∙ h))
                    (total_upper v (kind_in k 2) 2 (is 2 (omega arith) ∙ x ∙ o) (omega arith) (omega arith) ∙ z) lu,
                place_wide k d 3 (told 3 (omega arith)) (is 3 (omega arith)) u (λ h. e (sym y ∙ h))
                    (total_upper v (kind_in k 3) 3 (is 3 (omega arith) ∙ y ∙ o) (omega arith) (omega arith) ∙ z) lu,
              )

      pub pairs_segment : (m : ℕ) → m ≡ own + 3 * mark t + 12 * mark u → Whole k m
      unfolding own_bits
      pairs_segment m e = (
        record {
          given = pairs_given;
          eight = at_place (λ j. total_in k v j ≤ 8) lower_marked.0.1 lower_marked.1.1 upper_marked.0.1 upper_marked.1.1;
          marks = e ∙ omega (arith, lower_marked.0.0, lower_marked.1.0, upper_marked.0.0, upper_marked.1.0);
        },
        λ j l. (told j l).fields,
      )

  -- ---- one resource, of a kind that has places in both pairs
  module _ (k c : ℕ) (lc : c < 7) (l2 : 2 ≤ c) (ec : bit c lower ≡ 1) (ed : bit c upper ≡ 1) (kt : T (kinds_test k c c))
      (nt : (j : ℕ) → j < 4 → must_name (kind_in k j) ≡ true
      → (i : ℕ) × (i < 4) × Place (kind_in k j) j i × (v i / 8 ≡ family (kind_in k j))) where
    told_one : (j : ℕ) → j < 4 → Tells (v j) (f j) (r j) c j
    told_one = agreed_one c lc ec ed

    is_one : (j : ℕ) → j < 4 → kind_in k j ≡ place_of c j
    is_one = kind_one k c kt

    wide_one : (j : ℕ) (l : j < 4) → r j / 2 ^ 56 ≡ share c j (v j)
    wide_one j l = some_wide k c j (told_one j l) (is_one j l) (λ e. omega arith)

    one_given : Given v k
    one_given = record {
      fit = λ j l. rw (is_one j l) (told_one j l).fits;
      low = kind_low k c c kt;
      entire = λ j i l n w. kind_same k c c kt j l i n w;
      named = nt;
    }

    one_total : (j : ℕ) → j < 4 → place_of c j ≡ c → total_in k v j ≡ t + u
    one_total j l e =
        let x = total_four v (kind_in k j) j (kind_low k c c kt j l) (omega (arith, is_one j l)) l in
        let g : kind_in k j ≡ c = is_one j l ∙ e in
        x ∙ rw g (omega (
          arith,
          lower_sum,
          upper_sum,
          wide_one 0 (omega arith),
          wide_one 1 (omega arith),
          wide_one 2 (omega arith),
          wide_one 3 (omega arith),
        ))

    one_past : (j : ℕ) → j < 4 → place_of c j ≡ c → 8 < t + u → Past v k
    one_past j l e m = record { given = one_given; past = (j, l, omega (arith, one_total j l e)) }

    -- place j is the resource's
    abbrev q : ℕ → ℕ
    q j = cond (eqb (kind_in k j) 0) 0 1

    module _ (p : ℕ) (lt : t + u ≤ 8)
        (ep : p ≡ cond (eqb (kind_in k 0) 0) 0 1 + 2 * cond (eqb (kind_in k 1) 0) 0 1 + 4 * cond (eqb (kind_in k 2) 0) 0 1 + 8 * cond (eqb (kind_in k 3) 0) 0 1)
      where
        -- its share of the mark
        abbrev part : ℕ → ℕ
        part j = cond (leb 2 (t + u)) (q j) 0

        one_marked : (j : ℕ) → j < 4 → Marked k j (part j)
        one_marked j l = ⊎_elim wide alone (place_or c j)
          where
            none : (b : Bool) → ◌≡◌ {A = ℕ} (cond b 0 0) 0
            none true = refl
            none false = refl

            alone : place_of c j ≡ 0 → Marked k j (part j)
            alone e = place_own k c j (told_one j l) (is_one j l) (part j) e (rw (eq-eqb (kind_in k j) 0 (is_one j l ∙ e)) (none (leb 2 (t + u))))

            wide : place_of c j ≡ c → Marked k j (part j)
            wide e =
                let g : kind_in k j ≡ c = is_one j l ∙ e in
                rw (ne_eqb (kind_in k j) 0 (λ h. omega arith)) (place_wide k c j (told_one j l) (is_one j l) (t + u) (λ h. omega arith) (one_total j l e) lt)

        pub one_segment : (m : ℕ) → m ≡ own + cond (leb 2 (t + u)) p 0 → Whole k m
        unfolding own_bits
        one_segment m e = (
          record {
            given = one_given;
            eight = λ j l. (one_marked j l).1;
            marks = e ∙ go (leb 2 (t + u)) (one_marked 0 (omega arith)).0 (one_marked 1 (omega arith)).0 (one_marked 2 (omega arith)).0
                (one_marked 3 (omega arith)).0;
          },
          λ j l. (told_one j l).fields,
        )
          where
            go : (b : Bool) → mark (total_in k v 0) ≡ bit 8 (r 0) + cond b (q 0) 0 → mark (total_in k v 1) ≡ bit 9 (r 1) + cond b (q 1) 0
                → mark (total_in k v 2) ≡ bit 10 (r 2) + cond b (q 2) 0 → mark (total_in k v 3) ≡ bit 11 (r 3) + cond b (q 3) 0
                → own + cond b p 0 ≡ mark (total_in k v 0) + 2 * mark (total_in k v 1) + 4 * mark (total_in k v 2) + 8 * mark (total_in k v 3)
            go true w x y z = omega arith
            go false w x y z = omega arith

  -- ---- one that must be named: some place has its name
  module _ (k c : ℕ) (lc : c < 7) (l3 : 3 ≤ c) (ec : bit c lower ≡ 1) (ed : bit c upper ≡ 1) (kt : T (kinds_test k c c))
      (en : bit (9 + c) (bit_or (bit_or (bit_or (r 0) (r 1)) (r 2)) (r 3)) ≡ 1) where
    abbrev Name : Type 0
    Name = (i : ℕ) × (i < 4) × (takes c i ≡ true) × (v i / 8 ≡ family c)

    name_at : (i : ℕ) → i < 4 → bit (9 + c) (r i) ≡ 1 → Name
    name_at i l e = let w = (agreed_one c lc ec ed i l).names l3 e in (i, l, w.0, w.1)

    some_name : Name
    some_name =
        ⊎_elim
        (λ a. ⊎_elim (λ b. ⊎_elim (name_at 0 (omega arith)) (name_at 1 (omega arith)) (or_bit (r 0) (r 1) (9 + c) b)) (name_at 2 (omega arith))
        (or_bit (bit_or (r 0) (r 1)) (r 2) (9 + c) a))
        (name_at 3 (omega arith))
        (or_bit (bit_or (bit_or (r 0) (r 1)) (r 2)) (r 3) (9 + c) en)

    one_named : (j : ℕ) → j < 4 → must_name (kind_in k j) ≡ true → (i : ℕ) × (i < 4) × Place (kind_in k j) j i × (v i / 8 ≡ family (kind_in k j))
    one_named j l m = ⊎_elim wide (λ e. absurd (not_both (must_name (kind_in k j)) m (ap must_name (kind_one k c kt j l ∙ e) ∙ itself_nameless))) (place_or c j)
      where
        wide : place_of c j ≡ c → (i : ℕ) × (i < 4) × Place (kind_in k j) j i × (v i / 8 ≡ family (kind_in k j))
        wide e =
            let w = some_name in
            let lw = w.1 in
            let g : kind_in k j ≡ c = kind_one k c kt j l ∙ e in
            let x : w.0 / 4 ≡ j / 4 = omega arith in
            let y : w.0 % 4 ≡ w.0 = omega arith in
            (w.0, w.1, rw (g, span_four c lc (omega arith)) (x, rw y w.2), rw g w.3)

  -- ---- the three ways
  -- a plan, or one with a resource over eight
  pub record Told (x : Settled) : Type 0 where
    pub whole : x.marks < 65536 → Whole x.kinds x.marks
    pub past : 65536 < x.marks → Past v x.kinds

  abbrev all : ℕ
  all = all_four (r 0) (r 1) (r 2) (r 3)

  abbrev names : ℕ
  names = bit_or (bit_or (bit_or (r 0) (r 1)) (r 2)) (r 3)

  by_alone : all % 2 ≡ 1 → Whole 0 own
  unfolding kinds_test nameless_test place_of takes must_name span mask kind_at kinds
  by_alone e =
      let b : bit 0 all ≡ 1 = omega arith in
      let w = and_bit lower upper 0 b in
      let told = agreed_one 0 (omega arith) w.0 w.1 in
      let z : (j : ℕ) → j < 4 → r j / 2 ^ 56 ≡ 0 = λ j l. (told j l).wide in
      let et : t ≡ 0 = omega (arith, lower_sum, z 0 (omega arith), z 1 (omega arith)) in
      let eu : u ≡ 0 = omega (arith, upper_sum, z 2 (omega arith), z 3 (omega arith)) in
      pairs_segment 0 0 0 (omega arith) (omega arith) w.0 w.1 tt tt (omega arith) (omega arith) own (omega (arith, mark_0 t et, mark_0 u eu))

  not_told : Told unsettled
  not_told = record { whole = λ l. absurd (omega arith); past = λ l. absurd (omega arith) }

  whole_told : (k m : ℕ) → m ≤ 65535 → Whole k m → Told (record { kinds = k; marks = m })
  whole_told k m l w = record { whole = λ _. w; past = λ n. absurd (omega arith) }

  past_told : (k : ℕ) → Past v k → Told (over k)
  past_told k w = record { whole = λ l. absurd (omega arith); past = λ _. w }

  abbrev pairs : ℕ
  pairs = lower % 4 + 4 * (upper % 4)

  -- two pairs, with at most eight fields each or with more
  abbrev Two : ℕ → Type 0
  Two k = (t ≤ 8 → u ≤ 8 → Whole k (own + cond (leb 2 t) 3 0 + cond (leb 2 u) 12 0)) × ((8 < t) ⊎ (8 < u) → Past v k)

  two_of : (k c d : ℕ) (lc : c < 2) (ld : d < 2) (ec : bit c lower ≡ 1) (ed : bit d upper ≡ 1) (kt : T (kinds_test k c d)) (nt : T (nameless_test k)) → Two k
  two_of k c d lc ld ec ed kt nt = (
    λ lt lu. pairs_segment k c d lc ld ec ed kt nt lt lu _ (omega (arith, marked t 3, marked u 12)),
    pairs_past k c d lc ld ec ed kt nt,
  )

  by_two : (i : ℕ) → pairs ≡ i → (i ≡ 6) ⊎ ((i ≡ 9) ⊎ (i ≡ 10)) → Two (pair_kinds i)
  unfolding pair_kinds kinds_test nameless_test place_of takes must_name span mask kind_at kinds
  by_two i e (inl x) = rw x (two_of 17 1 0 (omega arith) (omega arith) (omega arith) (omega arith) tt tt)
  by_two i e (inr (inl x)) = rw x (two_of 4352 0 1 (omega arith) (omega arith) (omega arith) (omega arith) tt tt)
  by_two i e (inr (inr x)) = rw x (two_of 4369 1 1 (omega arith) (omega arith) (omega arith) (omega arith) tt tt)

  or_no : (a b : Bool) → (a || b) ≡ false → (a ≡ false) × (b ≡ false)
  or_no true b e = not_both true refl e
  or_no false b e = (refl, e)

  or_one : (a b : Bool) → (a || b) ≡ true → (a ≡ true) ⊎ (b ≡ true)
  or_one true b e = inl refl
  or_one false b e = inr e

  or_yes : (a b : Bool) → (a || b) ≡ true → a ≡ false → b ≡ true
  or_yes true b e f = not_both true refl f
  or_yes false b e f = e

  pairs_told : (pair_kinds pairs ≡ 0 → ⊥) → Told (by_pairs (pair_kinds pairs) own t u)
  unfolding by_pairs
  pairs_told n = go (ltb 8 t || ltb 8 u) refl
    where
      two : Two (pair_kinds pairs)
      two = by_two pairs refl (pair_view pairs (omega arith) n)

      go : (b : Bool) → (ltb 8 t || ltb 8 u) ≡ b
          → Told (cond b (over (pair_kinds pairs)) (record { kinds = pair_kinds pairs; marks = own + cond (leb 2 t) 3 0 + cond (leb 2 u) 12 0 }))
      go true e = past_told _ (two.1 (⊎_elim (λ x. inl (ltb-true 8 t x)) (λ x. inr (ltb-true 8 u x)) (or_one (ltb 8 t) (ltb 8 u) e)))
      go false e =
          let w = or_no (ltb 8 t) (ltb 8 u) e in
          whole_told _ _ (omega (arith, own_least, most t 3, most u 12)) (two.0 (ltb-false 8 t w.0) (ltb-false 8 u w.1))

  -- one resource
  abbrev One : ℕ → ℕ → Type 0
  One k p = (t + u ≤ 8 → Whole k (own + cond (leb 2 (t + u)) p 0)) × (8 < t + u → Past v k)

  one_of : (k c p : ℕ) (lc : c < 7) (l2 : 2 ≤ c) → bit c all ≡ 1 → (kt : T (kinds_test k c c))
      → p ≡ cond (eqb (kind_in k 0) 0) 0 1 + 2 * cond (eqb (kind_in k 1) 0) 0 1 + 4 * cond (eqb (kind_in k 2) 0) 0 1 + 8 * cond (eqb (kind_in k 3) 0) 0 1
      → ((j : ℕ) → j < 4 → must_name (kind_in k j) ≡ true → (i : ℕ) × (i < 4) × Place (kind_in k j) j i × (v i / 8 ≡ family (kind_in k j)))
      → (j : ℕ) → j < 4 → place_of c j ≡ c → One k p
  one_of k c p lc l2 e kt ep nt j l q =
      let w = and_bit lower upper c e in
      (λ lt. one_segment k c lc l2 w.0 w.1 kt nt p lt ep _ refl, one_past k c lc l2 w.0 w.1 kt nt j l q)

  joined : (c k p : ℕ) → c < 7 → 3 ≤ c → bit c all ≡ 1 → bit (9 + c) names ≡ 1 → T (kinds_test k c c)
      → p ≡ cond (eqb (kind_in k 0) 0) 0 1 + 2 * cond (eqb (kind_in k 1) 0) 0 1 + 4 * cond (eqb (kind_in k 2) 0) 0 1 + 8 * cond (eqb (kind_in k 3) 0) 0 1
      → (j : ℕ) → j < 4 → place_of c j ≡ c → One k p
  joined c k p lc l3 e n kt ep j l q =
      let w = and_bit lower upper c e in
      one_of k c p lc (omega arith) e kt ep (one_named k c lc l3 w.0 w.1 kt n) j l q

  by_any : (i : ℕ) → all / 4 % 32 ≡ i → named all names ≡ true
      → (i ≡ 1) ⊎ ((i ≡ 2) ⊎ ((i ≡ 4) ⊎ ((i ≡ 8) ⊎ (i ≡ 16)))) → One (one_kinds i % 65536) (one_kinds i / 65536)
  unfolding named one_kinds kinds_test nameless_test place_of takes must_name span mask kind_at kinds
  by_any i e n (inl x) =
      rw x (one_of 8738 2 15 (omega arith) (omega arith) (omega arith) tt refl (λ j l m. absurd (nameless 8738 tt j l m)) 0 (omega arith) refl)
  by_any i e n (inr y) = go y
    where
      same : all / 4 % 2 ≡ 0 → names / 4096 % 16 ≡ all / 8 % 16
      same z = eqb-true _ _ (or_yes (eqb (all / 4 % 2) 1) _ n (ne_eqb (all / 4 % 2) 1 (λ h. omega arith)))

      go : (i ≡ 2) ⊎ ((i ≡ 4) ⊎ ((i ≡ 8) ⊎ (i ≡ 16))) → One (one_kinds i % 65536) (one_kinds i / 65536)
      go (inl x) = let z = same (omega arith) in
          rw x (joined 3 13104 14 (omega arith) (omega arith) (omega arith) (omega arith) tt refl 1 (omega arith) refl)
      go (inr (inl x)) = let z = same (omega arith) in
          rw x (joined 4 17412 13 (omega arith) (omega arith) (omega arith) (omega arith) tt refl 0 (omega arith) refl)
      go (inr (inr (inl x))) = let z = same (omega arith) in
          rw x (joined 5 20565 11 (omega arith) (omega arith) (omega arith) (omega arith) tt refl 0 (omega arith) refl)
      go (inr (inr (inr x))) = let z = same (omega arith) in
          rw x (joined 6 1638 7 (omega arith) (omega arith) (omega arith) (omega arith) tt refl 0 (omega arith) refl)

  one_told : Told (by_one all names own (t + u))
  unfolding by_one
  one_told = go (eqb (one_kinds (all / 4 % 32)) 0) (named all names) (ltb 8 (t + u)) refl refl refl
    where
      go : (a b c : Bool) → eqb (one_kinds (all / 4 % 32)) 0 ≡ a → named all names ≡ b → ltb 8 (t + u) ≡ c
          → Told (cond a unsettled (cond b (cond c (over (one_kinds (all / 4 % 32) % 65536)) (record {
            kinds = one_kinds (all / 4 % 32) % 65536;
            marks = own + cond (leb 2 (t + u)) (one_kinds (all / 4 % 32) / 65536) 0;
          })) unsettled))
      go true b c e n l = not_told
      go false false c e n l = not_told
      go false true c e n l = finish c l (by_any (all / 4 % 32) refl n (one_view (all / 4 % 32) (omega arith) (eqb-false _ 0 e)))
        where
          finish : (c : Bool) → ltb 8 (t + u) ≡ c → One (one_kinds (all / 4 % 32) % 65536) (one_kinds (all / 4 % 32) / 65536)
              → Told (cond c (over (one_kinds (all / 4 % 32) % 65536)) (record {
                kinds = one_kinds (all / 4 % 32) % 65536;
                marks = own + cond (leb 2 (t + u)) (one_kinds (all / 4 % 32) / 65536) 0;
              }))
          finish true l w = past_told _ (w.1 (ltb-true 8 (t + u) l))
          finish false l w =
              let b = one_most (all / 4 % 32) (omega arith) in
              whole_told _ _ (omega (arith, own_least, most (t + u) (one_kinds (all / 4 % 32) / 65536), b)) (w.0 (ltb-false 8 (t + u) l))

  -- what the roles tell, where they do
  pub settled : Told (settle_of (r 0) (r 1) (r 2) (r 3))
  unfolding settle_of
  settled = go (eqb (all % 2) 1) (eqb (pair_kinds pairs) 0) refl refl
    where
      go : (a b : Bool) → eqb (all % 2) 1 ≡ a → eqb (pair_kinds pairs) 0 ≡ b
          → Told (cond a (record { kinds = 0; marks = own }) (cond b (by_one all names own (t + u)) (by_pairs (pair_kinds pairs) own t u)))
      go true b e f = whole_told 0 own (omega (arith, own_least)) (by_alone (eqb-true _ 1 e))
      go false true e f = one_told
      go false false e f = pairs_told (eqb-false _ 0 f)
