-- The resource of a larger kind, and its subcarriers: they are those of its places, they lie in them, and they are those that 01 lists. The
-- only file of proofs that goes by the table's lines.
use mathlib.Core.Path.{◌≡◌, refl, sym, ◌∙◌, ap, ap₂}
use mathlib.Core.Logic.{◌≢◌, ◌⊎◌, inl, inr, ⊎_elim}
use mathlib.Core.Bool.{Bool, true, false, cond, not, ◌&&◌}
use mathlib.Core.List.{[], ◌∷◌}
use Prim.Native.Nat.{ℕ, zero, suc, ◌+◌, ◌-◌, ◌*◌, ◌/◌, ◌%◌, ◌^◌, ◌≤◌, ◌<◌}
use native.Mathlib.Omega.{arith}
use borrow.Author.Tests.{leb-true, le-leb, lt-leb, ltb-true, eq-eqb, ne_eqb}
use lib.Dec.{T, eqb, eqb→eq, leb, ltb, le→leb, lt→ltb}
use lib.ListN.{length}
use Rattle.resource.specs.declared.Size.TheVariants.{S242, S484, S996, S2x996}
use Rattle.resource.specs.declared.Pairing.{Pairing}
use Rattle.resource.specs.declared.Pairing.TheVariants.{P106And26, P484And242, P996And484, P3x996, P2x996And484, P3x996And484}
use Rattle.resource.specs.declared.Piece.{Piece}
use Rattle.resource.specs.declared.Piece.TheVariants.{Part}
use Rattle.resource.specs.declared.Resource.TheVariants.{Single, Joined}
use Rattle.resource.specs.Names.{joined_of, name_of, number_of}
use Rattle.resource.specs.Values.{set_at}
use Rattle.resource.specs.Places.{segments_of, places_of as joined_places}
use Rattle.resource.specs.Index.{index_of, is_piece, joined_count, from_positions, exists, resource_at, position_of, place_of}
use Rattle.resource.specs.Engine.{the242, wide, places_runs, spread_runs, joined_runs, runs_of}
use Rattle.resource.proofs.Test.{below_or, both_left, both_right, wherever, met, below, every_below}
use Rattle.resource.proofs.Places.{places_inside, Placed, spread_inside, spread_length, own_place, places_cover, spread_cover}
use Rattle.resource.proofs.Names.{same_named}
use Rattle.resource.proofs.Edge.{In}
use Rattle.resource.proofs.Agree.{AgreesAt, piece_agrees, joined_agrees, double_agrees, tones_found}
use Rattle.kinds.specs.Kinds.{kinds, kind_at, span, mask, takes}
use Rattle.kinds.specs.Signals.{Place}
use Rattle.kinds.proofs.Tests.{both, holds, is_true, equal_or}
use Rattle.kinds.proofs.Table.{spans, span_is, narrow_span, wide_span, span_some}
use Rattle.kinds.proofs.Places.{at_span, at_place, place_at, place_mod, place_segment}
use Rattle.records.specs.Records.{resource_column, larger}
use Rattle.records.specs.Engine.{places_of, larger_runs}

-- ---- the resource
-- a joined one, by its line: what it is, and the first line of these, from which its index counts
abbrev pub pairing_of : ℕ → Pairing
pairing_of c = cond (ltb c 8) P484And242 (cond (ltb c 12) P996And484 (cond (ltb c 16) P3x996 (cond (ltb c 24) P3x996And484 P2x996And484)))

abbrev pub first_line : ℕ → ℕ
first_line c = cond (ltb c 8) 3 (cond (ltb c 12) 8 (cond (ltb c 16) 12 (cond (ltb c 24) 16 24)))

abbrev line_of : ℕ → ℕ
line_of c = c - first_line c

abbrev is_joined : ℕ → Bool
is_joined c = leb 3 c && not (eqb c 7)

abbrev name_test : ℕ → ℕ → Bool
name_test q c =
    wherever (is_joined c) (eqb (name_of (larger c q)) (joined_of (pairing_of c)) && eqb (number_of (larger c q)) (line_of c + 1))

-- its places and its span are those of the table of kinds, and there are so many
abbrev agreeing : ℕ → Bool
agreeing c =
    eqb (joined_places (pairing_of c) (line_of c + 1)) (mask c)
    && (eqb (4 * segments_of (pairing_of c)) (span c) && ltb (line_of c) (joined_count (pairing_of c)))

abbrev place_test : ℕ → Bool
place_test c = wherever (is_joined c) (agreeing c)

names_tested : (q : ℕ) → T (below (name_test q) 36)
unfolding larger resource_column
names_tested q = tt

places_tested : T (below place_test 36)
unfolding joined_places segments_of joined_count mask span kind_at kinds
places_tested = tt

module _ (c : ℕ) (h : c < 36) (l : 3 ≤ c) (d : c ≢ 7) where
  joined : T (is_joined c)
  joined = both (leb 3 c) _ (le→leb 3 c l) (rw (ne_eqb c 7 d) tt)

  pub larger_joined : (q : ℕ) → larger c q ≡ Joined (pairing_of c) (line_of c + 1)
  larger_joined q =
      let t = met (is_joined c) _ (every_below (name_test q) 36 (names_tested q) c h) joined in
      let n = eqb (name_of (larger c q)) (joined_of (pairing_of c)) in
      same_named (larger c q) (Joined (pairing_of c) (line_of c + 1)) (eqb→eq _ _ (both_left n _ t)) (eqb→eq _ _ (both_right n _ t))

  line : T (agreeing c)
  line = met (is_joined c) _ (every_below place_test 36 places_tested c h) joined

  joined_mask : joined_places (pairing_of c) (line_of c + 1) ≡ mask c
  joined_mask = eqb→eq _ _ (both_left (eqb (joined_places (pairing_of c) (line_of c + 1)) (mask c)) _ line)

  rest : T (eqb (4 * segments_of (pairing_of c)) (span c) && ltb (line_of c) (joined_count (pairing_of c)))
  rest = both_right (eqb (joined_places (pairing_of c) (line_of c + 1)) (mask c)) _ line

  joined_span : 4 * segments_of (pairing_of c) ≡ span c
  joined_span = eqb→eq _ _ (both_left (eqb (4 * segments_of (pairing_of c)) (span c)) _ rest)

  joined_line : line_of c < joined_count (pairing_of c)
  joined_line = ltb-true _ _ (is_true _ (both_right (eqb (4 * segments_of (pairing_of c)) (span c)) _ rest))

  -- as the program finds it, its lines being those from a on
  pub joined_is : (q i : ℕ) (w : Pairing) (a : ℕ) → (pairing_of c ≡ w) × (first_line c ≡ a) → i ≡ c - a + 1 → Joined w i ≡ larger c q
  joined_is q i w a e g = ap₂ Joined (sym e.0) (g ∙ ap (λ (x : ℕ). c - x + 1) (sym e.1)) ∙ sym (larger_joined q)

-- ---- its places among those of its segment, where it is no wider: they depend on its position there alone
places_within : (c p : ℕ) → c < 7 → places_of c p ≡ places_of c (p % 4)
unfolding places_of
places_within c p h = ap (λ (s : ℕ). mask c * 2 ^ s) (go (span c) (spans c h))
  where
    go : (n : ℕ) → (n ≡ 1) ⊎ ((n ≡ 2) ⊎ (n ≡ 4)) → n * (p / n) % 4 ≡ n * (p % 4 / n) % 4
    go n (inl e) = rw e (omega arith)
    go n (inr (inl e)) = rw e (omega arith)
    go n (inr (inr e)) = rw e (omega arith)

-- these are four at most
mask_test : ℕ → Bool
mask_test c = leb (mask c) 15

masks_tested : T (below mask_test 7)
unfolding mask_test mask kind_at kinds
masks_tested = tt

pub narrow_mask : (c : ℕ) → c < 7 → mask c ≤ 15
unfolding mask_test
narrow_mask c h = leb-true _ _ (is_true _ (every_below mask_test 7 masks_tested c h))

-- ---- its subcarriers are those of its places
pub narrow_is : (c p : ℕ) → c < 7 → larger_runs c p ≡ places_runs (4 * (p / 4)) (places_of c p)
unfolding larger_runs
narrow_is c p h = rw (le-leb (span c) 4 (narrow_span c h))

wide_least : (c : ℕ) → c < 36 → 7 ≤ c → 8 ≤ span c
wide_least c h l = ⊎_elim (λ e. omega arith) (λ e. omega arith) (wide_span c h l)

pub wide_is : (c p : ℕ) → c < 36 → 7 ≤ c → larger_runs c p ≡ spread_runs (span c * (p / span c)) (mask c) (span c / 4)
unfolding larger_runs
wide_is c p h l = rw (lt-leb (span c) 4 (omega (arith, wide_least c h l)))

runs_at : (c n g q : ℕ) → c < 7 → c ≢ 0 → q < 4 → runs_of n g (larger c q) ≡ places_runs (4 * g) (places_of c q)
unfolding larger resource_column resource_at index_of runs_of places_of mask span kind_at kinds
runs_at zero n g q h d l = absurd (d refl)
runs_at (suc zero) n g q h d l = ap (places_runs (4 * g)) (pair q l)
  where
    pair : (q : ℕ) → q < 4 → 3 * 4 ^ (q / 2 + 1 - 1) ≡ 3 * 2 ^ (2 * (q / 2) % 4)
    pair zero l = refl
    pair (suc zero) l = refl
    pair (suc (suc zero)) l = refl
    pair (suc (suc (suc zero))) l = refl
    pair (suc (suc (suc (suc q)))) l = absurd (omega arith)
runs_at (suc (suc zero)) n g q h d l = let e : 4 * (q / 4) % 4 ≡ 0 = omega arith in rw e
runs_at (suc (suc (suc zero))) n g q h d l = let e : 4 * (q / 4) % 4 ≡ 0 = omega arith in rw e
runs_at (suc (suc (suc (suc zero)))) n g q h d l = let e : 4 * (q / 4) % 4 ≡ 0 = omega arith in rw e
runs_at (suc (suc (suc (suc (suc zero))))) n g q h d l = let e : 4 * (q / 4) % 4 ≡ 0 = omega arith in rw e
runs_at (suc (suc (suc (suc (suc (suc zero)))))) n g q h d l = let e : 4 * (q / 4) % 4 ≡ 0 = omega arith in rw e
runs_at (suc (suc (suc (suc (suc (suc (suc c))))))) n g q h d l = absurd (omega arith)

narrow_runs : (c n p : ℕ) → c < 7 → c ≢ 0 → runs_of n (p / 4) (larger c (p % 4)) ≡ larger_runs c p
narrow_runs c n p h d =
    runs_at c n (p / 4) (p % 4) h d (omega arith) ∙ ap (places_runs (4 * (p / 4))) (sym (places_within c p h)) ∙ sym (narrow_is c p h)

larger_double : (q : ℕ) → larger 7 q ≡ Single S2x996 1
unfolding larger resource_column resource_at index_of
larger_double q = refl

double_runs : (n p : ℕ) → runs_of n (p / 4) (larger 7 (p % 4)) ≡ spread_runs (span 7 * (p / span 7)) (mask 7) (span 7 / 4)
unfolding runs_of mask span kind_at kinds
double_runs n p = let e : 8 * (p / 4 / 2) ≡ 8 * (p / 8) = omega arith in ap (runs_of n (p / 4)) (larger_double (p % 4)) ∙ rw e

-- a joined one of several segments
joined_runs_lem : (n g i : ℕ) (w : Pairing) → 2 ≤ segments_of w → runs_of n g (Joined w i) ≡ joined_runs g w i
unfolding segments_of runs_of
joined_runs_lem n g i P106And26 h = absurd (omega arith)
joined_runs_lem n g i P484And242 h = absurd (omega arith)
joined_runs_lem n g i P996And484 h = refl
joined_runs_lem n g i P3x996 h = refl
joined_runs_lem n g i P2x996And484 h = refl
joined_runs_lem n g i P3x996And484 h = refl

-- where its segments begin
first_place : (p s n : ℕ) → 4 * s ≡ n → (n ≡ 8) ⊎ (n ≡ 16) → 4 * (s * (p / 4 / s)) ≡ n * (p / n)
first_place p s n e (inl f) = let g : s ≡ 2 = omega arith in rw (f, g) (omega arith)
first_place p s n e (inr f) = let g : s ≡ 4 = omega arith in rw (f, g) (omega arith)

several_runs : (c n p : ℕ) → c < 36 → 7 ≤ c → c ≢ 7 → runs_of n (p / 4) (larger c (p % 4)) ≡ spread_runs (span c * (p / span c)) (mask c) (span c / 4)
unfolding joined_runs
several_runs c n p h l d =
    let w = pairing_of c in
    let s = joined_span c h (omega arith) d in
    let t = wide_span c h l in
    let two : 2 ≤ segments_of w = omega (arith, wide_least c h l) in
    let quarter : segments_of w ≡ span c / 4 = omega arith in
    ap (runs_of n (p / 4)) (larger_joined c h (omega arith) d (p % 4))
    ∙ joined_runs_lem n (p / 4) (line_of c + 1) w two
    ∙ rw (joined_mask c h (omega arith) d, first_place p (segments_of w) (span c) s t, ← quarter)

wide_runs : (c n p : ℕ) → c < 36 → 7 ≤ c → runs_of n (p / 4) (larger c (p % 4)) ≡ larger_runs c p
wide_runs c n p h l =
    ⊎_elim (λ (e : c ≡ 7). rw e (double_runs n p)) (several_runs c n p h l) (equal_or c 7) ∙ sym (wide_is c p h l)

pub larger_runs_lem : (c n p : ℕ) → c < 36 → c ≢ 0 → runs_of n (p / 4) (larger c (p % 4)) ≡ larger_runs c p
larger_runs_lem c n p h d = ⊎_elim (λ l. narrow_runs c n p l d) (λ l. wide_runs c n p h l) (below_or c 7)

-- at most eight
few_test : ℕ → Bool
few_test c = leb (length (spread_runs 0 (mask c) (span c / 4))) 8

fews_tested : T (below few_test 36)
unfolding few_test spread_runs places_runs mask span kind_at kinds
fews_tested = tt

pub wide_few : (c b : ℕ) → c < 36 → length (spread_runs b (mask c) (span c / 4)) ≤ 8
unfolding few_test
wide_few c b h = rw (spread_length (span c / 4) b 0 (mask c)) (leb-true _ _ (is_true _ (every_below few_test 36 fews_tested c h)))

-- ---- and lie in them, and have all of each place's 242
abbrev in_span : ℕ → ℕ → ℕ → Bool
in_span c q j = eqb (j / span c) (q / span c) && takes c (j % span c)

abbrev inside_test : ℕ → ℕ → ℕ → Bool
inside_test c q j = wherever (set_at j (places_of c q)) (in_span c q j) && wherever (in_span c q j) (set_at j (places_of c q))

insides_tested : T (below (λ c. below (λ q. below (inside_test c q) 4) 4) 7)
unfolding places_of takes mask span kind_at kinds
insides_tested = tt

-- positions v and p of one segment that lie in one span there
one_span : (v p : ℕ) → v / 4 ≡ p / 4 → (n : ℕ) → (n ≡ 1) ⊎ ((n ≡ 2) ⊎ (n ≡ 4)) → v % 4 / n ≡ p % 4 / n → v / n ≡ p / n
one_span v p e n (inl f) w = let x = rw f at w in rw f (omega arith)
one_span v p e n (inr (inl f)) w = let x = rw f at w in rw f (omega arith)
one_span v p e n (inr (inr f)) w = rw f e

one_place : (v n : ℕ) → (n ≡ 1) ⊎ ((n ≡ 2) ⊎ (n ≡ 4)) → v % 4 % n ≡ v % n
one_place v n (inl f) = rw f (omega arith)
one_place v n (inr (inl f)) = rw f (omega arith)
one_place v n (inr (inr f)) = rw f (omega arith)

inside_line : (c q j : ℕ) → c < 7 → q < 4 → j < 4 → T (inside_test c q j)
inside_line c q j h k l =
    every_below (inside_test c q) 4
    (every_below (λ q. below (inside_test c q) 4) 4 (every_below (λ c. below (λ q. below (inside_test c q) 4) 4) 7 insides_tested c h) q k) j l

narrow_inside : (c p u : ℕ) → c < 7 → In u (larger_runs c p) → Place c p (u / 256)
narrow_inside c p u h t =
    let v = u / 256 in
    let w = places_inside (p / 4) (places_of c p) u (rw (narrow_is c p h) at t) in
    let s = eqb (v % 4 / span c) (p % 4 / span c) in
    let y = met (set_at (v % 4) (places_of c (p % 4))) (in_span c (p % 4) (v % 4))
    (both_left (wherever (set_at (v % 4) (places_of c (p % 4))) (in_span c (p % 4) (v % 4))) _ (inside_line c (p % 4) (v % 4) h (omega arith) (omega arith)))
    (rw (places_within c p h) at w.1) in
    (one_span v p w.0 (span c) (spans c h) (eqb→eq _ _ (both_left s _ y)), rw (← one_place v (span c) (spans c h)) (is_true _ (both_right s _ y)))

-- positions of one segment and of one span, seen from their segment
span_within_four : (v p n : ℕ) → (n ≡ 1) ⊎ ((n ≡ 2) ⊎ (n ≡ 4)) → v / n ≡ p / n → v % 4 / n ≡ p % 4 / n
span_within_four v p n (inl f) w = let x = rw f at w in rw f (omega arith)
span_within_four v p n (inr (inl f)) w = let x = rw f at w in rw f (omega arith)
span_within_four v p n (inr (inr f)) w = rw f (omega arith)

narrow_cover : (c p q u : ℕ) → c < 7 → Place c p q → In u (the242 q ∷ []) → In u (larger_runs c p)
narrow_cover c p q u h w t =
    let here : q / 4 ≡ p / 4 = place_segment c p q h w in
    let e : 4 * (p / 4) + q % 4 ≡ q = omega arith in
    let own : T (in_span c (p % 4) (q % 4)) =
    both (eqb (q % 4 / span c) (p % 4 / span c)) _ (holds _ (eq-eqb _ _ (span_within_four q p (span c) (spans c h) w.0)))
    (rw (one_place q (span c) (spans c h)) (holds _ w.1)) in
    let y : T (set_at (q % 4) (places_of c (p % 4))) =
    met (in_span c (p % 4) (q % 4)) (set_at (q % 4) (places_of c (p % 4)))
    (both_right (wherever (set_at (q % 4) (places_of c (p % 4))) (in_span c (p % 4) (q % 4))) _ (inside_line c (p % 4) (q % 4) h (omega arith) (omega arith)))
    own in
    rw (narrow_is c p h) (places_cover (p / 4) (places_of c p) (q % 4) u (omega arith) (rw (places_within c p h) y) (rw e t))

wide_inside : (c p u : ℕ) → c < 36 → 7 ≤ c → In u (larger_runs c p) → Place c p (u / 256)
unfolding takes
wide_inside c p u h l t = go (spread_inside (span c / 4) g (mask c) u (rw (wide_is c p h l, from) at t))
  where
    g : ℕ
    g = span c * (p / span c) / 4

    from : span c * (p / span c) ≡ 4 * g
    from = ⊎_elim (λ e. rw e (omega arith)) (λ e. rw e (omega arith)) (wide_span c h l)

    go : (j : ℕ) × Placed g (mask c) (span c / 4) u j → Place c p (u / 256)
    go (j, w) =
        let k : j < span c = ⊎_elim (λ e. omega (arith, w.among)) (λ e. omega (arith, w.among)) (wide_span c h l) in
        let e : u / 256 ≡ span c * (p / span c) + j = w.there ∙ ap (λ (x : ℕ). x + j) (sym from) in
        rw e (at_span (span c) (span_some c h) p j k, rw (at_place (span c) (span_some c h) p j k) (is_true _ w.own))

wide_cover : (c p q u : ℕ) → c < 36 → 7 ≤ c → Place c p q → In u (the242 q ∷ []) → In u (larger_runs c p)
unfolding takes
wide_cover c p q u h l w t =
    let g = span c * (p / span c) / 4 in
    let from : span c * (p / span c) ≡ 4 * g = ⊎_elim (λ e. rw e (omega arith)) (λ e. rw e (omega arith)) (wide_span c h l) in
    let k : q % span c < 4 * (span c / 4) =
    ⊎_elim (λ e. omega (arith, place_mod c q h)) (λ e. omega (arith, place_mod c q h)) (wide_span c h l) in
    let e : 4 * g + q % span c ≡ q = sym (place_at c p q w ∙ ap (λ (x : ℕ). x + q % span c) from) in
    rw (wide_is c p h l, from) (spread_cover (span c / 4) g (mask c) (q % span c) u k (holds _ w.1) (rw e t))

pub larger_inside : (c n p u : ℕ) → c < 36 → c ≢ 0 → In u (runs_of n (p / 4) (larger c (p % 4))) → Place c p (u / 256)
larger_inside c n p u h d t =
    let i = rw (larger_runs_lem c n p h d) at t in
    ⊎_elim (λ l. narrow_inside c p u l i) (λ l. wide_inside c p u h l i) (below_or c 7)

pub larger_cover : (c n p q u : ℕ) → c < 36 → c ≢ 0 → Place c p q → In u (the242 q ∷ []) → In u (runs_of n (p / 4) (larger c (p % 4)))
larger_cover c n p q u h d w t =
    rw (larger_runs_lem c n p h d) (⊎_elim (λ l. narrow_cover c p q u l w t) (λ l. wide_cover c p q u h l w t) (below_or c 7))

-- what is larger than a position takes more than one
pub larger_span : (c : ℕ) → c < 36 → c ≢ 0 → 2 ≤ span c
larger_span c h d = rw (span_is c h) (go (ltb c 2) (ltb c 7) (ltb c 12))
  where
    go : (s t u : Bool) → 2 ≤ cond s (c + 1) (cond t 4 (cond u 8 16))
    go true t u = ⊎_elim (λ (l : c < 1). absurd (d (omega arith))) (λ (l : 1 ≤ c). omega arith) (below_or c 1)
    go false true u = omega arith
    go false false true = omega arith
    go false false false = omega arith

-- from 40 MHz the 242 of a position is one run
pub runs_242 : (n q : ℕ) → 1 < n → runs_of n (q / 4) (resource_at (q % 4) (Part S242 1)) ≡ the242 q ∷ []
unfolding runs_of resource_at index_of position_of place_of wide
runs_242 n q h =
    let e : 4 * (q / 4) + (q % 4 + 1 - 1) ≡ q = omega arith in
    rw (ne_eqb n 1 (λ z. omega arith), e) (own_place q)

-- ---- and they are those that 01 lists
pub is_there : (n g p : ℕ) (x : Piece) → p < 4 → 4 * g + p < n → from_positions x ≤ n → T (is_piece x) → T (exists n g p x)
unfolding exists
is_there n g p x h i j t =
    both (ltb p 4 && ltb (4 * g + p) n && leb (from_positions x) n) (is_piece x)
    (both (ltb p 4 && ltb (4 * g + p) n) (leb (from_positions x) n)
    (both (ltb p 4) (ltb (4 * g + p) n) (lt→ltb p 4 h) (lt→ltb (4 * g + p) n i)) (le→leb (from_positions x) n j)) t

module _ (b : ℕ) (h : b < 5) where
  pub piece_there : (p : ℕ) (x : Piece) → p < 2 ^ b → from_positions x ≤ 2 ^ b → T (is_piece x) → AgreesAt (2 ^ b) (p / 4) (resource_at (p % 4) x)
  piece_there p x l k t =
      rw (tones_found b (p / 4) (p % 4) x h (omega arith) (omega arith) k t)
      (piece_agrees b (p / 4) (p % 4) x h (is_there (2 ^ b) (p / 4) (p % 4) x (omega arith) (omega arith) k t))

  -- the single ones of a segment
  plain_agrees : (c p : ℕ) → c < 3 → p < 2 ^ b → span c ≤ 2 ^ b → AgreesAt (2 ^ b) (p / 4) (larger c (p % 4))
  unfolding larger resource_column is_piece from_positions span kind_at kinds
  plain_agrees zero p i l k = piece_there p (Part S242 1) l k tt
  plain_agrees (suc zero) p i l k = piece_there p (Part S484 1) l k tt
  plain_agrees (suc (suc zero)) p i l k = piece_there p (Part S996 1) l k tt
  plain_agrees (suc (suc (suc c))) p i l k = absurd (omega arith)

  pub larger_agrees : (c p : ℕ) → c < 36 → p < 2 ^ b → span c * (p / span c) + span c ≤ 2 ^ b → AgreesAt (2 ^ b) (p / 4) (larger c (p % 4))
  larger_agrees c p i l r =
      ⊎_elim (λ k. plain_agrees c p k l (omega arith))
      (λ k. ⊎_elim
      (λ (e : c ≡ 7). rw (e, larger_double (p % 4)) (double_agrees b (p / 4) h (omega arith) (omega (arith, wide_least c i (omega arith)))))
      (λ (d : c ≢ 7). rw (larger_joined c i k d (p % 4))
      (joined_agrees b (p / 4) h (omega arith) (pairing_of c) (line_of c) (omega (arith, joined_span c i k d)) (joined_line c i k d)))
      (equal_or c 7))
      (below_or c 3)
