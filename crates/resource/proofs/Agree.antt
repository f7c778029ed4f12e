-- The runs that the program finds are 01's spans, counted from the channel's lower edge, at every position of every bandwidth; and each
-- resource has as many subcarriers as its name says, in rising maximal runs.
use mathlib.Core.Path.{◌≡◌, refl, ap}
use mathlib.Core.Logic.{inl}
use mathlib.Core.Bool.{Bool, true, false, ◌&&◌}
use mathlib.Core.List.{List, [], ◌∷◌, map}
use Prim.Native.Nat.{ℕ, ◌+◌, ◌*◌, ◌^◌, ◌≤◌, ◌<◌}
use native.Mathlib.Omega.{arith}
use lib.Dec.{T, ltb, leb, eqb→eq, le→leb, ltb→lt}
use lib.IntN.{ℤ, pos, negsuc, nat_abs}
use lib.Signed.{le_z, le_z_yes, ≤ℤ_refl}
use Rattle.resource.specs.declared.Size.TheVariants.{S26, S52, S106, S242, S484, S996, S2x996}
use Rattle.resource.specs.declared.Pairing.{Pairing}
use Rattle.resource.specs.declared.Pairing.TheVariants.{P106And26, P484And242, P996And484, P3x996, P2x996And484, P3x996And484}
use Rattle.resource.specs.declared.Piece.{Piece}
use Rattle.resource.specs.declared.Resource.{Resource}
use Rattle.resource.specs.declared.Resource.TheVariants.{Single, Joined}
use Rattle.resource.specs.Names.{name_of}
use Rattle.resource.specs.Places.{places_of, segments_of}
use Rattle.resource.specs.Index.{index_of, resource_at, is_piece, joined_count, from_positions, exists, position_of, place_of}
use Rattle.resource.specs.Tones.{Span, sameℤ, tones_at, tones_leaving_out, tones_joined, tones_of, Among, how_many, above, rising, RightSpans}
use Rattle.resource.specs.Engine.{span_of, runs_of, places_runs, spread_runs, joined_runs, wide, wide_with26, narrow, narrow_with26}
use Rattle.resource.specs.Engine.{offset26, offset52, offset106, narrow26, narrow52, narrow106}
use Rattle.resource.proofs.Test.{both_left, both_right, wherever, met, below, every_below}
use Rattle.resource.proofs.Everywhere.{every_piece, at_piece, everywhere, at_position, every_segment, at_segment}

-- ---- equal by computation
same_eq : (a b : ℤ) → T (sameℤ a b) → a ≡ b
same_eq (pos a) (pos b) t = ap pos (eqb→eq a b t)
same_eq (pos a) (negsuc b) t = absurd t
same_eq (negsuc a) (pos b) t = absurd t
same_eq (negsuc a) (negsuc b) t = ap negsuc (eqb→eq a b t)

abbrev pub same_span : Span → Span → Bool
same_span s t = sameℤ s.lo t.lo && sameℤ s.hi t.hi

span_eq : (s t : Span) → T (same_span s t) → s ≡ t
span_eq s t h =
    let a = same_eq s.lo t.lo (both_left (sameℤ s.lo t.lo) (sameℤ s.hi t.hi) h) in
    let b = same_eq s.hi t.hi (both_right (sameℤ s.lo t.lo) (sameℤ s.hi t.hi) h) in
    (λ i. record { lo = a i; hi = b i })

abbrev pub same_spans : List Span → List Span → Bool
same_spans [] [] = true
same_spans [] (t ∷ ts) = false
same_spans (s ∷ ss) [] = false
same_spans (s ∷ ss) (t ∷ ts) = same_span s t && same_spans ss ts

spans_eq : (ss ts : List Span) → T (same_spans ss ts) → ss ≡ ts
spans_eq [] [] h = refl
spans_eq [] (t ∷ ts) h = absurd h
spans_eq (s ∷ ss) [] h = absurd h
spans_eq (s ∷ ss) (t ∷ ts) h =
    let a = span_eq s t (both_left (same_span s t) (same_spans ss ts) h) in
    let b = spans_eq ss ts (both_right (same_span s t) (same_spans ss ts) h) in
    (λ i. a i ∷ b i)

-- ---- a resource has some subcarrier
name_some : (r : Resource) → 0 < name_of r
name_some (Single S26 i) = omega arith
name_some (Single S52 i) = omega arith
name_some (Single S106 i) = omega arith
name_some (Single S242 i) = omega arith
name_some (Single S484 i) = omega arith
name_some (Single S996 i) = omega arith
name_some (Single S2x996 i) = omega arith
name_some (Joined P106And26 i) = omega arith
name_some (Joined P484And242 i) = omega arith
name_some (Joined P996And484 i) = omega arith
name_some (Joined P3x996 i) = omega arith
name_some (Joined P2x996And484 i) = omega arith
name_some (Joined P3x996And484 i) = omega arith

pub some_tone : (r : Resource) (ss : List Span) → RightSpans r ss → (k : ℤ) × Among k ss
some_tone r [] w = absurd (omega (arith, ap nat_abs w.named, name_some r))
some_tone r (s ∷ ss) w =
    let t = both_left (le_z s.lo s.hi) (above s.hi ss) (both_left (le_z s.lo s.hi && above s.hi ss) (rising ss) w.rises) in
    (s.lo, inl (≤ℤ_refl s.lo, le_z_yes t))

-- ---- the spans ss of resource r of segment g, in a channel of n positions, are its runs, and right
pub record Agrees (n g : ℕ) (r : Resource) (ss : List Span) : Type 0 where
  pub tones : ss ≡ map (span_of n) (runs_of n g r)
  pub right : RightSpans r ss

abbrev sized : Resource → List Span → Bool
sized r ss = sameℤ (how_many ss) (pos (name_of r)) && rising ss

abbrev agrees : ℕ → ℕ → Resource → List Span → Bool
agrees n g r ss = same_spans ss (map (span_of n) (runs_of n g r)) && sized r ss

agreed : (n g : ℕ) (r : Resource) (ss : List Span) → T (agrees n g r ss) → Agrees n g r ss
agreed n g r ss t =
    let a = same_spans ss (map (span_of n) (runs_of n g r)) in
    let b = sameℤ (how_many ss) (pos (name_of r)) in
    let u = both_right a (sized r ss) t in
    record {
      tones = spans_eq ss (map (span_of n) (runs_of n g r)) (both_left a (sized r ss) t);
      right = record {
        named = same_eq (how_many ss) (pos (name_of r)) (both_left b (rising ss) u);
        rises = both_right b (rising ss) u;
      };
    }

-- by a test of its size and index
abbrev pub agrees_test : ℕ → ℕ → Resource → Bool
agrees_test n g r = agrees n g r (tones_of n g r)

abbrev pub AgreesAt : ℕ → ℕ → Resource → Type 0
AgreesAt n g r = Agrees n g r (tones_of n g r)

pub tested_agrees : (n g : ℕ) (r : Resource) → T (agrees_test n g r) → AgreesAt n g r
tested_agrees n g r t = agreed n g r (tones_of n g r) t

-- ---- tested of every piece
abbrev agrees_piece : ℕ → ℕ → ℕ → Piece → Bool
agrees_piece n g p x = wherever (leb (from_positions x) n) (agrees n g (resource_at p x) (tones_at n g p x))

abbrev agrees_at : ℕ → ℕ → ℕ → Bool
agrees_at n g p = every_piece (agrees_piece n g p)

agree : T (everywhere agrees_at)
unfolding index_of resource_at is_piece from_positions position_of place_of tones_at runs_of places_runs spread_runs wide wide_with26 narrow narrow_with26
    offset26 offset52 offset106 narrow26 narrow52 narrow106
agree = tt

-- a piece that exists
pub piece_agrees : (b g p : ℕ) (x : Piece) → b < 5 → T (exists (2 ^ b) g p x) → Agrees (2 ^ b) g (resource_at p x) (tones_at (2 ^ b) g p x)
unfolding exists
piece_agrees b g p x h t =
    let n = 2 ^ b in
    let c = ltb p 4 && ltb (4 * g + p) n && leb (from_positions x) n in
    let d = ltb p 4 && ltb (4 * g + p) n in
    let u = both_left c (is_piece x) t in
    let w = both_left d (leb (from_positions x) n) u in
    let at = at_position agrees_at b g p agree h (ltb→lt p 4 (both_left (ltb p 4) (ltb (4 * g + p) n) w))
    (ltb→lt (4 * g + p) n (both_right (ltb p 4) (ltb (4 * g + p) n) w)) in
    agreed n g (resource_at p x) (tones_at n g p x)
    (met (leb (from_positions x) n) (agrees n g (resource_at p x) (tones_at n g p x))
    (at_piece (agrees_piece n g p) x at (both_right c (is_piece x) t))
    (both_right d (leb (from_positions x) n) u))

-- ---- size and index find the same subcarriers as position and place
abbrev founds : ℕ → ℕ → ℕ → Bool
founds n g p = every_piece (λ x. wherever (leb (from_positions x) n) (same_spans (tones_of n g (resource_at p x)) (tones_at n g p x)))

all_found : T (everywhere founds)
unfolding index_of resource_at is_piece from_positions position_of place_of tones_at tones_of
all_found = tt

pub tones_found : (b g p : ℕ) (x : Piece) → b < 5 → p < 4 → 4 * g + p < 2 ^ b → from_positions x ≤ 2 ^ b → T (is_piece x)
    → tones_of (2 ^ b) g (resource_at p x) ≡ tones_at (2 ^ b) g p x
tones_found b g p x h i j k t =
    let n = 2 ^ b in
    let f : Piece → Bool = λ y. wherever (leb (from_positions y) n) (same_spans (tones_of n g (resource_at p y)) (tones_at n g p y)) in
    spans_eq (tones_of n g (resource_at p x)) (tones_at n g p x)
    (met (leb (from_positions x) n) (same_spans (tones_of n g (resource_at p x)) (tones_at n g p x))
    (at_piece f x (at_position founds b g p all_found h i j) t) (le→leb (from_positions x) n k))

-- ---- tested of the wider resources, and of every joined one, of each segment that they lie among
abbrev joined_at : Pairing → ℕ → ℕ → Bool
joined_at w n g = below (λ k. agrees_test n g (Joined w (k + 1))) (joined_count w)

joined_tested : (w : Pairing) → T (every_segment (4 * segments_of w) (joined_at w))
unfolding joined_count segments_of places_of tones_of tones_at tones_leaving_out tones_joined runs_of places_runs joined_runs spread_runs wide_with26
joined_tested P106And26 = tt
joined_tested P484And242 = tt
joined_tested P996And484 = tt
joined_tested P3x996 = tt
joined_tested P2x996And484 = tt
joined_tested P3x996And484 = tt

doubles_tested : T (every_segment 8 (λ n g. agrees_test n g (Single S2x996 1)))
unfolding tones_of tones_at position_of place_of runs_of places_runs spread_runs
doubles_tested = tt

module _ (b g : ℕ) (h : b < 5) (i : 4 * g < 2 ^ b) where
  pub joined_agrees : (w : Pairing) (k : ℕ) → 4 * segments_of w ≤ 2 ^ b → k < joined_count w → AgreesAt (2 ^ b) g (Joined w (k + 1))
  joined_agrees w k j l =
      tested_agrees (2 ^ b) g (Joined w (k + 1))
      (every_below (λ k. agrees_test (2 ^ b) g (Joined w (k + 1))) (joined_count w)
      (at_segment (4 * segments_of w) (joined_at w) b g (joined_tested w) h i j) k l)

  pub double_agrees : 8 ≤ 2 ^ b → AgreesAt (2 ^ b) g (Single S2x996 1)
  double_agrees j =
      tested_agrees (2 ^ b) g (Single S2x996 1) (at_segment 8 (λ n g. agrees_test n g (Single S2x996 1)) b g doubles_tested h i j)
