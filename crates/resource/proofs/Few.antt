-- A resource has at most eight of 01's spans, whatever its index says; one that lies in a segment at most four.
use mathlib.Core.Bool.{Bool, true, false, cond}
use mathlib.Core.List.{List, [], ◌∷◌}
use Prim.Native.Nat.{ℕ, zero, suc, ◌+◌, ◌-◌, ◌*◌, ◌/◌, ◌%◌, ◌≤◌}
use native.Mathlib.Omega.{arith}
use lib.Dec.{eqb}
use lib.ListN.{length, length-append}
use lib.IntN.{suc_ℤ}
use Rattle.resource.specs.declared.Size.TheVariants.{S26, S52, S106, S242, S484, S996, S2x996}
use Rattle.resource.specs.declared.Piece.{Piece}
use Rattle.resource.specs.declared.Piece.TheVariants.{Part, With26}
use Rattle.resource.specs.declared.Pairing.{Pairing}
use Rattle.resource.specs.declared.Pairing.TheVariants.{P106And26, P484And242, P996And484, P3x996, P2x996And484, P3x996And484}
use Rattle.resource.specs.declared.Resource.{Resource}
use Rattle.resource.specs.declared.Resource.TheVariants.{Single, Joined}
use Rattle.resource.specs.Places.{all, pair, segments_of, places_of}
use Rattle.resource.specs.Index.{position_of, place_of}
use Rattle.resource.specs.Tones.{Span, ◌to◌, sameℤ, onto, maximal, the242, the484}
use Rattle.resource.specs.Tones.{wide_tones, narrow_tones, leaving_out_tones, part_tones, spread_tones, tones_at, tones_leaving_out, tones_joined, tones_of}

either : (m : ℕ) (t : Bool) (a b : List Span) → length a ≤ m → length b ≤ m → length (cond t a b) ≤ m
either m true a b h l = h
either m false a b h l = l

onto_few : (s : Span) (ss : List Span) → length (onto s ss) ≤ suc (length ss)
onto_few s [] = omega arith
onto_few s (t ∷ ss) = either (suc (suc (length ss))) (sameℤ (suc_ℤ s.hi) t.lo) (s.lo to t.hi ∷ ss) (s ∷ t ∷ ss) (omega arith) (omega arith)

maximal_few : (ss : List Span) → length (maximal ss) ≤ length ss
maximal_few [] = omega arith
maximal_few (s ∷ ss) = omega (arith, onto_few s (maximal ss), maximal_few ss)

narrow_few : (x : Piece) → length (narrow_tones x) ≤ 4
narrow_few (Part S26 i) = either 4 (eqb i 5) _ _ (omega arith) (omega arith)
narrow_few (Part S52 i) = omega arith
narrow_few (Part S106 i) = omega arith
narrow_few (Part S242 i) = omega arith
narrow_few (Part S484 i) = omega arith
narrow_few (Part S996 i) = omega arith
narrow_few (Part S2x996 i) = omega arith
narrow_few (With26 i) = either 4 (eqb i 1) _ _ (omega arith) (omega arith)

wide_few : (n g p : ℕ) (x : Piece) → length (wide_tones n g p x) ≤ 4
wide_few n g p (Part S26 i) = omega arith
wide_few n g p (Part S52 i) = omega arith
wide_few n g p (Part S106 i) = omega arith
wide_few n g p (Part S242 i) = omega arith
wide_few n g p (Part S484 i) = omega arith
wide_few n g p (Part S996 i) = omega arith
wide_few n g p (Part S2x996 i) = omega arith
wide_few n g p (With26 i) = either 4 (eqb i 1) _ _ (omega arith) (omega arith)

out_few : (n g k : ℕ) → length (leaving_out_tones n g k) ≤ 4
out_few n g k =
    simp length-append
    (omega (arith, one (eqb k 0) (the242 n g 0), one (eqb k 1) (the242 n g 1), one (eqb k 2) (the242 n g 2), one (eqb k 3) (the242 n g 3)))
  where
    one : (t : Bool) (s : Span) → length (cond t [] (s ∷ [])) ≤ 1
    one true s = omega arith
    one false s = omega arith

at_few : (n g p : ℕ) (x : Piece) → length (tones_at n g p x) ≤ 4
unfolding tones_at
at_few n g p x =
    let ss = cond (eqb n 1) (narrow_tones x) (wide_tones n g p x) in
    let h : length ss ≤ 4 = either 4 (eqb n 1) (narrow_tones x) (wide_tones n g p x) (narrow_few x) (wide_few n g p x) in
    omega (arith, maximal_few ss)

-- two in each segment
part_few : (n g m : ℕ) → length (part_tones n g m) ≤ 2
part_few n g m =
    either 2 (eqb m (all 4)) _ _ (omega arith)
    (either 2 (eqb m (pair 0)) _ _ (omega arith) (either 2 (eqb m (pair 1)) (the484 n g 2) [] (omega arith) (omega arith)))

spread_few : (n g m s : ℕ) → length (spread_tones n g m s) ≤ 2 * s
spread_few n g m zero = omega arith
spread_few n g m (suc s) = simp length-append (omega (arith, part_few n g (m % 16), spread_few n (g + 1) (m / 16) s))

segments_most : (w : Pairing) → segments_of w ≤ 4
unfolding segments_of
segments_most P106And26 = omega arith
segments_most P484And242 = omega arith
segments_most P996And484 = omega arith
segments_most P3x996 = omega arith
segments_most P2x996And484 = omega arith
segments_most P3x996And484 = omega arith

joined_few : (n g : ℕ) (w : Pairing) (i : ℕ) → length (tones_joined n g w i) ≤ 8
unfolding tones_joined
joined_few n g w i =
    let from = segments_of w * (g / segments_of w) in
    omega (
      arith,
      maximal_few (spread_tones n from (places_of w i) (segments_of w)),
      spread_few n from (places_of w i) (segments_of w),
      segments_most w,
    )

pub tones_few : (n g : ℕ) (r : Resource) → length (tones_of n g r) ≤ 8
unfolding tones_of tones_leaving_out
tones_few n g (Single s i) = omega (arith, at_few n g (position_of s i) (Part s (place_of s i + 1)))
tones_few n g (Joined P106And26 i) = omega (arith, at_few n g ((i - 1) / 2) (With26 ((i - 1) % 2 + 1)))
tones_few n g (Joined P484And242 i) = omega (arith, maximal_few (leaving_out_tones n g (i - 1)), out_few n g (i - 1))
tones_few n g (Joined P996And484 i) = joined_few n g P996And484 i
tones_few n g (Joined P3x996 i) = joined_few n g P3x996 i
tones_few n g (Joined P2x996And484 i) = joined_few n g P2x996And484 i
tones_few n g (Joined P3x996And484 i) = joined_few n g P3x996And484 i
