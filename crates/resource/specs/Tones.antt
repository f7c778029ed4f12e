-- The subcarriers of a resource, as 01 lists them ("Index and subcarriers"): signed numbers, 0 at the channel's centre.
use Rattle.std.specs.Prelude.{
  ◌≡◌,
  ◌⊎◌,
  Bool,
  true,
  false,
  cond,
  ◌&&◌,
  List,
  [],
  ◌∷◌,
  ◌++◌,
  ℕ,
  zero,
  suc,
  ◌+◌,
  ◌-◌,
  ◌*◌,
  ◌/◌,
  ◌%◌,
  eqb,
  T,
  ℤ,
  pos,
  negsuc,
  neg_ℤ,
  ◌+ℤ◌,
  ◌-ℤ◌,
  ◌≤ℤ◌,
  get_or,
}
use Rattle.std.proofs.Math.IntN.{suc_ℤ}
use Rattle.std.specs.Int.Signed.{le_z, lt_z}
use Rattle.resource.specs.declared.Size.{Size}
use Rattle.resource.specs.declared.Size.TheVariants.{S26, S52, S106, S242, S484, S996, S2x996}
use Rattle.resource.specs.declared.Piece.{Piece}
use Rattle.resource.specs.declared.Piece.TheVariants.{Part, With26}
use Rattle.resource.specs.declared.Pairing.{Pairing}
use Rattle.resource.specs.declared.Pairing.TheVariants.{P106And26, P484And242, P996And484, P3x996, P2x996And484, P3x996And484}
use Rattle.resource.specs.declared.Resource.{Resource}
use Rattle.resource.specs.declared.Resource.TheVariants.{Single, Joined}
use Rattle.resource.specs.Names.{name_of}
use Rattle.resource.specs.Places.{all, pair, places_of, segments_of}
use Rattle.resource.specs.Index.{position_of, place_of}

-- the subcarriers from lo to hi
pub record Span : Type 0 where
  pub lo : ℤ
  pub hi : ℤ

abbrev pub minus : ℕ → ℤ
minus n = neg_ℤ (pos n)

infix 70 ◌to◌
abbrev pub ◌to◌ : ℤ → ℤ → Span
a to b = record { lo = a; hi = b }

abbrev pub no_span : Span
no_span = pos 1 to pos 0

abbrev pub shifted : ℤ → Span → Span
shifted k s = (k +ℤ s.lo) to (k +ℤ s.hi)

-- the i-th of a list, from 1
abbrev pub span_at : List Span → ℕ → Span
span_at l i = get_or l (i - 1) no_span

-- ---- "Tones are maximal runs, rising": a run that the next one touches goes on in it
abbrev pub sameℤ : ℤ → ℤ → Bool
sameℤ (pos a) (pos b) = eqb a b
sameℤ (pos a) (negsuc b) = false
sameℤ (negsuc a) (pos b) = false
sameℤ (negsuc a) (negsuc b) = eqb a b

abbrev pub onto : Span → List Span → List Span
onto s [] = s ∷ []
onto s (t ∷ ts) = cond (sameℤ (suc_ℤ s.hi) t.lo) (s.lo to t.hi ∷ ts) (s ∷ t ∷ ts)

abbrev pub maximal : List Span → List Span
maximal [] = []
maximal (s ∷ ss) = onto s (maximal ss)

-- ---- "From 40 MHz, offsets from a 242's lowest subcarrier"
abbrev pub offsets : Size → List Span
-- "26s at 1-26, 27-52, 55-80, 81-106, 108-133, 135-160, 161-186, 189-214, 215-240"
offsets S26 =
    pos 1 to pos 26
    ∷ pos 27 to pos 52
    ∷ pos 55 to pos 80
    ∷ pos 81 to pos 106
    ∷ pos 108 to pos 133
    ∷ pos 135 to pos 160
    ∷ pos 161 to pos 186
    ∷ pos 189 to pos 214
    ∷ pos 215 to pos 240
    ∷ []
-- "52s at 1-52, 55-106, 135-186, 189-240"
offsets S52 = pos 1 to pos 52 ∷ pos 55 to pos 106 ∷ pos 135 to pos 186 ∷ pos 189 to pos 240 ∷ []
-- "106s at 1-106, 135-240"
offsets S106 = pos 1 to pos 106 ∷ pos 135 to pos 240 ∷ []
offsets S242 = pos 0 to pos 241 ∷ []
offsets S484 = []
offsets S996 = []
offsets S2x996 = []

-- "Lowest subcarriers of the 242s: 40 MHz -244, 3"
abbrev pub lowest40 : List ℤ
lowest40 = minus 244 ∷ pos 3 ∷ []

-- "a segment -500, -253, 12, 259 from its centre"
abbrev pub lowest_from_centre : List ℤ
lowest_from_centre = minus 500 ∷ minus 253 ∷ pos 12 ∷ pos 259 ∷ []

-- "Segment centres: 0; -512, 512; -1536, -512, 512, 1536", of a channel of n positions
abbrev pub centres : ℕ → List ℤ
centres n =
    cond (eqb n 16) (minus 1536 ∷ minus 512 ∷ pos 512 ∷ pos 1536 ∷ [])
    (cond (eqb n 8) (minus 512 ∷ pos 512 ∷ []) (pos 0 ∷ []))

abbrev pub centre : ℕ → ℕ → ℤ
centre n g = get_or (centres n) g (pos 0)

-- the lowest subcarrier of the 242 at position p of segment g
abbrev pub lowest : ℕ → ℕ → ℕ → ℤ
lowest n g p = cond (eqb n 2) (get_or lowest40 p (pos 0)) (centre n g +ℤ get_or lowest_from_centre p (pos 0))

-- the 242 at position p
abbrev pub the242 : ℕ → ℕ → ℕ → Span
the242 n g p = shifted (lowest n g p) (pos 0 to pos 241)

-- "484 is its two 242s": the one that has position p
abbrev pub the484 : ℕ → ℕ → ℕ → List Span
the484 n g p = the242 n g (2 * (p / 2)) ∷ the242 n g (2 * (p / 2) + 1) ∷ []

-- "996 is -500 to -3 and 3 to 500"
abbrev pub the996 : ℕ → ℕ → List Span
the996 n g = shifted (centre n g) (minus 500 to minus 3) ∷ shifted (centre n g) (pos 3 to pos 500) ∷ []

abbrev pub wide_tones : ℕ → ℕ → ℕ → Piece → List Span
wide_tones n g p (Part S26 i) = shifted (lowest n g p) (span_at (offsets S26) i) ∷ []
wide_tones n g p (Part S52 i) = shifted (lowest n g p) (span_at (offsets S52) i) ∷ []
wide_tones n g p (Part S106 i) = shifted (lowest n g p) (span_at (offsets S106) i) ∷ []
wide_tones n g p (Part S242 i) = the242 n g p ∷ []
wide_tones n g p (Part S484 i) = the484 n g p
wide_tones n g p (Part S996 i) = the996 n g
-- a 2x996 is the two 996s of its 160 MHz
wide_tones n g p (Part S2x996 i) = the996 n (2 * (g / 2)) ++ the996 n (2 * (g / 2) + 1)
-- "A 106+26 takes the middle 26"
wide_tones n g p (With26 i) =
    cond (eqb i 1)
    (shifted (lowest n g p) (span_at (offsets S106) 1) ∷ shifted (lowest n g p) (span_at (offsets S26) 5) ∷ [])
    (shifted (lowest n g p) (span_at (offsets S26) 5) ∷ shifted (lowest n g p) (span_at (offsets S106) 2) ∷ [])

-- "484+242 its three": all but the position k that is left out
abbrev pub leaving_out_tones : ℕ → ℕ → ℕ → List Span
leaving_out_tones n g k =
    cond (eqb k 0) [] (the242 n g 0 ∷ [])
    ++ cond (eqb k 1) [] (the242 n g 1 ∷ [])
    ++ cond (eqb k 2) [] (the242 n g 2 ∷ [])
    ++ cond (eqb k 3) [] (the242 n g 3 ∷ [])

-- ---- "At 20 MHz"
-- "26s at -121:-96, -95:-70, -68:-43, -42:-17, -16:-4 with 4:16, then 17:42, 43:68, 70:95, 96:121"
abbrev pub middle20 : List Span
middle20 = minus 16 to minus 4 ∷ pos 4 to pos 16 ∷ []

abbrev pub lower26s : List Span
lower26s = minus 121 to minus 96 ∷ minus 95 to minus 70 ∷ minus 68 to minus 43 ∷ minus 42 to minus 17 ∷ []

abbrev pub upper26s : List Span
upper26s = pos 17 to pos 42 ∷ pos 43 to pos 68 ∷ pos 70 to pos 95 ∷ pos 96 to pos 121 ∷ []

-- "52s -121:-70, -68:-17, 17:68, 70:121"
abbrev pub the52s : List Span
the52s = minus 121 to minus 70 ∷ minus 68 to minus 17 ∷ pos 17 to pos 68 ∷ pos 70 to pos 121 ∷ []

-- "106s -122:-17, 17:122"
abbrev pub the106s : List Span
the106s = minus 122 to minus 17 ∷ pos 17 to pos 122 ∷ []

abbrev pub narrow26 : ℕ → List Span
narrow26 i = cond (eqb i 5) middle20 (span_at (lower26s ++ (no_span ∷ upper26s)) i ∷ [])

abbrev pub narrow_tones : Piece → List Span
narrow_tones (Part S26 i) = narrow26 i
narrow_tones (Part S52 i) = span_at the52s i ∷ []
narrow_tones (Part S106 i) = span_at the106s i ∷ []
-- "242 -122:-2 with 2:122"
narrow_tones (Part S242 i) = minus 122 to minus 2 ∷ pos 2 to pos 122 ∷ []
narrow_tones (Part S484 i) = []
narrow_tones (Part S996 i) = []
narrow_tones (Part S2x996 i) = []
narrow_tones (With26 i) = cond (eqb i 1) (span_at the106s 1 ∷ middle20) (middle20 ++ (span_at the106s 2 ∷ []))

-- the subcarriers of the piece x at position p of segment g, in a channel of n positions
unfoldable pub tones_at : ℕ → ℕ → ℕ → Piece → List Span
tones_at n g p x = maximal (cond (eqb n 1) (narrow_tones x) (wide_tones n g p x))

-- the subcarriers of the 484+242 of segment g that leaves out position k
unfoldable pub tones_leaving_out : ℕ → ℕ → ℕ → List Span
tones_leaving_out n g k = maximal (leaving_out_tones n g k)

-- ---- a joined resource wider than a segment: those of its 996s and its 484
-- what it has in segment g, by its places m among the four: the 996, the lower or the upper 484, or nothing
abbrev pub part_tones : ℕ → ℕ → ℕ → List Span
part_tones n g m =
    cond (eqb m (all 4)) (the996 n g) (cond (eqb m (pair 0)) (the484 n g 0) (cond (eqb m (pair 1)) (the484 n g 2) []))

-- in s segments from g on, by its places m among all of their positions
abbrev pub spread_tones : ℕ → ℕ → ℕ → ℕ → List Span
spread_tones n g m zero = []
spread_tones n g m (suc s) = part_tones n g (m % 16) ++ spread_tones n (g + 1) (m / 16) s

-- the i-th of its name that has a place in segment g
unfoldable pub tones_joined : ℕ → ℕ → Pairing → ℕ → List Span
tones_joined n g w i = maximal (spread_tones n (segments_of w * (g / segments_of w)) (places_of w i) (segments_of w))

-- ---- of the resource of segment g that has this size and index
unfoldable pub tones_of : ℕ → ℕ → Resource → List Span
tones_of n g (Single s i) = tones_at n g (position_of s i) (Part s (place_of s i + 1))
tones_of n g (Joined P106And26 i) = tones_at n g ((i - 1) / 2) (With26 ((i - 1) % 2 + 1))
tones_of n g (Joined P484And242 i) = tones_leaving_out n g (i - 1)
tones_of n g (Joined P996And484 i) = tones_joined n g P996And484 i
tones_of n g (Joined P3x996 i) = tones_joined n g P3x996 i
tones_of n g (Joined P2x996And484 i) = tones_joined n g P2x996And484 i
tones_of n g (Joined P3x996And484 i) = tones_joined n g P3x996And484 i

-- ---- what is said of the subcarriers of some spans
-- k is one of them
abbrev pub Among : ℤ → List Span → Type 0
Among k [] = ⊥
Among k (s ∷ ss) = ((s.lo ≤ℤ k) × (k ≤ℤ s.hi)) ⊎ Among k ss

-- how many they are
abbrev pub how_many : List Span → ℤ
how_many [] = pos 0
how_many (s ∷ ss) = s.hi -ℤ s.lo +ℤ pos 1 +ℤ how_many ss

-- the first of the spans, if there is one, begins above h and does not touch it
abbrev pub above : ℤ → List Span → Bool
above h [] = true
above h (s ∷ ss) = lt_z (suc_ℤ h) s.lo

-- "Tones are maximal runs, rising": none is empty, and each ends below the next, which it does not touch
abbrev pub rising : List Span → Bool
rising [] = true
rising (s ∷ ss) = le_z s.lo s.hi && above s.hi ss && rising ss

-- the spans of a resource: as many subcarriers as its name says, in rising maximal runs
pub record RightSpans (r : Resource) (ss : List Span) : Type 0 where
  pub named : how_many ss ≡ pos (name_of r)
  pub rises : T (rising ss)
