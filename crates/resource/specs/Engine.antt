-- Engine: how the code finds the pieces of a position, and the subcarriers of a resource as it counts them: natural numbers from the channel's
-- lower edge. The contracts of the code cite it; nobody has to believe it: `proofs/Starts.antt`, `proofs/Agree.antt`.
use Rattle.std.specs.Prelude.{
  Bool,
  cond,
  ◌&&◌,
  List,
  [],
  ◌∷◌,
  ◌++◌,
  ℕ,
  zero,
  suc,
  ◌+◌,
  ◌-◌,
  ◌*◌,
  ◌/◌,
  ◌%◌,
  ◌^◌,
  eqb,
  ℤ,
  pos,
  ◌-ℤ◌,
  length,
  take,
  get_or,
  replicate,
}
use Rattle.resource.specs.declared.Size.{Size}
use Rattle.resource.specs.declared.Size.TheVariants.{S26, S52, S106, S242, S484, S996, S2x996}
use Rattle.resource.specs.declared.Pairing.{Pairing}
use Rattle.resource.specs.declared.Pairing.TheVariants.{P106And26, P484And242, P996And484, P3x996, P2x996And484, P3x996And484}
use Rattle.resource.specs.declared.Piece.{Piece}
use Rattle.resource.specs.declared.Piece.TheVariants.{Part, With26}
use Rattle.resource.specs.declared.Resource.{Resource}
use Rattle.resource.specs.declared.Resource.TheVariants.{Single, Joined}
use Rattle.resource.specs.declared.Run.{Run}
use Rattle.resource.specs.declared.Tones.{Tones}
use Rattle.resource.specs.Values.{set_at, own_pieces}
use Rattle.resource.specs.Places.{all, places_of, segments_of}
use Rattle.resource.specs.Index.{position_of, place_of}
use Rattle.resource.specs.Tones.{Span, ◌to◌}

-- ---- pieces
-- what stands where there is no piece
abbrev pub no_piece : Piece
no_piece = Part S26 0

-- the k-th piece, from 0, of a position that is given to itself
abbrev pub piece_at : ℕ → ℕ → Piece
piece_at v k = get_or (own_pieces v) k no_piece

-- the first of the nine 26s, from 0, that a piece takes
abbrev pub start_of : Piece → ℕ
start_of (Part S26 i) = i - 1
start_of (Part S52 i) = get_or (0 ∷ 2 ∷ 5 ∷ 7 ∷ []) (i - 1) 0
start_of (Part S106 i) = 5 * (i - 1)
start_of (Part S242 i) = 0
start_of (Part S484 i) = 0
start_of (Part S996 i) = 0
start_of (Part S2x996 i) = 0
start_of (With26 i) = 4 * (i - 1)

abbrev pub numbered_of : Piece → ℕ
numbered_of (Part s i) = i
numbered_of (With26 i) = i

-- bit s is set where a piece starts at the s-th 26
abbrev pub starts_of : List Piece → ℕ
starts_of [] = 0
starts_of (x ∷ xs) = 2 ^ start_of x + starts_of xs

unfoldable pub starts : ℕ → ℕ
starts v = starts_of (own_pieces v)

-- s more than the place of the k-th bit that is set in m, looked for among its lowest n; s + n if there is none
unfoldable pub nth_from : ℕ → ℕ → ℕ → ℕ → ℕ
nth_from m k s zero = s
nth_from m k s (suc n) =
    cond (eqb (m % 2) 1) (cond (eqb k 0) s (nth_from (m / 2) (k - 1) (s + 1) n)) (nth_from (m / 2) k (s + 1) n)

-- the piece that starts at the s-th 26 and has w of them up to the next start: 24 leaves one out
unfoldable pub piece_from : ℕ → ℕ → Piece
piece_from s zero = no_piece
piece_from s (suc zero) = Part S26 (s + 1)
piece_from s (suc (suc zero)) = Part S52 (s / 2 + 1)
piece_from s (suc (suc (suc zero))) = Part S52 (s / 2 + 1)
piece_from s (suc (suc (suc (suc zero)))) = Part S106 (s / 5 + 1)
piece_from s (suc (suc (suc (suc (suc zero))))) = With26 (s / 4 + 1)
piece_from s (suc (suc (suc (suc (suc (suc w)))))) = Part S242 1

-- ---- subcarriers, from the channel's lower edge: in a channel of n positions u stands for the subcarrier u - 128 n. From 40 MHz every
-- position is then 256 wide.
abbrev pub run : ℕ → ℕ → Run
run a b = record { lo = a; hi = b }

-- a run of n subcarriers from a on
abbrev pub run_of : ℕ → ℕ → Run
run_of a n = run a (a + n - 1)

-- the signed number that u stands for
abbrev pub signed : ℕ → ℕ → ℤ
signed n u = pos u -ℤ pos (128 * n)

abbrev pub span_of : ℕ → Run → Span
span_of n r = signed n r.lo to signed n r.hi

-- ---- from 40 MHz, by the position in the channel
-- the 242 of position p starts 12 or 3 above the position's lower edge
abbrev pub edge : ℕ → ℕ
edge p = 256 * p + cond (eqb (p % 2) 0) 12 3

-- the lowest subcarrier of the j-th of its kind, j from 0, above its 242's
unfoldable pub offset26 : ℕ → ℕ
offset26 j = get_or (1 ∷ 27 ∷ 55 ∷ 81 ∷ 108 ∷ 135 ∷ 161 ∷ 189 ∷ 215 ∷ []) j 0

unfoldable pub offset52 : ℕ → ℕ
offset52 j = get_or (1 ∷ 55 ∷ 135 ∷ 189 ∷ []) j 0

unfoldable pub offset106 : ℕ → ℕ
offset106 j = get_or (1 ∷ 135 ∷ []) j 0

abbrev pub the242 : ℕ → Run
the242 p = run_of (edge p) 242

-- ---- a resource of whole positions: the places that it has of the four positions from b on, where its segment begins, as a mask m,
-- bit j for place j. "484 is its two 242s, 484+242 its three; 996 is -500 to -3 and 3 to 500": where it has all four, the two runs of
-- the 996; else the 242 of each of its places, rising.
abbrev pub the242_if : Bool → ℕ → List Run
the242_if t p = cond t (the242 p ∷ []) []

unfoldable pub places_runs : ℕ → ℕ → List Run
places_runs b m =
    cond (set_at 0 m && set_at 1 m && set_at 2 m && set_at 3 m)
    (run_of (256 * b + 12) 498 ∷ run_of (256 * b + 515) 498 ∷ [])
    (the242_if (set_at 0 m) b ++ (the242_if (set_at 1 m) (b + 1) ++ (the242_if (set_at 2 m) (b + 2) ++ the242_if (set_at 3 m) (b + 3))))

-- in s segments from position b on, by its places m among all of their positions
unfoldable pub spread_runs : ℕ → ℕ → ℕ → List Run
spread_runs b m zero = []
spread_runs b m (suc s) = places_runs b (m % 16) ++ spread_runs (b + 4) (m / 16) s

-- ---- the j-th of its size at position p, a 484 and a 996 having more than a position
unfoldable pub wide : ℕ → Size → ℕ → List Run
wide p S26 j = run_of (edge p + offset26 j) 26 ∷ []
wide p S52 j = run_of (edge p + offset52 j) 52 ∷ []
wide p S106 j = run_of (edge p + offset106 j) 106 ∷ []
wide p S242 j = places_runs (4 * (p / 4)) (2 ^ (p % 4))
wide p S484 j = []
wide p S996 j = []
wide p S2x996 j = []

unfoldable pub wide_with26 : ℕ → ℕ → List Run
wide_with26 p j =
    cond (eqb j 0)
    (run_of (edge p + 1) 106 ∷ run_of (edge p + 108) 26 ∷ [])
    (run_of (edge p + 108) 26 ∷ run_of (edge p + 135) 106 ∷ [])

-- ---- at 20 MHz
-- where the j-th of its kind starts; the middle 26 is in two parts
unfoldable pub narrow26 : ℕ → ℕ
narrow26 j = get_or (7 ∷ 33 ∷ 60 ∷ 86 ∷ 0 ∷ 145 ∷ 171 ∷ 198 ∷ 224 ∷ []) j 0

unfoldable pub narrow52 : ℕ → ℕ
narrow52 j = get_or (7 ∷ 60 ∷ 145 ∷ 198 ∷ []) j 0

unfoldable pub narrow106 : ℕ → ℕ
narrow106 j = get_or (6 ∷ 145 ∷ []) j 0

unfoldable pub narrow : Size → ℕ → List Run
narrow S26 j = cond (eqb j 4) (run_of 112 13 ∷ run_of 132 13 ∷ []) (run_of (narrow26 j) 26 ∷ [])
narrow S52 j = run_of (narrow52 j) 52 ∷ []
narrow S106 j = run_of (narrow106 j) 106 ∷ []
narrow S242 j = run_of 6 121 ∷ run_of 130 121 ∷ []
narrow S484 j = []
narrow S996 j = []
narrow S2x996 j = []

unfoldable pub narrow_with26 : ℕ → List Run
narrow_with26 j = cond (eqb j 0) (run_of 6 119 ∷ run_of 132 13 ∷ []) (run_of 112 13 ∷ run_of 132 119 ∷ [])

-- ---- the runs of a resource of segment g in a channel of n positions, found by its size and index
-- one that lies in a single position
abbrev pub in_position : ℕ → ℕ → Size → ℕ → List Run
in_position n g s i = cond (eqb n 1) (narrow s (place_of s i)) (wide (4 * g + position_of s i) s (place_of s i))

-- a joined one that is wider than a segment
unfoldable pub joined_runs : ℕ → Pairing → ℕ → List Run
joined_runs g w i = spread_runs (4 * (segments_of w * (g / segments_of w))) (places_of w i) (segments_of w)

unfoldable pub runs_of : ℕ → ℕ → Resource → List Run
runs_of n g (Single S26 i) = in_position n g S26 i
runs_of n g (Single S52 i) = in_position n g S52 i
runs_of n g (Single S106 i) = in_position n g S106 i
runs_of n g (Single S242 i) = in_position n g S242 i
runs_of n g (Single S484 i) = places_runs (4 * g) (3 * 4 ^ (i - 1))
runs_of n g (Single S996 i) = places_runs (4 * g) 15
runs_of n g (Joined P106And26 i) =
    cond (eqb n 1) (narrow_with26 ((i - 1) % 2)) (wide_with26 (4 * g + (i - 1) / 2) ((i - 1) % 2))
runs_of n g (Joined P484And242 i) = places_runs (4 * g) (15 - 2 ^ (i - 1))
runs_of n g (Single S2x996 i) = spread_runs (8 * (g / 2)) (all 8) 2
runs_of n g (Joined P996And484 i) = joined_runs g P996And484 i
runs_of n g (Joined P3x996 i) = joined_runs g P3x996 i
runs_of n g (Joined P2x996And484 i) = joined_runs g P2x996And484 i
runs_of n g (Joined P3x996And484 i) = joined_runs g P3x996And484 i

-- ---- as the program holds them: at most eight
abbrev pub no_run : Run
no_run = run 0 0

unfoldable pub held : List Run → Tones
held rs = record { count = length rs; runs = take 8 (rs ++ replicate 8 no_run) }

-- ---- back from a name: the resource of so many subcarriers with this index
unfoldable pub resource_named : ℕ → ℕ → Resource
resource_named n i =
    cond (eqb n 26) (Single S26 i)
    (cond (eqb n 52) (Single S52 i)
    (cond (eqb n 106) (Single S106 i)
    (cond (eqb n 242) (Single S242 i)
    (cond (eqb n 484) (Single S484 i)
    (cond (eqb n 996) (Single S996 i)
    (cond (eqb n 1992) (Single S2x996 i)
    (cond (eqb n 132) (Joined P106And26 i)
    (cond (eqb n 726) (Joined P484And242 i)
    (cond (eqb n 1480) (Joined P996And484 i)
    (cond (eqb n 2988) (Joined P3x996 i)
    (cond (eqb n 2476) (Joined P2x996And484 i) (Joined P3x996And484 i))))))))))))
