-- The places of a resource of whole positions (01, "What a plan is"; 02, T-07): which of the positions that it lies among, counted from 0,
-- are its own, as a number that has the bit j where place j is.
use Rattle.std.specs.Prelude.{cond, ℕ, ◌-◌, ◌*◌, ◌^◌, leb}
use Rattle.resource.specs.declared.Pairing.{Pairing}
use Rattle.resource.specs.declared.Pairing.TheVariants.{P106And26, P484And242, P996And484, P3x996, P2x996And484, P3x996And484}

-- the first n places; place k alone; pair k; segment k
abbrev pub all : ℕ → ℕ
all n = 2 ^ n - 1

abbrev pub single : ℕ → ℕ
single k = 2 ^ k

abbrev pub pair : ℕ → ℕ
pair k = 3 * 4 ^ k

abbrev pub segment : ℕ → ℕ
segment k = 15 * 16 ^ k

-- how many segments a joined resource lies among. 001: "For .. 996+484-tone MRU, .. the RU/MRU index for the 160 MHz channel .. For ..
-- 2x996+484-tone MRU, 3x996-tone MRU, and 3x996+484-tone MRU, .. for the 320 MHz channel"
unfoldable pub segments_of : Pairing → ℕ
segments_of P106And26 = 1
segments_of P484And242 = 1
segments_of P996And484 = 2
segments_of P3x996 = 4
segments_of P2x996And484 = 4
segments_of P3x996And484 = 4

-- the places of the i-th, from 1, by 000's table: it leaves out a position, a pair, a segment, or a pair and the last or the first segment.
-- A 106+26 has one position, and is not whole.
unfoldable pub places_of : Pairing → ℕ → ℕ
places_of P106And26 i = 0
places_of P484And242 i = all 4 - single (i - 1)
places_of P996And484 i = all 8 - pair (i - 1)
places_of P3x996 i = all 16 - segment (i - 1)
places_of P2x996And484 i = cond (leb i 6) (all 16 - segment 3 - pair (i - 1)) (all 16 - segment 0 - pair (i - 5))
places_of P3x996And484 i = all 16 - pair (i - 1)
