-- The index of a resource in its segment (01, "Index and subcarriers").
use Rattle.std.specs.Prelude.{Bool, cond, ◌&&◌, ℕ, ◌+◌, ◌-◌, ◌*◌, ◌/◌, ◌%◌, ltb, leb, eqb}
use Rattle.resource.specs.declared.Size.{Size}
use Rattle.resource.specs.declared.Size.TheVariants.{S26, S52, S106, S242, S484, S996, S2x996}
use Rattle.resource.specs.declared.Pairing.{Pairing}
use Rattle.resource.specs.declared.Pairing.TheVariants.{P106And26, P484And242, P996And484, P3x996, P2x996And484, P3x996And484}
use Rattle.resource.specs.declared.Piece.{Piece}
use Rattle.resource.specs.declared.Piece.TheVariants.{Part, With26}
use Rattle.resource.specs.declared.Resource.{Resource}
use Rattle.resource.specs.declared.Resource.TheVariants.{Single, Joined}
use Rattle.resource.specs.Values.{between}

-- "At position p of its segment, i the place among the nine, four or two of its kind, from 1: 26 has index 9p+i, plus 1 where p is
-- 2 or 3 (19 doesn't exist); 52 4p+i; 106 2p+i; .. 242 p+1; 484 1 or 2; 996 1"
unfoldable pub index_of : ℕ → Size → ℕ → ℕ
index_of p S26 i = cond (ltb p 2) (9 * p + i) (9 * p + i + 1)
index_of p S52 i = 4 * p + i
index_of p S106 i = 2 * p + i
index_of p S242 i = p + 1
index_of p S484 i = p / 2 + 1
index_of p S996 i = 1
-- 001: "For 2x996-tone RU .. the RU/MRU index for the 160 MHz channel", of which a 2x996 has all
index_of p S2x996 i = 1

-- "106+26 2p+1 (48) or 2p+2 (50)"
unfoldable pub resource_at : ℕ → Piece → Resource
resource_at p (Part s i) = Single s (index_of p s i)
resource_at p (With26 i) = Joined P106And26 (2 * p + i)

-- "484+242 1 to 4 by the position left out"
abbrev pub leaving_out : ℕ → Resource
leaving_out k = Joined P484And242 (k + 1)

-- the wider ones in the order of 000's table, k from 0: by the pair left out, the segment left out, the pair left out of the lower three or of
-- the upper three segments, the pair left out
abbrev pub the996_and484 : ℕ → Resource
the996_and484 k = Joined P996And484 (k + 1)

abbrev pub the3x996 : ℕ → Resource
the3x996 k = Joined P3x996 (k + 1)

abbrev pub the2x996_and484 : ℕ → Resource
the2x996_and484 k = Joined P2x996And484 (k + 1)

abbrev pub the3x996_and484 : ℕ → Resource
the3x996_and484 k = Joined P3x996And484 (k + 1)

-- the pieces that there are: nine 26s, four 52s, two 106s and two 106+26s at a position, and one of what is no smaller than a position
unfoldable pub is_piece : Piece → Bool
is_piece (Part S26 i) = between 1 9 i
is_piece (Part S52 i) = between 1 4 i
is_piece (Part S106 i) = between 1 2 i
is_piece (Part S242 i) = eqb i 1
is_piece (Part S484 i) = eqb i 1
is_piece (Part S996 i) = eqb i 1
is_piece (Part S2x996 i) = eqb i 1
is_piece (With26 i) = between 1 2 i

-- how many joined resources there are of a name: two 106+26s at each position of a segment, the others by what they leave out
unfoldable pub joined_count : Pairing → ℕ
joined_count P106And26 = 8
joined_count P484And242 = 4
joined_count P996And484 = 4
joined_count P3x996 = 4
joined_count P2x996And484 = 12
joined_count P3x996And484 = 8

-- "484 needs 40 MHz, 996 and 484+242 need 80": the number of positions from which a piece exists
unfoldable pub from_positions : Piece → ℕ
from_positions (Part S26 i) = 1
from_positions (Part S52 i) = 1
from_positions (Part S106 i) = 1
from_positions (Part S242 i) = 1
from_positions (Part S484 i) = 2
from_positions (Part S996 i) = 4
from_positions (Part S2x996 i) = 8
from_positions (With26 i) = 1

-- the piece is there at position p of segment g of a channel of n positions
unfoldable pub exists : ℕ → ℕ → ℕ → Piece → Bool
exists n g p x = ltb p 4 && ltb (4 * g + p) n && leb (from_positions x) n && is_piece x

-- ---- back from the index: 19 is passed over

-- the 26s of a segment, counted from 0
abbrev pub past19 : ℕ → ℕ
past19 i = cond (ltb i 19) (i - 1) (i - 2)

-- the position in its segment (a 484's lower one) and the place, from 0, of a single resource
unfoldable pub position_of : Size → ℕ → ℕ
position_of S26 i = past19 i / 9
position_of S52 i = (i - 1) / 4
position_of S106 i = (i - 1) / 2
position_of S242 i = i - 1
position_of S484 i = 2 * (i - 1)
position_of S996 i = 0
position_of S2x996 i = 0

unfoldable pub place_of : Size → ℕ → ℕ
place_of S26 i = past19 i % 9
place_of S52 i = (i - 1) % 4
place_of S106 i = (i - 1) % 2
place_of S242 i = 0
place_of S484 i = 0
place_of S996 i = 0
place_of S2x996 i = 0
