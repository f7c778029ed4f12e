-- Engine: each resource as the 26s that it takes of its segment, and the pairs of these that meet. The contracts of the code cite it; nobody
-- has to believe it: `overlaps/specs/Worked.antt` says what it comes to, and `overlaps/proofs/Worked.antt` shows it.
use Rattle.std.specs.Prelude.{Bool, true, cond, not, ◌&&◌, List, [], ◌∷◌, ◌++◌, ℕ, zero, suc, ◌+◌, ◌-◌, ◌*◌, ◌/◌, ◌%◌, ◌^◌, ltb, leb, eqb}
use Rattle.std.specs.Int.Bits.{bit_and, bit_or}

-- the 36 26s of a segment as bits, bit 9 p + j the j-th of position p; those that the resource of a value takes
unfoldable pub mask_of : ℕ → ℕ
mask_of v =
    cond (leb v 17) (2 ^ v)
    (cond (leb v 36) (2 ^ (v - 1))
    (cond (leb v 52) (3 * 2 ^ (9 * ((v - 37) / 4) + 2 * ((v - 37) % 4) + (v - 37) % 4 / 2))
    (cond (leb v 60) (15 * 2 ^ (9 * ((v - 53) / 2) + 5 * ((v - 53) % 2)))
    (cond (leb v 64) (511 * 2 ^ (9 * (v - 61)))
    (cond (leb v 66) (262143 * 2 ^ (18 * (v - 65)))
    (cond (leb v 81) 68719476735
    (cond (leb v 89) (31 * 2 ^ (9 * ((v - 82) / 2) + 4 * ((v - 82) % 2)))
    (cond (leb v 93) (68719476735 - 511 * 2 ^ (9 * (v - 90))) 0))))))))

-- two masks are of resources that overlap: not the same, and with a 26 in both
unfoldable pub meet : ℕ → ℕ → Bool
meet a b = not (eqb a b) && not (eqb (bit_and a b) 0)

-- the 26s that the first n masks take
unfoldable pub union_to : (ℕ → ℕ) → ℕ → ℕ
union_to m zero = 0
union_to m (suc n) = bit_or (union_to m n) (m n)

-- none of the first n masks has a 26 that those before it take
unfoldable pub apart_to : (ℕ → ℕ) → ℕ → Bool
apart_to m zero = true
apart_to m (suc n) = apart_to m n && eqb (bit_and (union_to m n) (m n)) 0

-- ---- the pairs of n entries with masks m, in rising order: pair q is entries q / 32 and q % 32, from 0
unfoldable pub hit : (ℕ → ℕ) → ℕ → ℕ → Bool
hit m n q = (ltb (q / 32) (q % 32) && ltb (q % 32) n) && meet (m (q / 32)) (m (q % 32))

-- those below q that are reported, as bytes
unfoldable pub pairs_to : (ℕ → ℕ) → ℕ → ℕ → List ℕ
pairs_to m n zero = []
pairs_to m n (suc q) = pairs_to m n q ++ cond (hit m n q) ((q / 32 + 1) ∷ (q % 32 + 1) ∷ []) []
