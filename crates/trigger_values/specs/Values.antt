-- B7-B1 of the RU Allocation at 20, 40 and 80 MHz (02, T-02; 001, table 9-31i1): the resource that a value names, and which values a
-- bandwidth takes.
use Rattle.std.specs.Prelude.{◌≡◌, ◌⊎◌, Bool, true, cond, not, ◌&&◌, ◌||◌, ℕ, ◌+◌, ◌-◌, ◌*◌, ◌/◌, ◌^◌, ◌≤◌, ◌<◌, T, leb, eqb}
use Rattle.resource.specs.declared.Size.TheVariants.{S26, S52, S106, S242, S484, S996, S2x996}
use Rattle.resource.specs.declared.Pairing.TheVariants.{P106And26, P484And242, P996And484, P3x996, P2x996And484, P3x996And484}
use Rattle.resource.specs.declared.Piece.{Piece}
use Rattle.resource.specs.declared.Piece.TheVariants.{Part, With26}
use Rattle.resource.specs.declared.Resource.{Resource}
use Rattle.resource.specs.declared.Resource.TheVariants.{Single, Joined}
use Rattle.resource.specs.Names.{number_of}
use Rattle.resource.specs.Values.{between, smaller_at}
use Rattle.resource.specs.Places.{segments_of}
use Rattle.resource.specs.Index.{position_of, from_positions, exists, resource_at, leaving_out}

-- "0 to 36 are 26s (18 reserved), 37 to 52, 53 to 60, 61 to 64, 65 and 66, 67 in rising size, 82 to 86 and 89 are 106+26, 90 to 93 are
-- 484+242"
unfoldable pub named : ℕ → Bool
named v = (leb v 36 && not (eqb v 18)) || between 37 67 v || between 82 86 v || eqb v 89 || between 90 93 v

-- the resource that a value names, each kind's index counting from 1: 18 would be the 26 that "doesn't exist", 19, and 87 and 88 the
-- 106+26s that 01 does not allow, 6 and 7
unfoldable pub resource_of : ℕ → Resource
resource_of v =
    cond (leb v 36) (Single S26 (v + 1))
    (cond (leb v 52) (Single S52 (v - 36))
    (cond (leb v 60) (Single S106 (v - 52))
    (cond (leb v 64) (Single S242 (v - 60))
    (cond (leb v 66) (Single S484 (v - 64))
    (cond (leb v 67) (Single S996 1)
    (cond (leb v 89) (Joined P106And26 (v - 81)) (Joined P484And242 (v - 89))))))))

-- how many positions of its segment, from the lowest, a resource needs: those below it and its own; a wider one all of its segments
unfoldable pub reaches : Resource → ℕ
reaches (Single s i) = position_of s i + from_positions (Part s 1)
reaches (Joined P106And26 i) = (i - 1) / 2 + 1
reaches (Joined P484And242 i) = 4
reaches (Joined P996And484 i) = 4 * segments_of P996And484
reaches (Joined P3x996 i) = 4 * segments_of P3x996
reaches (Joined P2x996And484 i) = 4 * segments_of P2x996And484
reaches (Joined P3x996And484 i) = 4 * segments_of P3x996And484

-- "A narrower bandwidth takes only what fits it": codes 0, 1 and 2 have 1, 2 and 4 positions
unfoldable pub taken : ℕ → ℕ → Bool
taken bw v = named v && leb (reaches (resource_of v)) (2 ^ bw)

-- ---- the resources of a bandwidth of n positions, up to a segment (01, "Index and subcarriers")
-- "48 isn't allowed in a fourth position nor 50 in a third": they are the values that hold a 106+26, the lower and the upper
unfoldable pub allowed_at : ℕ → Piece → Bool
allowed_at p (Part s i) = true
allowed_at p (With26 i) = smaller_at p (46 + 2 * i)

-- a piece of a position, or the 484+242 that leaves one out
pub data ResourceOf (n : ℕ) : Resource → Type 0 where
  piece : (p : ℕ) (x : Piece) → T (exists n 0 p x) → T (allowed_at p x) → ResourceOf n (resource_at p x)
  leaving : (k : ℕ) → k < 4 → 4 ≤ n → ResourceOf n (leaving_out k)

-- "in rising size", then 106+26, then 484+242; inside a kind by index. No value here names what follows them.
abbrev pub rank : Resource → ℕ
rank (Single S26 i) = 0
rank (Single S52 i) = 1
rank (Single S106 i) = 2
rank (Single S242 i) = 3
rank (Single S484 i) = 4
rank (Single S996 i) = 5
rank (Joined P106And26 i) = 6
rank (Joined P484And242 i) = 7
rank (Single S2x996 i) = 8
rank (Joined P996And484 i) = 9
rank (Joined P3x996 i) = 10
rank (Joined P2x996And484 i) = 11
rank (Joined P3x996And484 i) = 12

abbrev pub Before : Resource → Resource → Type 0
Before r s = (rank r < rank s) ⊎ ((rank r ≡ rank s) × (number_of r < number_of s))

-- values and resources of bandwidth code bw: one-to-one, in order
pub record OneToOne (bw : ℕ) : Type 0 where
  pub names_one : (v : ℕ) → T (taken bw v) → ResourceOf (2 ^ bw) (resource_of v)
  pub has_one : {r : Resource} → ResourceOf (2 ^ bw) r → (v : ℕ) × T (taken bw v) × (resource_of v ≡ r)
  pub only_one : (v w : ℕ) → T (taken bw v) → T (taken bw w) → resource_of v ≡ resource_of w → v ≡ w
  pub in_order : (v w : ℕ) → T (taken bw v) → T (taken bw w) → v < w → Before (resource_of v) (resource_of w)
