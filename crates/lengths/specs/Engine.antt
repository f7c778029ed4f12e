-- Engine: 1 to 3 in as few comparisons as a frame that passes them needs. The contracts of the code cite it; nobody has to believe it:
-- `proofs/Lent.antt`.
use Rattle.std.specs.Prelude.{Bool, cond, ◌&&◌, List, ℕ, ◌+◌, ◌/◌, eqb, leb, length}
use Rattle.channel.specs.Layout.{common, present}

-- at least n bytes, and no more than 512
unfoldable pub fits_in : List ℕ → ℕ → Bool
fits_in s n = leb n (length s) && leb (length s) 512

-- the bytes of a common field
unfoldable pub least_bytes : ℕ → ℕ
least_bytes bw = (common bw + 7) / 8

-- each channel as it may be lent
unfoldable pub lent : ℕ → List ℕ → List ℕ → Bool
lent bw a b = leb bw 4 && (fits_in a (least_bytes bw) && cond (present bw 2) (fits_in b (least_bytes bw)) (eqb (length b) 0))
