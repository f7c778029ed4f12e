-- How many bytes the longest listing has, by bandwidth: `proofs/Attained.antt`, `longest_listing`.
use Rattle.std.specs.Prelude.{◌≡◌, [], ◌∷◌, List, ℕ, ◌≤◌, get_or, length}
use Rattle.std.specs.Prelude.{Ok}
use Rattle.bits.specs.Bits.{Small}
use Rattle.halves.specs.Table.{outcome11}
use Rattle.listed.specs.Listing.{listing}

-- the same, for the code to cite
unfoldable pub longest_at : ℕ → ℕ
longest_at bw = get_or (649 ∷ 1267 ∷ 2513 ∷ 4990 ∷ 10131 ∷ []) bw 0

-- n is the length of the longest listing of all accepted frames of a bandwidth
pub record Longest (bw n : ℕ) : Type 0 where
  pub most : (a b : List ℕ) → outcome11 bw a b ≡ Ok tt → length (listing bw a b) ≤ n
  pub attained : (a : List ℕ) × (b : List ℕ) × Small a × Small b × (outcome11 bw a b ≡ Ok tt) × (length (listing bw a b) ≡ n)
