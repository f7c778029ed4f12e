-- Engine: to what the values of a segment give its positions, as far as they are given to nothing wider. The contracts of the code cite it;
-- nobody has to believe it: `proofs/Only.antt`, `proofs/Found.antt`.
use Rattle.std.specs.Prelude.{◌≡◌, ◌⊎◌, Bool, cond, not, ◌||◌, ◌&&◌, List, ℕ, zero, suc, ◌+◌, ◌-◌, ◌*◌, ◌/◌, ◌%◌, ◌^◌, ◌≤◌, ◌<◌, ltb, eqb, length, replicate}
use Rattle.answer.specs.Least.{least}
use Rattle.answer.specs.Lists.{filled, at}
use Rattle.resource.specs.Values.{smaller_at}
use Rattle.kinds.specs.Kinds.{none, family, span, mask, takes, blank_at}
use Rattle.kinds.specs.Engine.{name_of}

unfoldable pub or_else : ℕ → ℕ → ℕ
or_else x y = cond (ltb x none) x y

-- the kind, of those sought among n positions, that the first m values from b on name: the lowest that names one
abbrev pub first_named : ℕ → (ℕ → ℕ) → ℕ → ℕ → ℕ
first_named n row b zero = none
first_named n row b (suc m) = or_else (first_named n row b m) (name_of n (row (b + m)))

-- the value is one that the first place of a resource of kind c may hold
unfoldable pub tells : ℕ → ℕ → Bool
tells c v = eqb (v / 8) (family c) || eqb v (blank_at c 0)

-- from the kind that is named, the segment's first value, the pair's first value, and the place
unfoldable pub choose : ℕ → ℕ → ℕ → ℕ → ℕ
choose k u v j = cond (ltb k none) (cond (takes k j) k 0) (cond (tells 2 u) 2 (cond (tells 1 v) 1 0))

unfoldable pub segment_plan : (ℕ → ℕ) → ℕ → ℕ
segment_plan row p = choose (first_named 4 row (4 * (p / 4)) 4) (row (4 * (p / 4))) (row (2 * (p / 2))) (p % 4)

-- to what each position of a row is given by its segment; 0 past the row
unfoldable pub segment_kinds : List ℕ → List ℕ
segment_kinds row = filled (segment_plan (at row)) (length row) (replicate 16 0)

-- the positions from b up to e of a list are entered as f says, and the others stand
pub record Entered (f : ℕ → ℕ) (b e : ℕ) (before after : List ℕ) : Type 0 where
  pub entered : (p : ℕ) → b ≤ p → p < e → at after p ≡ f p
  pub stands : (p : ℕ) → (p < b) ⊎ (e ≤ p) → at after p ≡ at before p
  pub as_long : length after ≡ length before

-- ---- the tests of `Signals`
unfoldable pub fitting : ℕ → ℕ → ℕ → Bool
fitting c p v =
    takes c (p % span c) && (eqb (v / 8) (family c) || eqb v (blank_at c (p % span c))) || eqb c 0 && smaller_at (p % 4) v

-- every place of the resource of kind c at position p lies below n
unfoldable pub within : ℕ → ℕ → ℕ → Bool
within c p n = ltb (mask c) (2 ^ (n - span c * (p / span c)))

-- what its segment gives position p to is right, in a row of n positions
unfoldable pub right_at : (ℕ → ℕ) → ℕ → ℕ → Bool
right_at row n p = fitting (segment_plan row p) p (row p) && within (segment_plan row p) p n

abbrev pub wrong_at : List ℕ → ℕ → Bool
wrong_at row p = not (right_at (at row) (length row) p)

-- the lowest position that is not right; the number of positions where there is none
unfoldable pub first_wrong : List ℕ → ℕ
first_wrong row = least (wrong_at row) (length row)

-- the four positions from b on fit what their segment gives them to
unfoldable pub four_right : (ℕ → ℕ) → ℕ → Bool
four_right row b =
    ((fitting (segment_plan row b) b (row b) && fitting (segment_plan row (b + 1)) (b + 1) (row (b + 1)))
    && fitting (segment_plan row (b + 2)) (b + 2) (row (b + 2))) && fitting (segment_plan row (b + 3)) (b + 3) (row (b + 3))

-- the lowest whole segment of which that is not so; their number where there is none
unfoldable pub first_four_wrong : List ℕ → ℕ
first_four_wrong row = least (λ s. not (four_right (at row) (4 * s))) (length row / 4)
