-- Where the subcarriers of a piece lie: inside its own position; and no two pieces of a value share one. Those of a larger resource lie inside
-- its places: `Places.antt`.
use mathlib.Core.Path.{◌≡◌, sym}
use mathlib.Core.Logic.{◌≢◌, inl, inr, ⊎_elim}
use mathlib.Core.Bool.{Bool, ◌&&◌}
use mathlib.Core.List.{List, [], ◌∷◌, ◌++◌}
use Prim.Native.Nat.{ℕ, zero, suc, ◌+◌, ◌*◌, ◌/◌, ◌^◌, ◌≤◌, ◌<◌}
use native.Mathlib.Nat.{eq-or-lt_of_le}
use native.Mathlib.Omega.{arith}
use borrow.Author.Tests.{lt-leb, le-leb, le-ltb, ne_eqb}
use lib.Dec.{T, leb, leb→le, le→leb}
use lib.ListN.{length, get_or}
use Rattle.resource.specs.declared.Piece.{Piece}
use Rattle.resource.specs.declared.Run.{Run}
use Rattle.resource.specs.Values.{pieces, own_pieces}
use Rattle.resource.specs.Index.{index_of, resource_at, position_of, place_of}
use Rattle.resource.specs.Engine.{places_runs, runs_of, wide, wide_with26, narrow, narrow_with26}
use Rattle.resource.specs.Engine.{offset26, offset52, offset106, narrow26, narrow52, narrow106}
use Rattle.resource.proofs.Edge.{In, in_left, in_right}
use Rattle.resource.proofs.Test.{below_or, both_left, both_right, below, every_below}
use Rattle.resource.proofs.Everywhere.{everywhere, at_position}

-- ---- runs that rise from b on and end below e; one may touch the next
abbrev pub ascending : ℕ → ℕ → List Run → Bool
ascending b e [] = leb b e
ascending b e (r ∷ rs) = leb b r.lo && (leb r.lo r.hi && ascending (suc r.hi) e rs)

module _ (e : ℕ) where
  parts : (b : ℕ) (r : Run) (rs : List Run) → T (ascending b e (r ∷ rs)) → (b ≤ r.lo) × (r.lo ≤ r.hi) × T (ascending (suc r.hi) e rs)
  parts b r rs t =
      let u = both_right (leb b r.lo) (leb r.lo r.hi && ascending (suc r.hi) e rs) t in (
        leb→le b r.lo (both_left (leb b r.lo) (leb r.lo r.hi && ascending (suc r.hi) e rs) t),
        leb→le r.lo r.hi (both_left (leb r.lo r.hi) (ascending (suc r.hi) e rs) u),
        both_right (leb r.lo r.hi) (ascending (suc r.hi) e rs) u,
      )

  ends : (b : ℕ) (rs : List Run) → T (ascending b e rs) → b ≤ e
  ends b [] t = leb→le b e t
  ends b (r ∷ rs) t = let u = parts b r rs t in omega (arith, ends (suc r.hi) rs u.2)

  -- what ascends lies between the bounds
  pub bounded : (b x : ℕ) (rs : List Run) → T (ascending b e rs) → In x rs → (b ≤ x) × (x < e)
  bounded b x [] t h = absurd h
  bounded b x (r ∷ rs) t (inl h) = let u = parts b r rs t in omega (arith, ends (suc r.hi) rs u.2)
  bounded b x (r ∷ rs) t (inr h) = let u = parts b r rs t in omega (arith, bounded (suc r.hi) x rs u.2 h)

  -- what stands later lies higher
  higher : (b x y : ℕ) (xs ys : List Run) → T (ascending b e (xs ++ ys)) → In x xs → In y ys → x < y
  higher b x y [] ys t h g = absurd h
  higher b x y (r ∷ xs) ys t (inl h) g =
      let u = parts b r (xs ++ ys) t in
      omega (arith, bounded (suc r.hi) y (xs ++ ys) u.2 (in_right y xs ys g))
  higher b x y (r ∷ xs) ys t (inr h) g = let u = parts b r (xs ++ ys) t in higher (suc r.hi) x y xs ys u.2 h g

  rest : (b : ℕ) (xs ys : List Run) → T (ascending b e (xs ++ ys)) → (c : ℕ) × (b ≤ c) × T (ascending c e ys)
  rest b [] ys t = (b, omega arith, t)
  rest b (r ∷ xs) ys t =
      let u = parts b r (xs ++ ys) t in
      let w = rest (suc r.hi) xs ys u.2 in
      (w.0, omega (arith, w.1), w.2)

-- ---- the pieces of a value, one after the other
abbrev pub gather : (Piece → List Run) → List Piece → List Run
gather f [] = []
gather f (x ∷ xs) = f x ++ gather f xs

module _ (f : Piece → List Run) (d : Piece) where
  gathered : (xs : List Piece) (k u : ℕ) → k < length xs → In u (f (get_or xs k d)) → In u (gather f xs)
  gathered [] k u l h = absurd (omega arith)
  gathered (x ∷ xs) zero u l h = in_left u (f x) (gather f xs) h
  gathered (x ∷ xs) (suc k) u l h = in_right u (f x) (gather f xs) (gathered xs k u (omega arith) h)

  rise : (e b : ℕ) (xs : List Piece) → T (ascending b e (gather f xs)) → (k l u w : ℕ) → k < l → l < length xs
      → In u (f (get_or xs k d)) → In w (f (get_or xs l d)) → u < w
  rise e b [] t k l u w i j p q = absurd (omega arith)
  rise e b (x ∷ xs) t k zero u w i j p q = absurd (omega arith)
  rise e b (x ∷ xs) t zero (suc l) u w i j p q =
      higher e b u w (f x) (gather f xs) t p (gathered xs l w (omega arith) q)
  rise e b (x ∷ xs) t (suc k) (suc l) u w i j p q =
      let c = rest e b (f x) (gather f xs) t in
      rise e c.0 xs c.2 k l u w (omega arith) (omega arith) p q

-- ---- computed for every value at every position of every bandwidth
abbrev runs_at : ℕ → ℕ → ℕ → Piece → List Run
runs_at n g p x = runs_of n g (resource_at p x)

abbrev ascends : ℕ → ℕ → ℕ → ℕ → Bool
ascends n g p v = ascending (256 * (4 * g + p)) (256 * (4 * g + p) + 256) (gather (runs_at n g p) (own_pieces v))

ascend : T (everywhere (λ n g p. below (ascends n g p) 72))
unfolding pieces own_pieces index_of resource_at position_of place_of runs_of places_runs wide wide_with26 narrow narrow_with26 offset26 offset52
    offset106 narrow26 narrow52 narrow106
ascend = tt

-- from 51 on no value divides its position, and from 72 on none leaves it to itself
pub not_divided : (v : ℕ) → 51 ≤ v → pieces v ≡ []
unfolding pieces
not_divided v h =
    rw (
      le-ltb v 16 (omega arith),
      le-ltb v 20 (omega arith),
      le-ltb v 24 (omega arith),
      ne_eqb v 24 (λ e. omega arith),
      ne_eqb v 25 (λ e. omega arith),
      ne_eqb v 48 (λ e. omega arith),
      ne_eqb v 50 (λ e. omega arith),
    )

pub no_pieces : (v : ℕ) → 72 ≤ v → own_pieces v ≡ []
unfolding own_pieces
no_pieces v h =
    rw (ne_eqb v 28 (λ e. omega arith), lt-leb v 71 (omega arith), le-leb 64 v (omega arith)) (not_divided v (omega arith))

module _ (b g p v : ℕ) (h : b < 5) (i : p < 4) (j : 4 * g + p < 2 ^ b) where
  ascends_at : T (ascends (2 ^ b) g p v)
  ascends_at =
      ⊎_elim
      (λ l. every_below (ascends (2 ^ b) g p) 72 (at_position (λ n g p. below (ascends n g p) 72) b g p ascend h i j) v l)
      (λ l. rw (no_pieces v l) (le→leb (256 * (4 * g + p)) (256 * (4 * g + p) + 256) (omega arith)))
      (below_or v 72)

  -- a piece's subcarriers lie in its own position
  pub piece_inside : (d : Piece) (k u : ℕ) → k < length (own_pieces v) → In u (runs_of (2 ^ b) g (resource_at p (get_or (own_pieces v) k d))) → u / 256 ≡ 4 * g
      + p
  piece_inside d k u l m =
      let w = bounded (256 * (4 * g + p) + 256) (256 * (4 * g + p)) u (gather (runs_at (2 ^ b) g p) (own_pieces v)) ascends_at
      (gathered (runs_at (2 ^ b) g p) d (own_pieces v) k u l m) in
      omega arith

  -- they rise, piece after piece
  pub pieces_rise : (d : Piece) (k l u w : ℕ) → k < l → l < length (own_pieces v) → In u (runs_of (2 ^ b) g (resource_at p (get_or (own_pieces v) k d)))
      → In w (runs_of (2 ^ b) g (resource_at p (get_or (own_pieces v) l d))) → u < w
  pieces_rise d k l u w i j m o =
      rise (runs_at (2 ^ b) g p) d (256 * (4 * g + p) + 256) (256 * (4 * g + p)) (own_pieces v) ascends_at k l u w i j m o

  -- and no two pieces share one
  pub pieces_apart : (d : Piece) (k l u : ℕ) → k ≢ l → k < length (own_pieces v) → l < length (own_pieces v)
      → In u (runs_of (2 ^ b) g (resource_at p (get_or (own_pieces v) k d))) → In u (runs_of (2 ^ b) g (resource_at p (get_or (own_pieces v) l d))) → ⊥
  pieces_apart d k l u n c e m o =
      ⊎_elim
      (λ q. let z = pieces_rise d k l u u q e m o in omega arith)
      (λ q. ⊎_elim (λ f. n (sym f)) (λ f. let z = pieces_rise d l k u u f c o m in omega arith) (eq-or-lt_of_le q))
      (below_or k l)
