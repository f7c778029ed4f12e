-- A rule of every piece that exists, at every position of every bandwidth, or of every segment: computed once over all of them.
use mathlib.Core.Bool.{Bool, ◌&&◌}
use Prim.Native.Nat.{ℕ, zero, suc, ◌+◌, ◌*◌, ◌^◌, ◌≤◌, ◌<◌}
use native.Mathlib.Omega.{arith}
use native.Mathlib.Nat.{pow-le-pow_right}
use lib.Dec.{T, ltb, leb, eqb, leb→le, le→leb, lt→ltb, eqb→eq}
use Rattle.resource.specs.declared.Size.TheVariants.{S26, S52, S106, S242, S484, S996, S2x996}
use Rattle.resource.specs.declared.Piece.{Piece}
use Rattle.resource.specs.declared.Piece.TheVariants.{Part, With26}
use Rattle.resource.specs.Index.{is_piece}
use Rattle.resource.proofs.Test.{both, both_right, wherever, met, below, every_below}

within_small : (a b i : ℕ) → T (leb a i && leb i b) → b ≤ 9 → i < 10
within_small a b i t h = let l = leb→le i b (both_right (leb a i) (leb i b) t) in omega arith

one_small : (i : ℕ) → T (eqb i 1) → i < 10
one_small i t = let e = eqb→eq i 1 t in omega arith

-- at every place below ten of one kind
abbrev pub each : (ℕ → Piece) → (Piece → Bool) → Bool
each kind f = below (λ i. wherever (is_piece (kind i)) (f (kind i))) 10

abbrev kind : ℕ → ℕ → Piece
kind zero = Part S26
kind (suc zero) = Part S52
kind (suc (suc zero)) = Part S106
kind (suc (suc (suc zero))) = Part S242
kind (suc (suc (suc (suc zero)))) = Part S484
kind (suc (suc (suc (suc (suc zero))))) = Part S996
kind (suc (suc (suc (suc (suc (suc zero)))))) = Part S2x996
kind (suc (suc (suc (suc (suc (suc (suc k))))))) = With26

-- the rule holds of every piece
abbrev pub every_piece : (Piece → Bool) → Bool
every_piece f = below (λ k. each (kind k) f) 8

at_place : (k : ℕ) (f : Piece → Bool) (i : ℕ) → T (every_piece f) → k < 8 → T (is_piece (kind k i)) → i < 10 → T (f (kind k i))
at_place k f i t l p h =
    met (is_piece (kind k i)) (f (kind k i))
    (every_below (λ i. wherever (is_piece (kind k i)) (f (kind k i))) 10 (every_below (λ k. each (kind k) f) 8 t k l) i h) p

pub at_piece : (f : Piece → Bool) (x : Piece) → T (every_piece f) → T (is_piece x) → T (f x)
unfolding is_piece
at_piece f (Part S26 i) t p = at_place 0 f i t (omega arith) p (within_small 1 9 i p (omega arith))
at_piece f (Part S52 i) t p = at_place 1 f i t (omega arith) p (within_small 1 4 i p (omega arith))
at_piece f (Part S106 i) t p = at_place 2 f i t (omega arith) p (within_small 1 2 i p (omega arith))
at_piece f (Part S242 i) t p = at_place 3 f i t (omega arith) p (one_small i p)
at_piece f (Part S484 i) t p = at_place 4 f i t (omega arith) p (one_small i p)
at_piece f (Part S996 i) t p = at_place 5 f i t (omega arith) p (one_small i p)
at_piece f (Part S2x996 i) t p = at_place 6 f i t (omega arith) p (one_small i p)
at_piece f (With26 i) t p = at_place 7 f i t (omega arith) p (within_small 1 2 i p (omega arith))

-- at every position of every segment of every bandwidth
abbrev pub everywhere : (ℕ → ℕ → ℕ → Bool) → Bool
everywhere f = below (λ b. below (λ g. below (λ p. wherever (ltb (4 * g + p) (2 ^ b)) (f (2 ^ b) g p)) 4) 4) 5

segment_small : (b g p : ℕ) → b < 5 → 4 * g + p < 2 ^ b → g < 4
segment_small b g p h l =
    let i : b ≤ 4 = omega arith in
    let m : 2 ^ b ≤ 2 ^ 4 = pow-le-pow_right (omega arith) i in
    omega arith

pub at_position : (f : ℕ → ℕ → ℕ → Bool) (b g p : ℕ) → T (everywhere f) → b < 5 → p < 4 → 4 * g + p < 2 ^ b → T (f (2 ^ b) g p)
at_position f b g p t h l k =
    met (ltb (4 * g + p) (2 ^ b)) (f (2 ^ b) g p)
    (every_below (λ p. wherever (ltb (4 * g + p) (2 ^ b)) (f (2 ^ b) g p)) 4
    (every_below (λ g. below (λ p. wherever (ltb (4 * g + p) (2 ^ b)) (f (2 ^ b) g p)) 4) 4
    (every_below (λ b. below (λ g. below (λ p. wherever (ltb (4 * g + p) (2 ^ b)) (f (2 ^ b) g p)) 4) 4) 5 t b h) g
    (segment_small b g p h k)) p l)
    (lt→ltb (4 * g + p) (2 ^ b) k)

-- of every segment of every bandwidth of at least m positions
abbrev pub every_segment : ℕ → (ℕ → ℕ → Bool) → Bool
every_segment m f = below (λ b. below (λ g. wherever (ltb (4 * g) (2 ^ b) && leb m (2 ^ b)) (f (2 ^ b) g)) 4) 5

pub at_segment : (m : ℕ) (f : ℕ → ℕ → Bool) (b g : ℕ) → T (every_segment m f) → b < 5 → 4 * g < 2 ^ b → m ≤ 2 ^ b → T (f (2 ^ b) g)
at_segment m f b g t h l k =
    met (ltb (4 * g) (2 ^ b) && leb m (2 ^ b)) (f (2 ^ b) g)
    (every_below (λ g. wherever (ltb (4 * g) (2 ^ b) && leb m (2 ^ b)) (f (2 ^ b) g)) 4
    (every_below (λ b. below (λ g. wherever (ltb (4 * g) (2 ^ b) && leb m (2 ^ b)) (f (2 ^ b) g)) 4) 5 t b h) g
    (segment_small b g 0 h (omega arith)))
    (both (ltb (4 * g) (2 ^ b)) (leb m (2 ^ b)) (lt→ltb (4 * g) (2 ^ b) l) (le→leb m (2 ^ b) k))
