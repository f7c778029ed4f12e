-- What a value gives the resource that its position is a place of, and how many pieces are listed of it.
use mathlib.Core.Path.{◌≡◌, refl, sym, ◌∙◌}
use mathlib.Core.Logic.{⊎_elim, ◌≢◌}
use mathlib.Core.Bool.{Bool, true, false, cond, ◌&&◌, ◌||◌}
use mathlib.Core.List.{[], ◌∷◌}
use Prim.Native.Nat.{ℕ, zero, suc, ◌/◌, ◌%◌, ◌≤◌, ◌<◌}
use native.Mathlib.Omega.{arith}
use borrow.Author.Tests.{lt-ltb, eq-eqb, ne_eqb}
use lib.Dec.{eqb}
use lib.ListN.{length, get_or}
use Rattle.kinds.specs.Kinds.{family, span, takes}
use Rattle.kinds.specs.Signals.{Takes, Fits}
use Rattle.kinds.specs.Fields.{gives, share}
use Rattle.kinds.proofs.Table.{takes_known, family_low}
use Rattle.kinds.proofs.Fitting.{high_own}
use Rattle.resource.specs.declared.Size.TheVariants.{S242}
use Rattle.resource.specs.declared.Piece.TheVariants.{Part}
use Rattle.resource.specs.Values.{between, pieces, fields_of, divides, own_pieces}
use Rattle.resource.specs.Engine.{no_piece, piece_at}
use Rattle.resource.proofs.Test.{below_or}
use Rattle.resource.proofs.Starts.{own_fields}
use Rattle.resource.proofs.Pieces.{none_left, divided_not, divided_low}

-- ---- the fields of a value that does not divide its position
pub whole_low : (v : ℕ) → divides v ≡ false → v < 64 → fields_of v ≡ 0
unfolding fields_of
whole_low v e h = rw (lt-ltb v 64 h) (none_left v e)

-- not a place: nothing is given
pub no_share : (x p v : ℕ) → (Takes x (p % span x) → ⊥) → share x p v ≡ 0
unfolding share gives
no_share x p v n = go (takes x (p % span x)) refl
  where
    go : (t : Bool) → takes x (p % span x) ≡ t → cond (t && eqb (v / 8) (family x)) (fields_of v) 0 ≡ 0
    go true e = absurd (n e)
    go false e = refl

-- nor by a value of no family
pub low_share : (x p v : ℕ) → v < 64 → share x p v ≡ 0
unfolding share gives
low_share x p v h = go (takes x (p % span x)) refl
  where
    other : takes x (p % span x) ≡ true → v / 8 ≢ family x
    other t e = omega (arith, family_low x (takes_known x (p % span x) t))

    go : (t : Bool) → takes x (p % span x) ≡ t → cond (t && eqb (v / 8) (family x)) (fields_of v) 0 ≡ 0
    go true e = rw (ne_eqb (v / 8) (family x) (other e))
    go false e = refl

-- what a value gives to the resource that its position is a place of is all of its fields
pub share_fields : (x p v : ℕ) → Fits x p v → divides v ≡ false → share x p v ≡ fields_of v
unfolding share gives
share_fields x p v f e =
    ⊎_elim
    (λ h. low_share x p v h ∙ sym (whole_low v e h))
    (λ h. let w = high_own x p v f h in rw (w.0, eq-eqb (v / 8) (family x) w.1))
    (below_or v 64)

-- ---- what is listed
pub whole_one : (v : ℕ) → divides v ≡ false → length (own_pieces v) ≤ 1
unfolding own_pieces
whole_one v e = go (eqb v 28 || between 64 71 v)
  where
    go : (t : Bool) → length (cond t (Part S242 1 ∷ []) (pieces v)) ≤ 1
    go true = omega arith
    go false = omega (arith, none_left v e)

-- a position that is not divided is listed whole
pub whole_piece : (v m : ℕ) → divides v ≡ false → m < length (own_pieces v) → piece_at v m ≡ Part S242 1
unfolding own_pieces
whole_piece v m e h = go (eqb v 28 || between 64 71 v) m h
  where
    go : (t : Bool) (m : ℕ) → m < length (cond t (Part S242 1 ∷ []) (pieces v)) → get_or (cond t (Part S242 1 ∷ []) (pieces v)) m no_piece ≡ Part S242 1
    go true zero l = refl
    go true (suc m) l = absurd (omega arith)
    go false m l = absurd (omega (arith, none_left v e))

pub divided_own : (v : ℕ) → divides v ≡ true → length (own_pieces v) ≡ fields_of v
unfolding divides pieces
divided_own v e = own_fields v (omega (arith, divided_low v e)) (divided_not v 28 refl e)
