-- Of two rows, at one position: the resource of one is among the other's exactly where the program finds it so.
use mathlib.Core.Path.{◌≡◌, refl, sym, ap, ap₂, ◌∙◌}
use mathlib.Core.Logic.{◌≢◌, ⊎_elim}
use mathlib.Core.Bool.{Bool, true, false, ◌&&◌, ◌||◌, false≢true}
use mathlib.Core.List.{List, [], ◌∷◌, map}
use Prim.Native.Nat.{ℕ, suc, ◌/◌, ◌%◌, ◌<◌}
use native.Mathlib.Omega.{arith}
use borrow.Author.Tests.{eq-eqb, ne_eqb}
use lib.Dec.{eqb}
use lib.ListN.{length, get_or}
use Rattle.resource.specs.declared.Piece.{Piece}
use Rattle.resource.specs.Names.{name_of}
use Rattle.resource.specs.Values.{set_at, own_pieces}
use Rattle.resource.specs.Index.{resource_at}
use Rattle.resource.specs.Engine.{no_piece, piece_at}
use Rattle.kinds.specs.Kinds.{span}
use Rattle.kinds.proofs.Tests.{equal_or}
use Rattle.records.specs.declared.Record.{Record}
use Rattle.records.specs.Records.{lead, piece_record, larger, larger_record, list_at}
use Rattle.records.proofs.Listing.{record_at, list_at_lem, own_list, own_length, own_record, larger_record_lem}
use Rattle.position_lines.proofs.Lines.{at_lowest}
use Rattle.compared.specs.Reading.{same_resource, has_same}
use Rattle.only_in.specs.Engine.{piece_number, shape_in}
use Rattle.only_in.proofs.Sets.{Own, alike, piece_alike, has_number, in_set, none_set}
use Rattle.only_in.proofs.Larger.{larger_alike, piece_not_larger, larger_not_piece}
use Rattle.only_in.proofs.Here.{own_here, has_none}

-- in one segment the name decides
pub in_segment : (z w : Record) → z.segment ≡ w.segment → same_resource z w ≡ alike z.resource w.resource
unfolding same_resource
in_segment z w e = rw (eq-eqb z.segment w.segment e) (go (eqb (name_of z.resource) (name_of w.resource)) _)
  where
    go : (s t : Bool) → s && (t && true) ≡ s && t
    go true true = refl
    go true false = refl
    go false t = refl

-- none of the list is, where none has the name
module _ (z : Record) (d : ℕ) (row : ℕ → ℕ) (p : ℕ) (g : z.segment ≡ p / 4) where
  none_named : ((k : ℕ) → k < length (list_at d row p) → ((record_at d row p k).segment ≡ p / 4) × (alike z.resource (record_at d row p k).resource ≡ false))
      → has_same z (list_at d row p) ≡ false
  none_named h =
      has_none z (list_at d row p)
      (λ k l e.
      let w = h k l in
      false≢true (sym w.1 ∙ sym (in_segment z (record_at d row p k) (g ∙ sym w.0)) ∙ sym (ap (same_resource z) (list_at_lem d row p k l)) ∙ e))

  no_larger : d ≢ 0 → alike z.resource (larger d (p % 4)) ≡ false → has_same z (list_at d row p) ≡ false
  no_larger n e = none_named (λ k l. rw (larger_record_lem d row p k n) (refl, e))

  no_piece_lem : d ≡ 0 → ((x : Piece) → Own x → alike z.resource (resource_at (p % 4) x) ≡ false) → has_same z (list_at d row p) ≡ false
  no_piece_lem e f =
      none_named (λ k l. rw (own_record d row p k e) (refl, f (piece_at (row p) k) (own_here (row p) k (omega (arith, own_length d row p e)))))

-- ---- a piece of position p, which the other row gives to d
module _ (row row' : ℕ → ℕ) (p : ℕ) (x : Piece) (h : Own x) where
  has_piece : (ys : List Piece) → ((k : ℕ) → k < length ys → Own (get_or ys k no_piece))
      → has_same (piece_record row p x) (map (piece_record row' p) ys) ≡ has_number (piece_number x) ys
  unfolding has_same
  has_piece [] o = refl
  has_piece (y ∷ ys) o =
      ap₂ ◌||◌
      (in_segment (piece_record row p x) (piece_record row' p y) refl ∙ piece_alike (p % 4) x y (omega arith) h (o 0 (omega arith)))
      (has_piece ys (λ k l. o (suc k) (omega arith)))

  pub piece_there : (d : ℕ) → d < 36 → has_same (piece_record row p x) (list_at d row' p) ≡ set_at (piece_number x) (shape_in d (row' p))
  unfolding shape_in
  piece_there d i = ⊎_elim own other (equal_or d 0)
    where
      own : d ≡ 0 → has_same (piece_record row p x) (list_at d row' p) ≡ set_at (piece_number x) (shape_in d (row' p))
      own e = rw (own_list d row' p e, eq-eqb d 0 e) (has_piece (own_pieces (row' p)) (own_here (row' p)) ∙ in_set x h (row' p))

      other : d ≢ 0 → has_same (piece_record row p x) (list_at d row' p) ≡ set_at (piece_number x) (shape_in d (row' p))
      other n =
          rw (ne_eqb d 0 n)
          (no_larger (piece_record row p x) d row' p refl n (piece_not_larger d (p % 4) i n (omega arith) x h) ∙ sym (none_set x h))

-- ---- the larger resource of kind c whose lowest position is p
module _ (c : ℕ) (row row' : ℕ → ℕ) (p : ℕ) (h : c < 36) (n : c ≢ 0) (e : p % span c ≡ lead c) where
  its_own : has_same (larger_record c row p) (list_at c row' p) ≡ true
  unfolding has_same
  its_own =
      rw (at_lowest c row' p n e)
      (ap (λ (t : Bool). t || false)
      (in_segment (larger_record c row p) (larger_record c row' p) refl ∙ larger_alike c (p % 4) h n (omega arith) c h n ∙ eq-eqb c c refl))

  pub larger_there : (d : ℕ) → d < 36 → has_same (larger_record c row p) (list_at d row' p) ≡ eqb c d
  larger_there d i = ⊎_elim own other (equal_or d 0)
    where
      own : d ≡ 0 → has_same (larger_record c row p) (list_at d row' p) ≡ eqb c d
      own f =
          no_piece_lem (larger_record c row p) d row' p refl f (λ x o. larger_not_piece c (p % 4) h n (omega arith) x o)
          ∙ sym (ne_eqb c d (λ g. n (g ∙ f)))

      other : d ≢ 0 → has_same (larger_record c row p) (list_at d row' p) ≡ eqb c d
      other m =
          ⊎_elim
          (λ (f : c ≡ d). rw (← f) (its_own ∙ sym (eq-eqb c c refl)))
          (λ (f : c ≢ d).
          no_larger (larger_record c row p) d row' p refl m (larger_alike c (p % 4) h n (omega arith) d i m ∙ ne_eqb c d f) ∙ sym (ne_eqb c d f))
          (equal_or c d)
