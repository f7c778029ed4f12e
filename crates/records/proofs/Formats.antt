-- The fields of the resource that owns a field, and the position that the field comes from: it is shared there exactly where its owner has two or
-- more.
use mathlib.Core.Path.{◌≡◌, ◌∙◌, ap}
use mathlib.Core.Bool.{true, false}
use Prim.Native.Nat.{ℕ, ◌<◌}
use native.Mathlib.Omega.{arith}
use lib.Dec.{leb}
use lib.ListN.{get_or}
use Rattle.resource.specs.Values.{fields_of, divides}
use Rattle.resource.proofs.Pieces.{some_pieces, no_pieces_left, divided_low}
use Rattle.kinds.specs.Signals.{Place, Signals}
use Rattle.kinds.specs.Fields.{together, shared}
use Rattle.records.specs.declared.Record.{Record}
use Rattle.records.specs.Records.{records_from, blank}
use Rattle.records.specs.Owns.{ComesFrom, number, Owns, of_piece, of_place}
use Rattle.records.specs.FieldsOf.{fields_on}
use Rattle.records.specs.Engine.{lowest}
use Rattle.records.proofs.Listing.{record_at, Located, located_record}
use Rattle.records.proofs.Lead.{lowest_only}
use Rattle.records.proofs.Gives.{low_share}
use Rattle.records.proofs.Totals.{own_total, piece_one, all_places}
use Rattle.records.proofs.Homes.{home_piece, home_whole}

module _ (o row : ℕ → ℕ) (n : ℕ) (s : Signals o row 0 n) where
  abbrev rec : ℕ → Record
  rec i = get_or (records_from o row n) i blank

  -- a piece has one field, and its position gives none to a larger resource
  piece_alone : (i p k : ℕ) → p < n → k < fields_of (row p) → o p ≡ 0 → divides (row p) ≡ true → i ≡ number o row p k
      → leb 2 (fields_on (rec i)) ≡ shared o row p
  piece_alone i p k l h e d f =
      let r : rec i ≡ record_at (o p) row p k =
      ap rec f ∙ located_record o row n (number o row p k) p k (home_piece o row n s p k l h d) in
      let a : fields_on (rec i) ≡ 1 = ap fields_on r ∙ piece_one o row n s p k d e in
      let z : together (o p) row p ≡ 0 =
      ap (λ (x : ℕ). together x row p) e ∙ own_total row p ∙ low_share 0 p (row p) (omega (arith, divided_low (row p) d)) in
      rw (a, z)

  -- any other resource has all the fields of its places
  place_shared : (i p k q : ℕ) → p < n → k < fields_of (row p) → divides (row p) ≡ false → Place (o p) p q → q ≡ lowest (o p) p → i ≡ number o row q 0
      → leb 2 (fields_on (rec i)) ≡ shared o row p
  place_shared i p k q l h d m g f =
      let w : o q ≡ o p = (s.entire p q (omega arith) l m).2 in
      let t : Located o row n (number o row q 0) q 0 = rw g (home_whole o row n s p l (omega arith) d) in
      let r : rec i ≡ record_at (o p) row q 0 =
      ap rec f ∙ located_record o row n (number o row q 0) q 0 t ∙ ap (λ (x : ℕ). record_at x row q 0) w in
      ap (leb 2) (ap fields_on r ∙ all_places o row n s p q 0 l d m)

  -- where the field comes from, and that it is shared there exactly where its owner has two or more
  pub as_owned : (i c j : ℕ) → Owns o row n i c j → (p : ℕ) × (k : ℕ) × ComesFrom row n c j p k × (leb 2 (fields_on (rec i)) ≡ shared o row p)
  as_owned i c j (of_piece p k w e l f) =
      (p, k, w, piece_alone i p k w.inside w.kth e (some_pieces (row p) k l) f)
  as_owned i c j (of_place p k q w e h g f) =
      (p, k, w, place_shared i p k q w.inside w.kth (no_pieces_left (row p) e) h (lowest_only (o p) p q h g) f)
