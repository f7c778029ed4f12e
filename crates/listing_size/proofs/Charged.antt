-- The text of a listing is charged to the positions: to each the lines of the resources that are listed there, and a line for each User
-- field that its value gives. At most nine resources are listed at a position, so the numbers of those at position p are at most 9 p + 9.
-- No value has more text than 0, whose nine 26s have a field each.
use mathlib.Core.Path.{◌≡◌, refl, ap}
use mathlib.Core.Bool.{Bool, true, false, cond, ◌&&◌, ◌||◌}
use mathlib.Core.List.{List, [], ◌∷◌, map}
use Prim.Native.Nat.{ℕ, ◌+◌, ◌*◌, ◌%◌, ◌^◌, ◌≤◌, ◌<◌}
use native.Mathlib.Omega.{arith}
use lib.Dec.{T, leb, eqb, leb→le}
use lib.ListN.{length, length-append}
use Rattle.resource.specs.declared.Size.TheVariants.{S242}
use Rattle.resource.specs.declared.Piece.{Piece}
use Rattle.resource.specs.declared.Piece.TheVariants.{Part}
use Rattle.resource.specs.Index.{index_of, resource_at, position_of, place_of}
use Rattle.resource.specs.Tones.{tones_at, tones_of}
use Rattle.resource.specs.Values.{between, carried, pieces, fields_of, divides, piece_fields, own_pieces}
use Rattle.resource.proofs.Test.{both_left, both_right, wherever, met, below, every_below}
use Rattle.resource.proofs.Fields.{fields_most}
use Rattle.resource.proofs.Pieces.{divided_low, none_left}
use Rattle.kinds.specs.Kinds.{span}
use Rattle.kinds.specs.Signals.{Signals}
use Rattle.kinds.proofs.Fitting.{known}
use Rattle.records.specs.declared.Record.{Record}
use Rattle.records.specs.Records.{piece_record, lead, resource_column, larger, larger_record, list_at}
use Rattle.records.specs.Engine.{owner_at}
use Rattle.records.specs.Owns.{number}
use Rattle.records.proofs.Sums.{sum_to}
use Rattle.records.proofs.Listing.{own_list, records_most}
use Rattle.records.proofs.Owners.{divided_itself}
use Rattle.channel.specs.Layout.{positions}
use Rattle.channel.proofs.Laws.{positions_le}
use Rattle.text.specs.Text.{dec, signed, upto}
use Rattle.text.proofs.Laws.{dec_fit}
use Rattle.resource_line.specs.ResourceLine.{name_text, comma, tones_text, ru_name, ru_head, ru_line}
use Rattle.lines.specs.Lines.{sta_line}
use Rattle.lines.proofs.LineLaws.{id_short}
use Rattle.listed.specs.Listing.{record_line}
use Rattle.listing_size.proofs.Owner.{at_small}
use Rattle.listed.proofs.ByPosition.{sum_most, sum_each, sum_both, owned, fields_whole}
use Rattle.listing_size.proofs.Lengths.{digits, dec_most, sizes, whole_short}

-- ---- the lines of the stations, by position
-- a STA-ID has at most four digits, and none has four letters
abbrev pub sta_most : ℕ → ℕ
sta_most x = 19 + length (dec (x + 1))

pub sta_most_lem : (id x : ℕ) → id < 2048 → length (sta_line id (x + 1)) ≤ sta_most x
unfolding sta_line
sta_most_lem id x l = simp length-append (omega (arith, id_short id (omega arith)))

abbrev pub stas : (ℕ → ℕ) → (ℕ → ℕ) → ℕ → ℕ
stas o row p = owned sta_most o row p

-- ---- the most text of a position
-- of a value v that divides position p of n
abbrev pub most : ℕ → ℕ → ℕ → ℕ
most n p v = sizes n (map (piece_record (λ q. v) p) (own_pieces v)) + sum_to (λ k. 19 + digits (9 * p + k + 1)) (fields_of v)

-- no value has more than 0; one that divides nothing lists at most one resource, and gives it at most eight fields: 200 + 8 * 22 bytes
abbrev position_test : ℕ → ℕ → Bool
position_test n p = leb 376 (most n p 0) && below (λ v. wherever (divides v) (leb (most n p v) (most n p 0))) 51

tested : T (below (λ b. below (position_test (2 ^ b)) (2 ^ b)) 5)
unfolding dec signed upto carried pieces fields_of own_pieces index_of resource_at position_of place_of tones_at tones_of divides piece_fields
    name_text comma tones_text ru_name ru_head ru_line
tested = tt

module _ (b p : ℕ) (h : b < 5) (l : p < 2 ^ b) where
  here : T (position_test (2 ^ b) p)
  here = every_below (position_test (2 ^ b)) (2 ^ b) (every_below (λ b. below (position_test (2 ^ b)) (2 ^ b)) 5 tested b h) p l

  zero_least : 376 ≤ most (2 ^ b) p 0
  zero_least = leb→le 376 (most (2 ^ b) p 0) (both_left (leb 376 (most (2 ^ b) p 0)) _ here)

  zero_most : (v : ℕ) → divides v ≡ true → most (2 ^ b) p v ≤ most (2 ^ b) p 0
  zero_most v d =
      leb→le (most (2 ^ b) p v) (most (2 ^ b) p 0)
      (met (divides v) (leb (most (2 ^ b) p v) (most (2 ^ b) p 0))
      (every_below (λ v. wherever (divides v) (leb (most (2 ^ b) p v) (most (2 ^ b) p 0))) 51
      (both_right (leb 376 (most (2 ^ b) p 0)) _ here) v (divided_low v d))
      (rw d tt))

-- which is one of whole positions
no_sizes : (n : ℕ) (f : Piece → Record) (xs : List Piece) → length xs ≡ 0 → sizes n (map f xs) ≤ 200
no_sizes n f [] e = omega arith
no_sizes n f (x ∷ xs) e = absurd (omega arith)

one_size : (n : ℕ) (x : Record) → length (record_line n x) ≤ 200 → sizes n (x ∷ []) ≤ 200
one_size n x l = omega arith

whole_sizes : (c : ℕ) (row : ℕ → ℕ) (b p : ℕ) → b < 5 → p < 2 ^ b → c < 36 → divides (row p) ≡ false → sizes (2 ^ b) (list_at c row p) ≤ 200
unfolding list_at own_pieces larger resource_column
whole_sizes c row b p h l i d = go (eqb c 0) (eqb (row p) 28 || between 64 71 (row p)) (eqb (p % span c) (lead c))
  where
    go : (s t u : Bool) → sizes (2 ^ b)
        (cond s (map (piece_record row p) (cond t (Part S242 1 ∷ []) (pieces (row p)))) (cond u (larger_record c row p ∷ []) [])) ≤ 200
    go true true u = one_size (2 ^ b) (piece_record row p (Part S242 1)) (whole_short b p 0 _ h l (omega arith))
    go true false u = no_sizes (2 ^ b) (piece_record row p) (pieces (row p)) (none_left (row p) d)
    go false t true = one_size (2 ^ b) (larger_record c row p) (whole_short b p c _ h l i)
    go false t false = omega arith

below_16 : (b p : ℕ) → b < 5 → p < 2 ^ b → p < 16
unfolding positions
below_16 b p h l = omega (arith, positions_le b (omega arith))

-- ---- the text that is charged to a position
module _ (o row : ℕ → ℕ) (b : ℕ) (h : b < 5) (s : Signals o row 0 (2 ^ b)) where
  abbrev charge : ℕ → ℕ
  charge p = sizes (2 ^ b) (list_at (o p) row p) + stas o row p

  divided_charge : (p : ℕ) → p < 2 ^ b → divides (row p) ≡ true → charge p ≤ most (2 ^ b) p 0
  unfolding owner_at
  divided_charge p l d =
      let e : o p ≡ 0 = divided_itself (o p) p (row p) d (s.fits p (omega arith) l) in
      let z : sizes (2 ^ b) (list_at (o p) row p) ≡ sizes (2 ^ b) (map (piece_record row p) (own_pieces (row p))) = ap (sizes (2 ^ b)) (own_list (o p) row p e)
      in
      let t : stas o row p ≤ sum_to (λ k. 19 + digits (9 * p + k + 1)) (fields_of (row p)) =
      sum_most (λ k. sta_most (owner_at o row p k)) (λ k. 19 + digits (9 * p + k + 1)) (fields_of (row p))
      (λ k m.
      let n : owner_at o row p k ≡ number o row p k = rw d in
      let x : 9 * p + k + 1 < 1000 = omega (arith, below_16 b p h l, fields_most (row p)) in
      omega (arith, n, dec_most (owner_at o row p k + 1) (9 * p + k + 1) (omega (arith, n, records_most o row p)) x)) in
      omega (arith, zero_most b p h l (row p) d)

  whole_charge : (p : ℕ) → p < 2 ^ b → divides (row p) ≡ false → charge p ≤ most (2 ^ b) p 0
  whole_charge p l d =
      let t : stas o row p ≤ fields_of (row p) * 22 =
      sum_each (λ k. sta_most (owner_at o row p k)) 22 (fields_of (row p))
      (λ k m. omega (arith, dec_fit 2 (owner_at o row p k + 1) (omega (arith, at_small o row p k, below_16 b p h l, fields_most (row p))))) in
      let c = known (o p) p (row p) (s.fits p (omega arith) l) in
      omega (arith, fields_whole (row p) d, whole_sizes (o p) row b p h l c d, zero_least b p h l)

  position_charge : (p : ℕ) → p < 2 ^ b → charge p ≤ most (2 ^ b) p 0
  position_charge p l = go (divides (row p)) refl
    where
      go : (t : Bool) → divides (row p) ≡ t → charge p ≤ most (2 ^ b) p 0
      go true d = divided_charge p l d
      go false d = whole_charge p l d

  pub positions_charge : sum_to (λ p. sizes (2 ^ b) (list_at (o p) row p)) (2 ^ b) + sum_to (stas o row) (2 ^ b) ≤ sum_to (λ p. most (2 ^ b) p 0) (2 ^ b)
  positions_charge = sum_both (λ p. sizes (2 ^ b) (list_at (o p) row p)) (stas o row) (λ p. most (2 ^ b) p 0) (2 ^ b) position_charge
