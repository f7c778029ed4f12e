-- The most bytes of a resource's line and of its name, at each position of each bandwidth: tests that the checker computes over the
-- values and the kinds.
use mathlib.Core.Path.{◌≡◌, refl}
use mathlib.Core.Bool.{Bool, true, false, cond, ◌&&◌, ◌||◌}
use mathlib.Core.List.Memᴰ
use mathlib.Core.List.{List, [], ◌∷◌, map}
use Prim.Native.Nat.{ℕ, zero, suc, ◌+◌, ◌*◌, ◌/◌, ◌%◌, ◌^◌, ◌≤◌, ◌<◌}
use native.Mathlib.Omega.{arith}
use lib.Dec.{T, ltb, leb, eqb, leb→le}
use lib.ListN.{length, get_or, length-append}
use borrow.Author.Tests.{ltb-true, eqb-true, eq-eqb}
use Rattle.answer.specs.Least.{least}
use Rattle.resource.specs.declared.Size.TheVariants.{S242}
use Rattle.resource.specs.declared.Piece.{Piece}
use Rattle.resource.specs.declared.Piece.TheVariants.{Part, With26}
use Rattle.resource.specs.declared.Resource.{Resource}
use Rattle.resource.specs.Places.{places_of, segments_of}
use Rattle.resource.specs.Index.{index_of, resource_at, position_of, place_of}
use Rattle.resource.specs.Tones.{Span, tones_at, tones_leaving_out, tones_joined, tones_of}
use Rattle.resource.specs.Values.{between, carried, pieces, fields_of, divides, piece_fields, own_pieces}
use Rattle.resource.proofs.Test.{both_left, both_right, wherever, met, below, every_below}
use Rattle.resource.proofs.Fields.{fields_most}
use Rattle.resource.proofs.Pieces.{divided_low, none_left}
use Rattle.kinds.specs.Kinds.{kinds, kind_at, span, mask, takes}
use Rattle.kinds.specs.Fields.{gives, share, shares, fields_in}
use Rattle.kinds.specs.Signals.{Signals}
use Rattle.kinds.proofs.Fitting.{known}
use Rattle.kinds.proofs.Tests.{by_test}
use Rattle.kinds.proofs.Table.{span_0, span_most, narrow_span}
use Rattle.records.specs.declared.Record.{Record}
use Rattle.records.specs.Records.{in_channel, piece_record, lead, resource_column, larger, larger_record, once}
use Rattle.records.specs.Records.{list_at, records_from, blank}
use Rattle.records.proofs.Lead.{lead_0}
use Rattle.records.proofs.Owners.{in_most}
use Rattle.text.specs.Text.{dec, signed, upto}
use Rattle.text.proofs.Laws.{dec_fit}
use Rattle.resource_line.specs.ResourceLine.{name_text, comma, tones_text, ru_name, ru_head, ru_line}
use Rattle.listed.specs.Listing.{record_line}
use Rattle.compared.proofs.Keep.{Each, each_append, each_nil, each_cons, each_map}

-- ---- a test of each piece
abbrev each_piece : (Piece → Bool) → List Piece → Bool
each_piece f [] = true
each_piece f (x ∷ xs) = f x && each_piece f xs

all_pieces : (f : Piece → Bool) (xs : List Piece) → T (each_piece f xs) → Each (λ x. T (f x)) xs
all_pieces f [] t = each_nil (λ x. T (f x))
all_pieces f (x ∷ xs) t =
    each_cons (λ x. T (f x)) x xs (both_left (f x) (each_piece f xs) t) (all_pieces f xs (both_right (f x) (each_piece f xs) t))

-- ---- computed
-- the line of a piece that has one field: `ru=26 index=37 segment=3 users=1 tones=2010:2035`; a 106+26 has two runs
abbrev pub piece_most : Piece → ℕ
piece_most (Part s i) = 51
piece_most (With26 i) = 66

piece_most_lem : (x : Piece) → piece_most x ≤ 66
piece_most_lem (Part s i) = omega arith
piece_most_lem (With26 i) = omega arith

abbrev pub name_length : Record → ℕ
name_length z = length (ru_name z.segment z.resource)

abbrev piece_test : ℕ → ℕ → ℕ → Piece → Bool
piece_test n p v x =
    let z = piece_record (λ q. v) p x in leb (length (record_line n z)) (piece_most x) && leb (name_length z) 28

abbrev divided_test : ℕ → ℕ → ℕ → Bool
divided_test n p v = wherever (divides v) (each_piece (piece_test n p v) (own_pieces v))

-- a resource no smaller than a position: of one no wider than a segment the number of fields has at most two digits, of a wider one three
abbrev users_most : ℕ → ℕ
users_most c = cond (ltb c 7) 99 999

-- what the line and eight names of a wider one have more than those of `ru=484+242 index=4 segment=3`
abbrev pub spare : ℕ → ℕ
spare c = cond (ltb c 7) 0 64

abbrev larger_test : ℕ → ℕ → ℕ → Bool
larger_test n p c =
    let r = larger c (p % 4) in
    let m = length (ru_name (p / 4) r) in
    wherever (eqb (p % span c) (lead c))
    (leb (length (ru_line (p / 4) r (users_most c) (tones_of n (p / 4) r)) + 8 * m) (304 + spare c) && leb m 31)

abbrev position_test : ℕ → ℕ → Bool
position_test n p = below (divided_test n p) 51 && below (larger_test n p) 36

tested : T (below (λ b. below (position_test (2 ^ b)) (2 ^ b)) 5)
unfolding dec signed upto carried pieces fields_of own_pieces index_of resource_at position_of place_of tones_at tones_leaving_out tones_joined tones_of
    places_of segments_of divides piece_fields name_text comma tones_text ru_name ru_head ru_line resource_column larger lead least span mask takes kind_at
    kinds
tested = tt

-- ---- how many fields
share_most : (c p v : ℕ) → share c p v ≤ 9
unfolding share
share_most c p v = go (gives c p v)
  where
    go : (t : Bool) → cond t (fields_of v) 0 ≤ 9
    go true = fields_most v
    go false = omega arith

shares_most : (x c : ℕ) (row : ℕ → ℕ) (a n : ℕ) → shares x c row a n ≤ 9 * n
shares_most x c row a zero = omega arith
shares_most x c row a (suc n) =
    let v = row (a + n) in
    omega (arith, shares_most x c row a n, in_most x (a + n) (share c (a + n) v), share_most c (a + n) v)

fields_few : (x c : ℕ) (row : ℕ → ℕ) (p : ℕ) → fields_in x c row p ≤ 9 * span c
unfolding fields_in
fields_few x c row p = shares_most x c row (span c * (p / span c)) (span c)

users_few : (c : ℕ) (row : ℕ → ℕ) (p : ℕ) → c < 36 → fields_in 1 c row p + fields_in 2 c row p ≤ users_most c
users_few c row p l = go (ltb c 7) refl
  where
    go : (t : Bool) → ltb c 7 ≡ t → fields_in 1 c row p + fields_in 2 c row p ≤ cond t 99 999
    go true e = omega (arith, fields_few 1 c row p, fields_few 2 c row p, narrow_span c (ltb-true c 7 e))
    go false e = omega (arith, fields_few 1 c row p, fields_few 2 c row p, span_most c l)

own_few : (x p v : ℕ) → in_channel x p (piece_fields v) ≤ 9
unfolding piece_fields
own_few x p v = omega (arith, in_most x p (piece_fields v), go (divides v))
  where
    go : (t : Bool) → cond t 1 (fields_of v) ≤ 9
    go true = omega arith
    go false = fields_most v

digits_most : (c u : ℕ) → u ≤ users_most c → length (dec u) ≤ length (dec (users_most c))
unfolding dec
digits_most c u = go (ltb c 7)
  where
    go : (t : Bool) → u ≤ cond t 99 999 → length (dec u) ≤ length (dec (cond t 99 999))
    go true l = dec_fit 1 u (omega arith)
    go false l = dec_fit 2 u (omega arith)

more_users : (g : ℕ) (r : Resource) (u m : ℕ) (ss : List Span) → length (dec u) ≤ length (dec m)
    → length (ru_line g r u ss) ≤ length (ru_line g r m ss)
unfolding ru_line ru_head
more_users g r u m ss l = simp length-append (omega arith)

-- ---- a resource no smaller than a position, of kind c: its line and eight names of it; and any resource
pub record Short (n c : ℕ) (z : Record) : Type 0 where
  pub line_short : length (record_line n z) + 8 * name_length z ≤ 304 + spare c
  pub name_short : name_length z ≤ 31

pub blank_short : name_length blank ≤ 28
unfolding ru_name name_text dec
blank_short = omega arith

module _ (b p : ℕ) (h : b < 5) (l : p < 2 ^ b) where
  here : T (position_test (2 ^ b) p)
  here = every_below (position_test (2 ^ b)) (2 ^ b) (every_below (λ b. below (position_test (2 ^ b)) (2 ^ b)) 5 tested b h) p l

  divided_here : (v : ℕ) → divides v ≡ true → Each (λ x. T (piece_test (2 ^ b) p v x)) (own_pieces v)
  divided_here v d =
      all_pieces (piece_test (2 ^ b) p v) (own_pieces v)
      (met (divides v) (each_piece (piece_test (2 ^ b) p v) (own_pieces v))
      (every_below (divided_test (2 ^ b) p) 51 (both_left (below (divided_test (2 ^ b) p) 51) _ here) v (divided_low v d))
      (rw d tt))

  larger_here : (c : ℕ) → c < 36 → T (larger_test (2 ^ b) p c)
  larger_here c k = every_below (larger_test (2 ^ b) p) 36 (both_right (below (divided_test (2 ^ b) p) 51) _ here) c k

  -- a piece of a position that its value divides
  pub piece_short : (row : ℕ → ℕ) → divides (row p) ≡ true
      → Each (λ x. length (record_line (2 ^ b) (piece_record row p x)) ≤ piece_most x) (own_pieces (row p))
  piece_short row d x m =
      leb→le (length (record_line (2 ^ b) (piece_record row p x))) (piece_most x)
      (both_left (leb (length (record_line (2 ^ b) (piece_record row p x))) (piece_most x)) _ (divided_here (row p) d x m))

  pub piece_name : (row : ℕ → ℕ) → divides (row p) ≡ true → Each (λ x. name_length (piece_record row p x) ≤ 28) (own_pieces (row p))
  piece_name row d x m =
      leb→le (name_length (piece_record row p x)) 28
      (both_right (leb (length (record_line (2 ^ b) (piece_record row p x))) (piece_most x)) _ (divided_here (row p) d x m))

  -- one of kind c whose lowest position is p
  whole_short : (c : ℕ) (z : Record) → c < 36 → p % span c ≡ lead c → z.resource ≡ larger c (p % 4) → z.segment ≡ p / 4
      → z.fields1 + z.fields2 ≤ users_most c → Short (2 ^ b) c z
  whole_short c z k i e f u =
      let r = larger c (p % 4) in
      let ss = tones_of (2 ^ b) (p / 4) r in
      let m = length (ru_name (p / 4) r) in
      let line = length (ru_line (p / 4) r (users_most c) ss) in
      let s = leb (line + 8 * m) (304 + spare c) in
      let t = met (eqb (p % span c) (lead c)) (s && leb m 31) (larger_here c k) (rw (eq-eqb (p % span c) (lead c) i) tt) in
      let j : line + 8 * m ≤ 304 + spare c = leb→le _ _ (both_left s _ t) in
      record {
        line_short =
            rw (e, f) (omega (arith, j, more_users (p / 4) r (z.fields1 + z.fields2) (users_most c) ss (digits_most c (z.fields1 + z.fields2) u)));
        name_short = rw (e, f) (leb→le m 31 (both_right s (leb m 31) t));
      }

  -- what is listed where the value divides nothing: its 242, or the larger resource whose lowest position it is
  undivided : (row : ℕ → ℕ) → divides (row p) ≡ false → Each (λ x. Short (2 ^ b) 0 (piece_record row p x)) (own_pieces (row p))
  unfolding own_pieces
  undivided row d = go (eqb (row p) 28 || between 64 71 (row p)) (pieces (row p)) (none_left (row p) d)
    where
      go : (t : Bool) (xs : List Piece) → length xs ≡ 0 → Each (λ x. Short (2 ^ b) 0 (piece_record row p x)) (cond t (Part S242 1 ∷ []) xs)
      go true xs e =
          each_cons (λ x. Short (2 ^ b) 0 (piece_record row p x)) (Part S242 1) []
          (whole_short 0 (piece_record row p (Part S242 1)) (omega arith) (rw (span_0, lead_0) (omega arith)) (unfold larger resource_column in refl) refl
          (omega (arith, own_few 1 p (row p), own_few 2 p (row p))))
          (each_nil (λ x. Short (2 ^ b) 0 (piece_record row p x)))
      go false [] e = each_nil (λ x. Short (2 ^ b) 0 (piece_record row p x))
      go false (x ∷ xs) e = absurd (omega arith)

  larger_short : (c : ℕ) (row : ℕ → ℕ) → c < 36 → Each (Short (2 ^ b) c) (once c row p)
  larger_short c row k = go (eqb (p % span c) (lead c)) refl
    where
      go : (t : Bool) → eqb (p % span c) (lead c) ≡ t → Each (Short (2 ^ b) c) (cond t (larger_record c row p ∷ []) [])
      go true e =
          each_cons (Short (2 ^ b) c) (larger_record c row p) []
          (whole_short c (larger_record c row p) k (eqb-true _ _ e) refl refl (users_few c row p k))
          (each_nil (Short (2 ^ b) c))
      go false e = each_nil (Short (2 ^ b) c)

  pub list_short : (c : ℕ) (row : ℕ → ℕ) → c < 36 → divides (row p) ≡ false → Each (Short (2 ^ b) c) (list_at c row p)
  unfolding list_at
  list_short c row k d = go (eqb c 0) refl
    where
      go : (t : Bool) → eqb c 0 ≡ t → Each (Short (2 ^ b) c) (cond t (map (piece_record row p) (own_pieces (row p))) (once c row p))
      go true e = rw (eqb-true c 0 e) (each_map (Short (2 ^ b) 0) (piece_record row p) (own_pieces (row p)) (undivided row d))
      go false e = larger_short c row k

  list_name : (c : ℕ) (row : ℕ → ℕ) → c < 36 → Each (λ z. name_length z ≤ 31) (list_at c row p)
  unfolding list_at
  list_name c row k = by_test (divides (row p)) divided (λ d z m. (list_short c row k d z m).name_short)
    where
      own : divides (row p) ≡ true → Each (λ x. name_length (piece_record row p x) ≤ 31) (own_pieces (row p))
      own d x m = omega (arith, piece_name row d x m)

      divided : divides (row p) ≡ true → Each (λ z. name_length z ≤ 31) (list_at c row p)
      divided d = go (eqb c 0)
        where
          go : (t : Bool) → Each (λ z. name_length z ≤ 31) (cond t (map (piece_record row p) (own_pieces (row p))) (once c row p))
          go true = each_map (λ z. name_length z ≤ 31) (piece_record row p) (own_pieces (row p)) (own d)
          go false = λ z m. (larger_short c row k z m).name_short

-- ---- of a plan
pub each_get_d : {A : Type 0} (P : A → Type 0) (xs : List A) (d : A) → P d → Each P xs → (k : ℕ) → P (get_or xs k d)
each_get_d P [] d p q k = p
each_get_d P (x ∷ xs) d p q zero = q x (Memᴰ.head refl)
each_get_d P (x ∷ xs) d p q (suc k) = each_get_d P xs d p (λ e m. q e (Memᴰ.tail m)) k

module _ (b : ℕ) (h : b < 5) (o row : ℕ → ℕ) (g : Signals o row 0 (2 ^ b)) where
  records_name : (m : ℕ) → m ≤ 2 ^ b → Each (λ z. name_length z ≤ 31) (records_from o row m)
  records_name zero l = each_nil (λ z. name_length z ≤ 31)
  records_name (suc m) l =
      each_append (λ z. name_length z ≤ 31) (records_from o row m) (list_at (o m) row m) (records_name m (omega arith))
      (list_name b m h (omega arith) (o m) row (known (o m) m (row m) (g.fits m (omega arith) (omega arith))))

  -- the name of any resource, and of what stands past the last: none has more than `ru=2x996+484 index=12 segment=1`
  pub plan_name : (k : ℕ) → name_length (get_or (records_from o row (2 ^ b)) k blank) ≤ 31
  plan_name =
      each_get_d (λ (z : Record). name_length z ≤ 31) (records_from o row (2 ^ b)) blank (omega (arith, blank_short)) (records_name (2 ^ b) (omega arith))
