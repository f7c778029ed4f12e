-- What a position adds to the text of a comparison: the lines of the resources that only one frame has there, and a line for each User field that
-- its two values give, 39 bytes and the name of the resource that owns it.
use mathlib.Core.Path.{◌≡◌, refl, ap, ◌∙◌}
use mathlib.Core.Bool.{Bool, true, false, cond, ◌||◌, false≢true}
use mathlib.Core.List.Memᴰ
use mathlib.Core.List.{List, [], ◌∷◌, ◌++◌, map}
use Prim.Native.Nat.{ℕ, zero, suc, ◌+◌, ◌*◌, ◌%◌, ◌^◌, ◌≤◌, ◌<◌}
use native.Mathlib.Nat.{mul-le-mul_right}
use native.Mathlib.Omega.{arith}
use lib.Dec.{eqb}
use lib.ListN.{length, get_or, length-append}
use borrow.Author.Tests.{eqb-true, eq-eqb}
use Rattle.resource.specs.declared.Size.TheVariants.{S242}
use Rattle.resource.specs.declared.Piece.{Piece}
use Rattle.resource.specs.declared.Piece.TheVariants.{Part}
use Rattle.resource.specs.Values.{between, pieces, fields_of, divides, own_pieces}
use Rattle.resource.proofs.Fields.{fields_most}
use Rattle.resource.proofs.Pieces.{none_left}
use Rattle.kinds.specs.Kinds.{span}
use Rattle.kinds.specs.Signals.{Signals}
use Rattle.kinds.proofs.Fitting.{known}
use Rattle.records.specs.declared.Record.{Record}
use Rattle.records.specs.Records.{lead, piece_record, list_at, records_from, blank}
use Rattle.records.specs.Engine.{listed, lowest, owner_at}
use Rattle.records.proofs.Sums.{sum_to}
use Rattle.records.proofs.Lead.{lowest_here}
use Rattle.records.proofs.Listing.{own_list, own_length, list_length, once_lead, nth_record}
use Rattle.records.proofs.Owners.{divided_itself}
use Rattle.listed.specs.Listing.{record_line}
use Rattle.listed.proofs.ByPosition.{sum_each, owned, fields_whole}
use Rattle.compared.specs.Reading.{resource_is, has_same}
use Rattle.compared.specs.Differences.{Difference, resource_item, keep}
use Rattle.compared.specs.Text.{item_line, difference_line, difference_lines}
use Rattle.compared.proofs.Keep.{Each, each_map, keep_append}
use Rattle.compared.proofs.Exchanged.{map_append}
use Rattle.compare_size.proofs.LineLengths.{line_most, lines_both, kept_one}
use Rattle.compare_size.proofs.ResourceLengths.{piece_most, name_length, Short, blank_short, piece_short, piece_name, list_short, each_get_d, plan_name}
use Rattle.compare_size.proofs.Beside.{among, only_of, alone_most, field_each, beside_most, piece_there}
use Rattle.compare_size.proofs.Owing.{debt, debt_most, debt_after, debt_end, debt_divided, debt_lead}

-- ---- the lines that frame s has of what is listed at a position
module _ (n s : ℕ) (t : Difference → Bool) where
  abbrev pub lines_only : List Record → ℕ
  lines_only zs = length (difference_lines n (keep t (map (resource_item s) zs)))

  only_both : (ys zs : List Record) → lines_only (ys ++ zs) ≡ lines_only ys + lines_only zs
  only_both ys zs =
      let f = resource_item s in
      ap (λ (ds : List Difference). length (difference_lines n (keep t ds))) (map_append f ys zs)
      ∙ ap (λ (ds : List Difference). length (difference_lines n ds)) (keep_append t (map f ys) (map f zs))
      ∙ lines_both n (keep t (map f ys)) (keep t (map f zs))

  -- one line more, or none
  one_only : (d : Difference) (ds : List Difference) (a : Bool) (m k : ℕ) → (a ≡ true → t d ≡ false) → length (difference_line n d) ≤ m
      → length (difference_lines n (keep t ds)) ≤ k → length (difference_lines n (keep t (d ∷ ds))) ≤ cond a 0 m + k
  unfolding keep difference_lines
  one_only d ds true m k same h i = rw (same refl) (omega arith)
  one_only d ds false m k same h i = go (t d)
    where
      go : (u : Bool) → length (difference_lines n (cond u (d ∷ keep t ds) (keep t ds))) ≤ m + k
      go true = rw (length-append (difference_line n d) (difference_lines n (keep t ds))) (omega arith)
      go false = omega arith

  pub only_positions : (o row : ℕ → ℕ) (m : ℕ) → lines_only (records_from o row m) ≡ sum_to (λ p. lines_only (list_at (o p) row p)) m
  only_positions o row zero = unfold keep difference_lines in refl
  only_positions o row (suc m) = only_both (records_from o row m) (list_at (o m) row m) ∙ omega (arith, only_positions o row m)

module _ (n s : ℕ) (l : s < 10) (t : Difference → Bool) where
  resource_line : (z : Record) (m : ℕ) → length (record_line n z) ≤ m → length (difference_line n (resource_item s z)) ≤ 8 + m
  unfolding item_line
  resource_line z m h = line_most n s l (resource_is z) m h

  pieces_only : (f : Piece → Record) (xs ys : List Piece) → Each (λ x. length (record_line n (f x)) ≤ piece_most x) xs
      → ((x : Piece) → among x ys ≡ true → t (resource_item s (f x)) ≡ false) → lines_only n s t (map f xs) ≤ only_of xs ys
  pieces_only f [] ys h k = unfold keep difference_lines in omega arith
  pieces_only f (x ∷ xs) ys h k =
      one_only n s t (resource_item s (f x)) (map (resource_item s) (map f xs)) (among x ys) (8 + piece_most x) (only_of xs ys) (k x)
      (resource_line (f x) (piece_most x) (h x (Memᴰ.head refl)))
      (pieces_only f xs ys (λ y m. h y (Memᴰ.tail m)) k)

-- ---- where a value divides nothing, at most one resource is listed
one_listed : (c p v : ℕ) → divides v ≡ false → listed c p v ≤ 1
unfolding listed own_pieces
one_listed c p v d = go (eqb c 0) (eqb v 28 || between 64 71 v) (eqb (p % span c) (lead c))
  where
    go : (s t u : Bool) → cond s (length (cond t (Part S242 1 ∷ []) (pieces v))) (cond u 1 0) ≤ 1
    go true true u = omega arith
    go true false u = omega (arith, none_left v d)
    go false t true = omega arith
    go false t false = omega arith

-- ---- of one plan
abbrev pub only_here : ℕ → (ℕ → ℕ) → (ℕ → ℕ) → ℕ → (Difference → Bool) → ℕ → ℕ
only_here b o row s t p = lines_only (2 ^ b) s t (list_at (o p) row p)

-- of the User field that the i-th resource owns
abbrev pub user_length : ℕ → (ℕ → ℕ) → (ℕ → ℕ) → ℕ → ℕ
user_length b o row i = 39 + name_length (get_or (records_from o row (2 ^ b)) i blank)

abbrev pub users_here : ℕ → (ℕ → ℕ) → (ℕ → ℕ) → ℕ → ℕ
users_here b o row p = owned (user_length b o row) o row p

module _ (b : ℕ) (h : b < 5) (o row : ℕ → ℕ) (g : Signals o row 0 (2 ^ b)) (s : ℕ) (l : s < 10) (t : Difference → Bool) where
  -- those of the pieces that are not among ys
  divided_only : (p : ℕ) (ys : List Piece) → p < 2 ^ b → divides (row p) ≡ true
      → ((x : Piece) → among x ys ≡ true → t (resource_item s (piece_record row p x)) ≡ false)
      → only_here b o row s t p ≤ only_of (own_pieces (row p)) ys
  divided_only p ys k d same =
      let e : o p ≡ 0 = divided_itself (o p) p (row p) d (g.fits p (omega arith) k) in
      rw (own_list (o p) row p e)
      (pieces_only (2 ^ b) s l t (piece_record row p) (own_pieces (row p)) ys (piece_short b p h k row d) same)

  -- no name of a piece has more than 28 bytes
  divided_users : (p : ℕ) → p < 2 ^ b → divides (row p) ≡ true → users_here b o row p ≤ fields_of (row p) * 67
  unfolding owner_at
  divided_users p k d =
      let e : o p ≡ 0 = divided_itself (o p) p (row p) d (g.fits p (omega arith) k) in
      let zs = list_at (o p) row p in
      let short : Each (λ z. name_length z ≤ 28) zs =
      rw (own_list (o p) row p e) (each_map (λ z. name_length z ≤ 28) (piece_record row p) (own_pieces (row p)) (piece_name b p h k row d)) in
      sum_each (λ i. user_length b o row (owner_at o row p i)) 67 (fields_of (row p))
      (λ i m.
      let n : i < length zs = omega (arith, own_length (o p) row p e, field_each (row p) d) in
      rw (d, nth_record o row p (2 ^ b) i k n) (omega (arith, each_get_d (λ (z : Record). name_length z ≤ 28) zs blank blank_short short i)))

  -- a position that its value divides: at most nine fields
  alone_charge : (p : ℕ) → p < 2 ^ b → divides (row p) ≡ true → debt o p + only_here b o row s t p + users_here b o row p ≤ 1134 + debt o (suc p)
  alone_charge p k d =
      omega (
        arith,
        divided_only p [] k d (λ x e. absurd (false≢true e)),
        divided_users p k d,
        alone_most (row p) d,
        fields_most (row p),
        debt_divided b o row g p k d,
      )

  -- any other: at most eight fields, and a line where a resource is listed, which then owns them
  whole_charge : (p : ℕ) → p < 2 ^ b → divides (row p) ≡ false → debt o p + only_here b o row s t p + users_here b o row p ≤ 624 + debt o (suc p)
  unfolding owner_at
  whole_charge p k d = go (list_at (o p) row p) refl (omega (arith, list_length (o p) row p, one_listed (o p) p (row p) d))
    where
      c : ℕ
      c = o p

      known_here : c < 36
      known_here = known c p (row p) (g.fits p (omega arith) k)

      go : (zs : List Record) → list_at c row p ≡ zs → length zs ≤ 1 → debt o p + lines_only (2 ^ b) s t zs + users_here b o row p ≤ 624 + debt o (suc p)
      go [] e m =
          let u = sum_each (λ i. user_length b o row (owner_at o row p i)) 70 (fields_of (row p))
          (λ i j. omega (arith, plan_name b h o row g (owner_at o row p i))) in
          let none : lines_only (2 ^ b) s t [] ≡ 0 = unfold keep difference_lines in refl in
          omega (arith, u, none, fields_whole (row p) d, debt_most o p)
      go (z ∷ []) e m =
          let one : length (list_at c row p) ≡ 1 = ap length e in
          let f : p % span c ≡ lead c = once_lead c row p 0 (omega arith) in
          let first : get_or (records_from o row (2 ^ b)) (length (records_from o row p) + 0) blank ≡ z =
          nth_record o row p (2 ^ b) 0 k (omega arith) ∙ ap (λ (zs : List Record). get_or zs 0 blank) e in
          let low : lowest c p ≡ p = eqb-true _ _ (lowest_here c p ∙ eq-eqb (p % span c) (lead c) f) in
          let u : users_here b o row p ≤ fields_of (row p) * (39 + name_length z) =
          sum_each (λ i. user_length b o row (owner_at o row p i)) (39 + name_length z) (fields_of (row p))
          (λ i j. rw (d, low, first) (omega arith)) in
          let w : fields_of (row p) * (39 + name_length z) ≤ 8 * (39 + name_length z) = mul-le-mul_right (39 + name_length z) (fields_whole (row p) d) in
          let short : Short (2 ^ b) c z = list_short b p h k c row known_here d z (rw e (Memᴰ.head refl)) in
          omega (
            arith,
            u,
            w,
            short.line_short,
            kept_one (2 ^ b) t (resource_item s z),
            resource_line (2 ^ b) s l t z (length (record_line (2 ^ b) z)) (omega arith),
            debt_lead b o row g p k f,
            debt_after o p f,
          )
      go (z ∷ y ∷ zs) e m = absurd (omega arith)

-- ---- of two plans, where what both have has no line
module _ (b : ℕ) (h : b < 5) (o row : ℕ → ℕ) (g : Signals o row 0 (2 ^ b)) (o' row' : ℕ → ℕ) (g' : Signals o' row' 0 (2 ^ b))
    (t : Difference → Bool)
    (same : (z : Record) → has_same z (records_from o' row' (2 ^ b)) ≡ true → t (resource_item 1 z) ≡ false)
    (same' : (z : Record) → has_same z (records_from o row (2 ^ b)) ≡ true → t (resource_item 2 z) ≡ false) where
  abbrev here : ℕ → ℕ
  here p = only_here b o row 1 t p + users_here b o row p

  abbrev there : ℕ → ℕ
  there p = only_here b o' row' 2 t p + users_here b o' row' p

  both_divided : (p : ℕ) → p < 2 ^ b → divides (row p) ≡ true → divides (row' p) ≡ true
      → debt o p + here p + (debt o' p + there p) ≤ 1758 + debt o (suc p) + debt o' (suc p)
  both_divided p l d e =
      let i : o p ≡ 0 = divided_itself (o p) p (row p) d (g.fits p (omega arith) l) in
      let j : o' p ≡ 0 = divided_itself (o' p) p (row' p) e (g'.fits p (omega arith) l) in
      omega (
        arith,
        divided_only b h o row g 1 (omega arith) t p (own_pieces (row' p)) l d
            (λ x a. same (piece_record row p x) (piece_there row o' row' p (2 ^ b) x l j a)),
        divided_only b h o' row' g' 2 (omega arith) t p (own_pieces (row p)) l e
            (λ x a. same' (piece_record row' p x) (piece_there row' o row p (2 ^ b) x l i a)),
        divided_users b h o row g 1 (omega arith) t p l d,
        divided_users b h o' row' g' 2 (omega arith) t p l e,
        beside_most (row p) d (row' p) e,
        debt_divided b o row g p l d,
        debt_divided b o' row' g' p l e,
      )

  position_charge : (p : ℕ) → p < 2 ^ b → debt o p + here p + (debt o' p + there p) ≤ 1758 + debt o (suc p) + debt o' (suc p)
  position_charge p l = go (divides (row p)) (divides (row' p)) refl refl
    where
      go : (u v : Bool) → divides (row p) ≡ u → divides (row' p) ≡ v
          → debt o p + here p + (debt o' p + there p) ≤ 1758 + debt o (suc p) + debt o' (suc p)
      go true true d e = both_divided p l d e
      go true false d e = omega (arith, alone_charge b h o row g 1 (omega arith) t p l d, whole_charge b h o' row' g' 2 (omega arith) t p l e)
      go false true d e = omega (arith, whole_charge b h o row g 1 (omega arith) t p l d, alone_charge b h o' row' g' 2 (omega arith) t p l e)
      go false false d e = omega (arith, whole_charge b h o row g 1 (omega arith) t p l d, whole_charge b h o' row' g' 2 (omega arith) t p l e)

  abbrev sums : ℕ → ℕ
  sums m =
      sum_to (only_here b o row 1 t) m + sum_to (users_here b o row) m + sum_to (only_here b o' row' 2 t) m + sum_to (users_here b o' row') m

  sums_charge : (m : ℕ) → m ≤ 2 ^ b → sums m ≤ m * 1758 + debt o m + debt o' m
  sums_charge zero l = omega arith
  sums_charge (suc m) l = omega (arith, sums_charge m (omega arith), position_charge m (omega arith))

  pub positions_charge : sums (2 ^ b) ≤ 2 ^ b * 1758
  positions_charge = omega (arith, sums_charge (2 ^ b) (omega arith), debt_end b o row g, debt_end b o' row' g')
