-- Two rows that differ at one position, which either plan gives to itself: the User fields of other positions, their numbers and their owners.
use mathlib.Core.Path.{◌≡◌, refl, sym, ap, ◌∙◌}
use mathlib.Core.Logic.{◌≢◌, ⊎_elim}
use mathlib.Core.Bool.{Bool, true, false}
use mathlib.Core.List.{List}
use Prim.Native.Nat.{ℕ, zero, suc, ◌+◌, ◌≤◌, ◌<◌}
use native.Mathlib.Omega.{arith}
use native.Mathlib.Nat.{eq-or-lt_of_le, le_of_suc-le-suc}
use lib.ListN.{length, get_or, length-append}
use Rattle.resource.specs.Values.{fields_of, divides, own_pieces}
use Rattle.kinds.specs.Signals.{Signals}
use Rattle.kinds.specs.Fields.{fields_to}
use Rattle.records.specs.declared.Record.{Record}
use Rattle.records.specs.Records.{in_channel, list_at, records_from, blank}
use Rattle.records.specs.Owns.{ComesFrom, number, Owns}
use Rattle.records.specs.Engine.{lowest}
use Rattle.records.proofs.Lead.{itself_lowest}
use Rattle.records.proofs.Listing.{Located, located_record, record_position, own_length, nth_record}
use Rattle.records.proofs.Owners.{owner_only}
use Rattle.records.proofs.Homes.{home, nth, home_entire, owner_home}
use Rattle.claims.proofs.Swept.{Own, list_kept}
use Rattle.claims.specs.Sweep.{Shifted}

-- ---- two counts over the positions, which differ by what is at p alone
module _ (count count' each each' : ℕ → ℕ) (p : ℕ) (start : count' 0 ≡ count 0) (next : (q : ℕ) → count (suc q) ≡ count q + each q)
    (next' : (q : ℕ) → count' (suc q) ≡ count' q + each' q) (same : (q : ℕ) → q ≢ p → each' q ≡ each q) where
  up_to : (q : ℕ) → q ≤ p → count' q ≡ count q
  up_to zero l = start
  up_to (suc q) l = omega (arith, next q, next' q, up_to q (omega arith), same q (λ e. omega arith))

  past : (q : ℕ) → p < q → count' q + each p ≡ count q + each' p
  past zero l = absurd (omega arith)
  past (suc q) l =
      ⊎_elim
      (λ (e : p ≡ q). omega (arith, next q, next' q, up_to q (omega arith), ap each e, ap each' e))
      (λ (h : p < q). omega (arith, next q, next' q, past q h, same q (λ e. omega arith)))
      (eq-or-lt_of_le (le_of_suc-le-suc l))

  pub counts_shifted : (q k : ℕ) → Shifted p (each p) (each' p) q (count q + k) (count' q + k)
  counts_shifted q k = record { below = λ l. omega (arith, up_to q (omega arith)); above = λ l. omega (arith, past q l) }

-- the k-th field of a position that has the same value in another row of as many
pub comes_too : (row row' : ℕ → ℕ) (n n' c j q k : ℕ) → n ≡ n' → row' q ≡ row q → ComesFrom row n c j q k → ComesFrom row' n' c (fields_to c row' q + k) q k
comes_too row row' n n' c j q k e f w = record { inside = omega (arith, e, w.inside); channel = w.channel; kth = rw f w.kth; follows = refl }

-- the owner of a field is listed at no other position that is given to itself
home_other : (o row : ℕ → ℕ) (n : ℕ) → Signals o row 0 n → (t : Bool) (q p : ℕ) → q < n → o p ≡ 0 → q ≢ p → home o q t ≢ p
home_other o row n s true q p l e d f = d f
home_other o row n s false q p l e d f =
    let g : o q ≡ 0 = sym (home_entire o row n s q l).1 ∙ ap o f ∙ e in
    d (sym (ap (λ (c : ℕ). lowest c q) g ∙ itself_lowest q) ∙ f)

-- ---- the two rows
module _ (row row' : ℕ → ℕ) (p : ℕ) (other : (q : ℕ) → q ≢ p → row' q ≡ row q) (old : Own (row p)) (new : Own (row' p)) where
  -- a field's number
  pub field_shifted : (c q k : ℕ)
      → Shifted p (in_channel c p (fields_of (row p))) (in_channel c p (fields_of (row' p))) q (fields_to c row q + k) (fields_to c row' q + k)
  field_shifted c =
      counts_shifted (fields_to c row) (fields_to c row') (λ q. in_channel c q (fields_of (row q))) (λ q. in_channel c q (fields_of (row' q))) p refl
      (λ q. refl) (λ q. refl) (λ q d. ap (λ (v : ℕ). in_channel c q (fields_of v)) (other q d))

  -- a resource's, of those that are listed at q
  pub number_shifted : (o : ℕ → ℕ) → o p ≡ 0 → (q k : ℕ)
      → Shifted p (length (own_pieces (row p))) (length (own_pieces (row' p))) q (number o row q k) (number o row' q k)
  number_shifted o e q k =
      rw (← own_length (o p) row p e, ← own_length (o p) row' p e)
      (counts_shifted (λ q. length (records_from o row q)) (λ q. length (records_from o row' q)) (λ q. length (list_at (o q) row q))
      (λ q. length (list_at (o q) row' q)) p refl
      (λ q. length-append (records_from o row q) (list_at (o q) row q)) (λ q. length-append (records_from o row' q) (list_at (o q) row' q))
      (λ q d. ap length (sym (list_kept row row' p other old new (o q) q d))) q k)

  -- the owners of a field of another position are one resource
  pub record OneResource (o : ℕ → ℕ) (n i i' : ℕ) : Type 0 where
    pub same : get_or (records_from o row n) i blank ≡ get_or (records_from o row' n) i' blank
    pub another : (get_or (records_from o row n) i blank).position ≢ p
    pub moved : Shifted p (length (own_pieces (row p))) (length (own_pieces (row' p))) (get_or (records_from o row n) i blank).position i i'

  module _ (o : ℕ → ℕ) (n : ℕ) (s : Signals o row 0 n) (s' : Signals o row' 0 n) (e : o p ≡ 0) where
    listed_one : (i i' m k : ℕ) → m ≢ p → Located o row n i m k → Located o row' n i' m k → OneResource o n i i'
    listed_one i i' m k d w w' =
        let at_m : (get_or (records_from o row n) i blank).position ≡ m =
        ap (λ (r : Record). r.position) (located_record o row n i m k w) ∙ record_position (o m) row m k in
        record {
          same = rw (w.numbered, w'.numbered)
              (nth_record o row m n k w.inside w.place
              ∙ ap (λ (rs : List Record). get_or rs k blank) (list_kept row row' p other old new (o m) m d)
              ∙ sym (nth_record o row' m n k w'.inside w'.place));
          another = λ f. d (sym at_m ∙ f);
          moved = rw (at_m, w.numbered, w'.numbered) (number_shifted o e m k);
        }

    pub one_resource : (c j j' q k i i' : ℕ) → q ≢ p → ComesFrom row n c j q k → ComesFrom row' n c j' q k → Owns o row n i c j → Owns o row' n i' c j'
        → OneResource o n i i'
    one_resource c j j' q k i i' d w w' y y' =
        let t = divides (row q) in
        listed_one i i' (home o q t) (nth k t) (home_other o row n s t q p w.inside e d)
        (rw (owner_only o row n i c j y) (owner_home o row n s c j q k w))
        (rw (owner_only o row' n i' c j' y', ← other q d) (owner_home o row' n s' c j' q k w'))
