-- Counting the fields of one owner in the order of the words tells which of its resource's fields each is, and how many that has, in every plan
-- that signals the row.
use mathlib.Core.Path.{◌≡◌, refl, sym, ◌∙◌, ap, subst}
use mathlib.Core.Logic.{⊎_elim}
use mathlib.Core.Bool.{Bool, true, false, cond, true≢false}
use mathlib.Core.List.{List}
use Prim.Native.Nat.{ℕ, zero, suc, ◌+◌, ◌-◌, ◌≤◌, ◌<◌}
use native.Mathlib.Numerals.{add-one}
use native.Mathlib.Omega.{arith}
use borrow.Author.Tests.{lt-ltb, le-ltb, eq-eqb, eqb-true}
use lib.Dec.{eqb}
use lib.ListN.{length}
use Rattle.answer.specs.Lists.{at}
use Rattle.answer.specs.Tally.{tally}
use Rattle.answer.proofs.Tally.{tally_cong, tally_split, tally_mono}
use Rattle.resource.proofs.Test.{below_or}
use Rattle.kinds.specs.Signals.{Signals}
use Rattle.kinds.specs.Fields.{Eight}
use Rattle.records.specs.Records.{records_of}
use Rattle.records.specs.Owns.{Owns, Counts, none, one_more, no_more}
use Rattle.records.specs.Demand.{resource_in}
use Rattle.records.specs.FieldsOf.{fields_on, FieldOf, in_1, in_2, word_of}
use Rattle.records.specs.Worked.{the_owner}
use Rattle.records.proofs.Worked.{worked}
use Rattle.records.proofs.Counting.{counts_once}
use Rattle.records.proofs.Demand.{shared}
use Rattle.records.proofs.FieldsOf.{owned_below, at_most_eight_fact, turns}
use Rattle.turns.specs.Turns.{fields_in, owner_in, owned_by, users_of, turn_of, TurnIs}

-- a count by a test that decides it
pub counts_tally : (P : ℕ → Type 0) (t : ℕ → Bool) (n : ℕ) → ((k : ℕ) → k < n → t k ≡ true → P k) → ((k : ℕ) → k < n → P k → t k ≡ true)
    → Counts P n (tally t n)
counts_tally P t zero holds back = none
counts_tally P t (suc n) holds back =
    go (t n) refl (counts_tally P t n (λ k h. holds k (omega arith)) (λ k h. back k (omega arith)))
  where
    go : (b : Bool) → t n ≡ b → Counts P n (tally t n) → Counts P (suc n) (tally t n + cond b 1 0)
    go true e rest = rw (add-one (tally t n)) (one_more (holds n (omega arith) e) rest)
    go false e rest =
        let same : tally t n + 0 ≡ tally t n = omega arith in
        rw same (no_more (λ p. true≢false (sym (back n (omega arith) p) ∙ e)) rest)

module _ (o : ℕ → ℕ) (row : List ℕ) (s : Signals o (at row) 0 (length row)) where
  abbrev Has : ℕ → ℕ → ℕ → Type 0
  Has i c j = Owns o (at row) (length row) i c j

  -- resource i owns field j of channel c
  abbrev owned : ℕ → ℕ → ℕ → Bool
  owned i c j = eqb (the_owner row c j) i

  counted : (i c k : ℕ) → k ≤ fields_in c row → Counts (Has i c) k (tally (owned i c) k)
  counted i c k h =
      counts_tally (Has i c) (owned i c) k
      (λ j l e. subst (λ (x : ℕ). Has x c j) (eqb-true (the_owner row c j) i e) (worked o row s c j (omega arith)).owns)
      (λ j l w. eq-eqb (the_owner row c j) i (sym ((worked o row s c j (omega arith)).only i w)))

  -- ---- in the order of the words: channel 1's, then channel 2's
  owner_1 : (x : ℕ) → x < fields_in 1 row → owner_in row x ≡ the_owner row 1 x
  unfolding owner_in
  owner_1 x h = rw (lt-ltb x (fields_in 1 row) h)

  owner_2 : (x : ℕ) → owner_in row (fields_in 1 row + x) ≡ the_owner row 2 x
  unfolding owner_in
  owner_2 x =
      let e : fields_in 1 row + x - fields_in 1 row ≡ x = omega arith in
      rw (le-ltb (fields_in 1 row + x) (fields_in 1 row) (omega arith), e)

  first_words : (i k : ℕ) → k ≤ fields_in 1 row → owned_by row i k ≡ tally (owned i 1) k
  first_words i k h = tally_cong (λ y. eqb (owner_in row y) i) (owned i 1) k (λ y l. ap (λ (x : ℕ). eqb x i) (owner_1 y (omega arith)))

  second_words : (i k : ℕ) → owned_by row i (fields_in 1 row + k) ≡ tally (owned i 1) (fields_in 1 row) + tally (owned i 2) k
  second_words i k =
      let e = first_words i (fields_in 1 row) (omega arith) in
      let f =
      tally_cong (λ y. eqb (owner_in row (fields_in 1 row + y)) i) (owned i 2) k (λ y l. ap (λ (x : ℕ). eqb x i) (owner_2 y)) in
      omega (arith, e, f, tally_split (λ y. eqb (owner_in row y) i) (fields_in 1 row) k)

  -- ---- of how many
  all_users : (i : ℕ) → i < length (records_of o row) → owned_by row i (fields_in 1 row + fields_in 2 row) ≡ fields_on (resource_in (records_of o row) i)
  all_users i l =
      let w = shared o (at row) (length row) s in
      let a = counts_once _ _ _ _ (counted i 1 (fields_in 1 row) (omega arith)) (w.shares i 1 l (omega arith, omega arith)) in
      let b = counts_once _ _ _ _ (counted i 2 (fields_in 2 row) (omega arith)) (w.shares i 2 l (omega arith, omega arith)) in
      omega (arith, second_words i (fields_in 2 row), a, b)

  -- ---- and which
  which : (i t c j : ℕ) → FieldOf o (at row) (length row) i t c j → t ≡ owned_by row i (word_of (at row) (length row) c j)
  which i t c j (in_1 x w a) =
      let l = owned_below o (at row) (length row) i 1 x w in
      counts_once _ _ _ _ a (counted i 1 x (omega arith)) ∙ sym (first_words i x (omega arith))
  which i t c j (in_2 x m m' w a b e) =
      let l = owned_below o (at row) (length row) i 2 x w in
      let f = counts_once _ _ _ _ a (counted i 1 (fields_in 1 row) (omega arith)) in
      let g = counts_once _ _ _ _ b (counted i 2 x (omega arith)) in
      omega (arith, second_words i x, e, f, g)

  its_owner : (i t c j : ℕ) → FieldOf o (at row) (length row) i t c j → owner_in row (word_of (at row) (length row) c j) ≡ i
  its_owner i t c j (in_1 x w a) =
      let l = owned_below o (at row) (length row) i 1 x w in owner_1 x l ∙ sym ((worked o row s 1 x l).only i w)
  its_owner i t c j (in_2 x m m' w a b e) =
      owner_2 x ∙ sym ((worked o row s 2 x (owned_below o (at row) (length row) i 2 x w)).only i w)

  pub turn_is : (i c j : ℕ) → Has i c j → TurnIs o row i c j
  unfolding turn_of users_of
  turn_is i c j w =
      let v = (turns o (at row) (length row) s).each_owned i c j w in
      let e = its_owner i v.0 c j v.1 in
      let x = worked o row s c j (owned_below o (at row) (length row) i c j w) in
      let l : i < length (records_of o row) = rw (x.only i w) x.listed in
      record {
        turn = rw e (subst (λ (t : ℕ). FieldOf o (at row) (length row) i t c j) (which i v.0 c j v.1) v.1);
        users = rw e (all_users i l);
      }

  -- ---- of an x-th field
  pub of_word : (x : ℕ) → x < fields_in 1 row + fields_in 2 row
      → (c : ℕ) × (j : ℕ) × (j < fields_in c row) × (word_of (at row) (length row) c j ≡ x)
  of_word x h =
      ⊎_elim
      (λ (l : x < fields_in 1 row). (1, x, l, refl))
      (λ (l : fields_in 1 row ≤ x). (2, x - fields_in 1 row, omega arith, omega arith))
      (below_or x (fields_in 1 row))

  -- "at most eight User fields on each resource"
  pub users_most : Eight o (at row) 0 (length row) → (x : ℕ) → x < fields_in 1 row + fields_in 2 row → users_of row x ≤ 8
  users_most e x h =
      let v = of_word x h in
      let k = worked o row s v.0 v.1 v.2 in
      let w = shared o (at row) (length row) s in
      let most =
      (at_most_eight_fact o (at row) (length row) s).owned e _ k.listed _ _
      (record { of_1 = w.shares _ 1 k.listed (omega arith, omega arith); of_2 = w.shares _ 2 k.listed (omega arith, omega arith) }) in
      rw (← v.3, (turn_is _ v.0 v.1 k.owns).users) most

-- it is one of them
pub turn_below : (row : List ℕ) (x : ℕ) → x < fields_in 1 row + fields_in 2 row → turn_of row x < users_of row x
unfolding turn_of users_of
turn_below row x h =
    let own = eq-eqb (owner_in row x) (owner_in row x) refl in
    let more = tally_mono (λ y. eqb (owner_in row y) (owner_in row x)) (suc x) (fields_in 1 row + fields_in 2 row) h in
    let next : tally (λ y. eqb (owner_in row y) (owner_in row x)) x + 1 ≤ owned_by row (owner_in row x) (fields_in 1 row + fields_in 2 row) = rw own at more in
    omega (arith, next)
