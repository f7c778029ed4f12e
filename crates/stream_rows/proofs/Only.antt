-- 02's words determine the list of rows: a list that counts them has each once, and any two that do are one.
use mathlib.Core.Path.{◌≡◌, sym, ◌∙◌, ap}
use mathlib.Core.List.{List, []}
use Prim.Native.Nat.{ℕ, zero, suc, ◌≤◌, ◌<◌}
use native.Mathlib.Decide.{dec_lt}
use native.Mathlib.Omega.{arith}
use lib.ListN.{length}
use lib.Seq.{ext_get_or}
use Rattle.answer.specs.Lists.{at}
use Rattle.stream_rows.specs.Rows.{Before, row_in, Counted}

-- of two rows that differ only one comes first
pub before_once : {a b : List ℕ} → Before a b → Before b a → ⊥
before_once {a} {b} p q = go (dec_lt p.place q.place) (dec_lt q.place p.place)
  where
    go : Dec (p.place < q.place) → Dec (q.place < p.place) → ⊥
    go (yes l) m = omega (arith, q.smaller, p.same_past q.place l)
    go (no l) (yes m) = omega (arith, p.smaller, q.same_past p.place m)
    go (no l) (no m) =
        let e : p.place ≡ q.place = omega arith in
        omega (arith, p.smaller, q.smaller, ap (at a) e, ap (at b) e)

-- ---- "lists each row once": different numbers, different rows
module _ {users : ℕ} {rows : List (List ℕ)} (c : Counted users rows) where
  pub each_once : (k k' : ℕ) → k < length rows → k' < length rows → row_in rows k ≡ row_in rows k' → k ≡ k'
  each_once k k' l l' e = go (dec_lt k k') (dec_lt k' k)
    where
      never : (j j' : ℕ) → row_in rows j ≡ row_in rows j' → Before (row_in rows j) (row_in rows j') → ⊥
      never j j' e b = let z : Before (row_in rows j) (row_in rows j) = rw (← e) at b in before_once z z

      go : Dec (k < k') → Dec (k' < k) → k ≡ k'
      go (yes m) n = absurd (never k k' e (c.ordered k k' m l'))
      go (no m) (yes n) = absurd (never k' k (sym e) (c.ordered k' k n l))
      go (no m) (no n) = omega arith

-- ---- two lists that count the rows: the number of each row in the other
module _ {users : ℕ} {rows rows' : List (List ℕ)} (c : Counted users rows) (c' : Counted users rows') where
  there : (k : ℕ) → k < length rows → (j : ℕ) × (j < length rows') × (row_in rows' j ≡ row_in rows k)
  there k l = c'.all (row_in rows k) (c.listed k l)

  rises : (k k' : ℕ) (l : k < length rows) (l' : k' < length rows) → k < k' → (there k l).0 < (there k' l').0
  rises k k' l l' m = go (dec_lt t.0 t'.0) (dec_lt t'.0 t.0)
    where
      t : (j : ℕ) × (j < length rows') × (row_in rows' j ≡ row_in rows k)
      t = there k l

      t' : (j : ℕ) × (j < length rows') × (row_in rows' j ≡ row_in rows k')
      t' = there k' l'

      first : Before (row_in rows k) (row_in rows k')
      first = c.ordered k k' m l'

      go : Dec (t.0 < t'.0) → Dec (t'.0 < t.0) → t.0 < t'.0
      go (yes h) g = h
      go (no h) (yes g) =
          let b : Before (row_in rows k') (row_in rows k) = rw (t'.2, t.2) at (c'.ordered t'.0 t.0 g t.1) in
          absurd (before_once first b)
      go (no h) (no g) =
          let e : t.0 ≡ t'.0 = omega arith in
          let s : k ≡ k' = each_once c k k' l l' (sym t.2 ∙ ap (row_in rows') e ∙ t'.2) in
          absurd (omega arith)

  no_less : (k : ℕ) (l : k < length rows) → k ≤ (there k l).0
  no_less zero l = omega arith
  no_less (suc k) l =
      let h : k < length rows = omega arith in
      omega (arith, no_less k h, rises k (suc k) h l (omega arith))

-- the number in the other is the same
same_number : {users : ℕ} {rows rows' : List (List ℕ)} (c : Counted users rows) (c' : Counted users rows') (k : ℕ) (l : k < length rows)
    → (k < length rows') × (row_in rows' k ≡ row_in rows k)
same_number {users} {rows} {rows'} c c' k l =
    let t = there c c' k l in
    let b = there c' c t.0 t.1 in
    let e : b.0 ≡ k = each_once c b.0 k b.1 l (b.2 ∙ t.2) in
    let s : t.0 ≡ k = omega (arith, no_less c c' k l, no_less c' c t.0 t.1) in
    (rw s at t.1, rw s at t.2)

pub only_one : {users : ℕ} {rows rows' : List (List ℕ)} → Counted users rows → Counted users rows' → rows ≡ rows'
only_one {users} {rows} {rows'} c c' = ext_get_or [] rows rows' lengths (λ k l. sym (same_number c c' k l).1)
  where
    no_longer : (rows rows' : List (List ℕ)) → ((k : ℕ) → k < length rows → k < length rows') → length rows ≤ length rows'
    no_longer rows rows' h = go (dec_lt (length rows') (length rows))
      where
        go : Dec (length rows' < length rows) → length rows ≤ length rows'
        go (yes l) = omega (arith, h (length rows') l)
        go (no l) = omega arith

    lengths : length rows ≡ length rows'
    lengths =
        omega (arith, no_longer rows rows' (λ k l. (same_number c c' k l).0), no_longer rows' rows (λ k l. (same_number c' c k l).0))
