-- Each User field below a channel's count has exactly one owner, the one that the program finds.
use mathlib.Core.Path.{◌≡◌, refl, sym, ◌∙◌, ap}
use mathlib.Core.Logic.{⊎_elim}
use mathlib.Core.Bool.{Bool, true, false, cond}
use Prim.Native.Nat.{ℕ, zero, suc, ◌+◌, ◌-◌, ◌%◌, ◌≤◌, ◌<◌}
use native.Mathlib.Omega.{arith}
use native.Mathlib.Nat.{eq-or-lt_of_le, le_of_suc-le-suc}
use native.Mathlib.Numerals.{add-one}
use borrow.Author.Tests.{lt-ltb, le-ltb, eq-eqb, eqb-true}
use lib.Dec.{eqb, eqb→eq}
use lib.ListN.{length}
use Rattle.kinds.specs.Kinds.{span}
use Rattle.kinds.specs.Signals.{Fits, own, blank, smaller, Signals}
use Rattle.kinds.proofs.Fitting.{known, blank_least, blank_most}
use Rattle.kinds.proofs.Table.{takes_known, family_low}
use Rattle.resource.specs.Values.{pieces, fields_of, divides}
use Rattle.resource.proofs.Test.{below_or, every_between}
use Rattle.resource.proofs.Pieces.{divided_low, divided_fields, divided_not, some_pieces, no_pieces_left, none_left}
use Rattle.records.specs.Records.{in_channel}
use Rattle.records.specs.Owns.{fields_before, ComesFrom, number, Owns, of_piece, of_place}
use Rattle.records.specs.Engine.{lowest, owner_at, owner_of}
use Rattle.records.proofs.Lead.{lowest_place, lowest_only}

-- ---- the count of a channel's fields
module _ (c : ℕ) (row : ℕ → ℕ) where
  pub before_next : (p : ℕ) → fields_before c row (p + 1) ≡ fields_before c row p + in_channel c p (fields_of (row p))
  before_next p = rw (add-one p)

  pub before_rise : (p n : ℕ) → p ≤ n → fields_before c row p ≤ fields_before c row n
  before_rise p zero h = let e : p ≡ 0 = omega arith in rw e (omega arith)
  before_rise p (suc n) h =
      ⊎_elim
      (λ (e : p ≡ suc n). rw e (omega arith))
      (λ (l : p < suc n). omega (arith, before_rise p n (le_of_suc-le-suc l)))
      (eq-or-lt_of_le h)

-- ---- what the program's search finds
module _ (o row : ℕ → ℕ) (c : ℕ) where
  pub found : (p n j : ℕ) → p < n → fields_before c row p ≤ j → j < fields_before c row (p + 1) → owner_of o row c n j ≡ owner_at o row p
      (j - fields_before c row p)
  unfolding owner_of
  found p zero j h a b = absurd (omega arith)
  found p (suc n) j h a b =
      ⊎_elim
      (λ (e : p ≡ n). rw (← e, le-ltb j (fields_before c row p) a, lt-ltb j (fields_before c row (suc p)) (rw (add-one p) at b)))
      (λ (l : p < n). rw (lt-ltb j (fields_before c row n) (omega (arith, before_rise c row (p + 1) n (omega arith)))) (found p n j l a b))
      (eq-or-lt_of_le (le_of_suc-le-suc h))

  pub nothing : (n j : ℕ) → fields_before c row n ≤ j → owner_of o row c n j ≡ 144
  unfolding owner_of
  nothing zero j h = refl
  nothing (suc n) j h = rw (
    le-ltb j (fields_before c row n) (omega (arith, before_rise c row n (suc n) (omega arith))),
    le-ltb j (fields_before c row (suc n))
        h,
  )

  pub found_left : (p n j left : ℕ) → p < n → j ≡ fields_before c row p + left → left < in_channel c p (fields_of (row p))
      → owner_of o row c n j ≡ owner_at o row p left
  found_left p n j left h e l =
      let d : j - fields_before c row p ≡ left = omega arith in
      found p n j h (omega arith) (omega (arith, before_next c row p)) ∙ ap (owner_at o row p) d

pub in_most : (c p f : ℕ) → in_channel c p f ≤ f
in_most c p f = go (eqb (p % 2 + 1) c)
  where
    go : (t : Bool) → cond t f 0 ≤ f
    go true = omega arith
    go false = omega arith

pub in_own : (c p f : ℕ) → p % 2 + 1 ≡ c → in_channel c p f ≡ f
in_own c p f e = rw (eq-eqb (p % 2 + 1) c e)

in_other : (c p f k : ℕ) → k < in_channel c p f → p % 2 + 1 ≡ c
in_other c p f k h = go (eqb (p % 2 + 1) c) refl h
  where
    go : (t : Bool) → eqb (p % 2 + 1) c ≡ t → k < cond t f 0 → p % 2 + 1 ≡ c
    go true e l = eqb-true (p % 2 + 1) c e
    go false e l = absurd (omega arith)

-- ---- every field below a channel's count comes from one position
abbrev Comes : (ℕ → ℕ) → ℕ → ℕ → ℕ → Type 0
Comes row n c j = (p : ℕ) × (k : ℕ) × ComesFrom row n c j p k

earlier : (row : ℕ → ℕ) (n c j : ℕ) → Comes row n c j → Comes row (suc n) c j
earlier row n c j w =
    (w.0, w.1, record { inside = omega (arith, w.2.inside); channel = w.2.channel; kth = w.2.kth; follows = w.2.follows })

latest : (row : ℕ → ℕ) (n c j : ℕ) → fields_before c row n ≤ j → j < fields_before c row (suc n) → Comes row (suc n) c j
latest row n c j l h =
    let k = j - fields_before c row n in
    let m : k < in_channel c n (fields_of (row n)) = omega arith in (
      n,
      k,
      record {
        inside = omega arith;
        channel = in_other c n (fields_of (row n)) k m;
        kth = omega (arith, in_most c n (fields_of (row n)));
        follows = omega arith;
      },
    )

pub comes : (row : ℕ → ℕ) (n c j : ℕ) → j < fields_before c row n → Comes row n c j
comes row zero c j h = absurd (omega arith)
comes row (suc n) c j h =
    ⊎_elim (λ l. earlier row n c j (comes row n c j l)) (λ l. latest row n c j l h) (below_or j (fields_before c row n))

-- such a field is one of its channel's
pub comes_below : (row : ℕ → ℕ) (n c j p k : ℕ) → ComesFrom row n c j p k → j < fields_before c row n
comes_below row n c j p k w =
    omega (
      arith,
      w.kth,
      w.follows,
      in_own c p (fields_of (row p)) w.channel,
      before_next c row p,
      before_rise c row (p + 1) n (omega (arith, w.inside)),
    )

-- and the program's search goes by it
pub search_comes : (o row : ℕ → ℕ) (n c j p k : ℕ) → ComesFrom row n c j p k → owner_of o row c n j ≡ owner_at o row p k
search_comes o row n c j p k w =
    found_left o row c p n j k w.inside w.follows (rw (in_own c p (fields_of (row p)) w.channel) w.kth)

-- ---- a value that divides its position
abbrev blank_test : ℕ → Bool
blank_test v = eqb (length (pieces v)) 0

-- a place with no field is not divided
blank_whole : (v : ℕ) → 28 ≤ v → v < 31 → divides v ≡ false
blank_whole v h l = no_pieces_left v (eqb→eq (length (pieces v)) 0 (every_between blank_test 28 31 v (unfold pieces in tt) h l))

-- a position that its value divides is given to itself by every plan that signals it
pub divided_itself : (c p v : ℕ) → divides v ≡ true → Fits c p v → c ≡ 0
divided_itself c p v e (own t f) = absurd (omega (arith, divided_low v e, family_low c (takes_known c _ t)))
divided_itself c p v e (blank t f) =
    absurd (divided_not v v (blank_whole v (omega (arith, blank_least c (p % span c))) (omega (arith, blank_most c (p % span c)))) e refl)
divided_itself c p v e (smaller f) = f.0

-- ---- exactly one resource owns a field, the one that the program finds
module _ (o row : ℕ → ℕ) (n : ℕ) where
  pub owner_only : (i c j : ℕ) → Owns o row n i c j → i ≡ owner_of o row c n j
  unfolding owner_at
  owner_only i c j (of_piece p k w e l f) =
      f ∙ sym (search_comes o row n c j p k w ∙ rw (some_pieces (row p) k l))
  owner_only i c j (of_place p k q w e h g f) =
      f ∙ ap (λ (m : ℕ). number o row m 0) (lowest_only (o p) p q h g) ∙ sym (search_comes o row n c j p k w ∙ rw (no_pieces_left (row p) e))

  pub one_owner : (i i' c j : ℕ) → Owns o row n i c j → Owns o row n i' c j → i ≡ i'
  one_owner i i' c j a b = owner_only i c j a ∙ sym (owner_only i' c j b)

  pub owner_owns : Signals o row 0 n → (c j : ℕ) → j < fields_before c row n → Owns o row n (owner_of o row c n j) c j
  unfolding owner_at
  owner_owns s c j h = go (comes row n c j h)
    where
      go : Comes row n c j → Owns o row n (owner_of o row c n j) c j
      go (p, k, w) = by (divides (row p)) refl
        where
          fit : Fits (o p) p (row p)
          fit = s.fits p (omega arith) w.inside

          by : (t : Bool) → divides (row p) ≡ t → Owns o row n (owner_of o row c n j) c j
          by true e =
              of_piece p k w (divided_itself (o p) p (row p) e fit) (rw (divided_fields (row p) e) at w.kth)
              (search_comes o row n c j p k w ∙ rw e)
          by false e =
              let l = lowest_place (o p) p (known (o p) p (row p) fit) in
              of_place p k (lowest (o p) p) w (none_left (row p) e) l.0 l.1 (search_comes o row n c j p k w ∙ rw e)
