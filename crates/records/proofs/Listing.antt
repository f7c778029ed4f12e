-- The list of a plan's resources by number: laws of `list_at` and `records_from`.
use mathlib.Core.Path.{◌≡◌, refl, sym, ◌∙◌, ap}
use mathlib.Core.Logic.{⊎_elim, ◌≢◌}
use mathlib.Core.Bool.{Bool, true, false, cond, false≢true}
use mathlib.Core.List.{List, [], ◌∷◌, map}
use Prim.Native.Nat.{ℕ, zero, suc, ◌+◌, ◌-◌, ◌*◌, ◌%◌, ◌≤◌, ◌<◌}
use native.Mathlib.Omega.{arith}
use native.Mathlib.Nat.{eq-or-lt_of_le, le_of_suc-le-suc}
use native.Mathlib.Numerals.{add-one}
use borrow.Author.Tests.{eqb-true, eq-eqb, ne_eqb}
use lib.Dec.{eqb}
use lib.ListN.{length, get_or, length-append, length-map, get_or-append}
use lib.Seq.{get_or-append-add}
use Rattle.kinds.specs.Kinds.{span}
use Rattle.plan.specs.Engine.{only_plan}
use Rattle.kinds.proofs.Tests.{by_test}
use Rattle.kinds.proofs.Table.{span_0}
use Rattle.resource.specs.Values.{own_pieces}
use Rattle.resource.specs.Engine.{no_piece, piece_at}
use Rattle.resource.proofs.Test.{below_or}
use Rattle.resource.proofs.Starts.{own_most}
use Rattle.records.specs.declared.Record.{Record}
use Rattle.records.specs.Records.{piece_record, lead, larger_record, once, list_at, records_from, blank}
use Rattle.records.specs.Engine.{listed}
use Rattle.records.proofs.Lead.{lead_0}

-- the k-th of those that are listed at p, where there are so many
unfoldable pub record_at : ℕ → (ℕ → ℕ) → ℕ → ℕ → Record
record_at c row p k = cond (eqb c 0) (piece_record row p (piece_at (row p) k)) (larger_record c row p)

-- ---- at one position: its own pieces, or a larger resource once
module _ (c : ℕ) (row : ℕ → ℕ) (p : ℕ) where
  pub own_list : c ≡ 0 → list_at c row p ≡ map (piece_record row p) (own_pieces (row p))
  unfolding list_at
  own_list e = rw (eq-eqb c 0 e)

  larger_list : c ≢ 0 → list_at c row p ≡ once c row p
  unfolding list_at
  larger_list e = rw (ne_eqb c 0 e)

  pub own_record : (k : ℕ) → c ≡ 0 → record_at c row p k ≡ piece_record row p (piece_at (row p) k)
  unfolding record_at
  own_record k e = rw (eq-eqb c 0 e)

  pub larger_record_lem : (k : ℕ) → c ≢ 0 → record_at c row p k ≡ larger_record c row p
  unfolding record_at
  larger_record_lem k e = rw (ne_eqb c 0 e)

  pub record_position : (k : ℕ) → (record_at c row p k).position ≡ p
  unfolding record_at
  record_position k = go (eqb c 0)
    where
      go : (t : Bool) → (cond t (piece_record row p (piece_at (row p) k)) (larger_record c row p)).position ≡ p
      go true = refl
      go false = refl

  pub own_length : c ≡ 0 → length (list_at c row p) ≡ length (own_pieces (row p))
  own_length e = ap length (own_list e) ∙ length-map (own_pieces (row p)) (piece_record row p)

  pub list_length : length (list_at c row p) ≡ listed c p (row p)
  unfolding list_at listed
  list_length = go (eqb c 0) (eqb (p % span c) (lead c))
    where
      go : (s t : Bool) → length (cond s (map (piece_record row p) (own_pieces (row p))) (cond t (larger_record c row p ∷ []) []))
          ≡ cond s (length (own_pieces (row p))) (cond t 1 0)
      go true t = length-map (own_pieces (row p)) (piece_record row p)
      go false true = refl
      go false false = refl

  -- a larger resource is listed once, at its lowest place
  pub larger_one : c ≢ 0 → p % span c ≡ lead c → length (list_at c row p) ≡ 1
  larger_one n e = ap length (larger_list n) ∙ rw (eq-eqb (p % span c) (lead c) e)

  pub larger_most : c ≢ 0 → length (list_at c row p) ≤ 1
  larger_most n = rw (larger_list n) (go (eqb (p % span c) (lead c)))
    where
      go : (t : Bool) → length (cond t (larger_record c row p ∷ []) []) ≤ 1
      go true = omega arith
      go false = omega arith

  pub once_lead : (m : ℕ) → m < length (list_at c row p) → p % span c ≡ lead c
  once_lead m h = by_test (eqb c 0) (λ e. own (eqb-true c 0 e)) (λ e. larger (λ f. false≢true (sym e ∙ eq-eqb c 0 f)))
    where
      own : c ≡ 0 → p % span c ≡ lead c
      own e = rw (e, span_0, lead_0) (omega arith)

      larger : c ≢ 0 → p % span c ≡ lead c
      larger n = go (eqb (p % span c) (lead c)) refl (rw (larger_list n) at h)
        where
          go : (t : Bool) → eqb (p % span c) (lead c) ≡ t → m < length (cond t (larger_record c row p ∷ []) []) → p % span c ≡ lead c
          go true e l = eqb-true (p % span c) (lead c) e
          go false e l = absurd (omega arith)

pub listed_most : (c p v : ℕ) → listed c p v ≤ 9
unfolding listed
listed_most c p v = go (eqb c 0) (eqb (p % span c) (lead c))
  where
    go : (s t : Bool) → cond s (length (own_pieces v)) (cond t 1 0) ≤ 9
    go true t = own_most v
    go false true = omega arith
    go false false = omega arith

get_d_map : {A B : Type 0} (f : A → B) (l : List A) (k : ℕ) (d : A) (e : B) → k < length l → get_or (map f l) k e ≡ f (get_or l k d)
get_d_map f [] k d e h = absurd (omega arith)
get_d_map f (x ∷ l) zero d e h = refl
get_d_map f (x ∷ l) (suc k) d e h = get_d_map f l k d e (omega arith)

pub list_at_lem : (c : ℕ) (row : ℕ → ℕ) (p k : ℕ) → k < length (list_at c row p) → get_or (list_at c row p) k blank ≡ record_at c row p k
unfolding list_at record_at
list_at_lem c row p k h = go (eqb c 0) (eqb (p % span c) (lead c)) k h
  where
    go : (s t : Bool) (k : ℕ) → k < length (cond s (map (piece_record row p) (own_pieces (row p))) (cond t (larger_record c row p ∷ []) []))
        → get_or (cond s (map (piece_record row p) (own_pieces (row p))) (cond t (larger_record c row p ∷ []) [])) k blank
        ≡ cond s (piece_record row p (piece_at (row p) k)) (larger_record c row p)
    go true t k l =
        get_d_map (piece_record row p) (own_pieces (row p)) k no_piece blank (omega (arith, length-map (own_pieces (row p)) (piece_record row p)))
    go false true zero l = refl
    go false true (suc k) l = absurd (omega arith)
    go false false k l = absurd (omega arith)

-- ---- over the positions
module _ (o row : ℕ → ℕ) where
  pub next_length : (n : ℕ) → length (records_from o row (n + 1)) ≡ length (records_from o row n) + length (list_at (o n) row n)
  next_length n = rw (add-one n) (length-append (records_from o row n) (list_at (o n) row n))

  pub records_most : (n : ℕ) → length (records_from o row n) ≤ 9 * n
  records_most zero = omega arith
  records_most (suc n) =
      omega (arith, length-append (records_from o row n) (list_at (o n) row n), records_most n, list_length (o n) row n, listed_most (o n) n (row n))

  pub records_rise : (p n : ℕ) → p < n → length (records_from o row p) + length (list_at (o p) row p) ≤ length (records_from o row n)
  records_rise p zero h = absurd (omega arith)
  records_rise p (suc n) h =
      ⊎_elim
      (λ (e : p ≡ n). rw e (omega (arith, length-append (records_from o row n) (list_at (o n) row n))))
      (λ (l : p < n). omega (arith, length-append (records_from o row n) (list_at (o n) row n), records_rise p n l))
      (eq-or-lt_of_le (le_of_suc-le-suc h))

  -- the k-th that is listed at p
  pub nth_record : (p n k : ℕ) → p < n → k < length (list_at (o p) row p)
      → get_or (records_from o row n) (length (records_from o row p) + k) blank ≡ get_or (list_at (o p) row p) k blank
  nth_record p zero k h l = absurd (omega arith)
  nth_record p (suc n) k h l =
      ⊎_elim
      (λ (e : p ≡ n). rw (← e) (get_or-append-add (records_from o row p) (list_at (o p) row p) k blank))
      (λ (m : p < n).
      get_or-append (records_from o row n) (list_at (o n) row n) blank (length (records_from o row p) + k) (omega (arith, records_rise p n m))
      ∙ nth_record p n k m l)
      (eq-or-lt_of_le (le_of_suc-le-suc h))

-- two plans that agree give the same list
pub same_records : (o o' : ℕ → ℕ) (row : ℕ → ℕ) (n : ℕ) → ((p : ℕ) → p < n → o p ≡ o' p) → records_from o row n ≡ records_from o' row n
same_records o o' row zero h = refl
same_records o o' row (suc n) h = rw (same_records o o' row n (λ p l. h p (omega arith)), h n (omega arith))

-- ---- as many as are listed at p, of the only plan
pub here_is : (row : ℕ → ℕ) (p v h c : ℕ) → c ≡ only_plan row p → v ≡ row p → h ≡ listed c p v → h ≡ length (list_at (only_plan row p) row p)
here_is row p v h c e f g =
    g ∙ ap (λ (x : ℕ). listed x p v) e ∙ ap (listed (only_plan row p) p) f ∙ sym (list_length (only_plan row p) row p)

-- ---- every number is that of a resource that is listed at some position
pub record Located (o row : ℕ → ℕ) (n i p m : ℕ) : Type 0 where
  pub inside : p < n
  pub place : m < length (list_at (o p) row p)
  pub numbered : i ≡ length (records_from o row p) + m

abbrev pub Somewhere : (ℕ → ℕ) → (ℕ → ℕ) → ℕ → ℕ → Type 0
Somewhere o row n i = (p : ℕ) × (m : ℕ) × Located o row n i p m

module _ (o row : ℕ → ℕ) where
  before_that : (n i : ℕ) → Somewhere o row n i → Somewhere o row (suc n) i
  before_that n i w = (w.0, w.1, record { inside = omega (arith, w.2.inside); place = w.2.place; numbered = w.2.numbered })

  just_there : (n i : ℕ) → length (records_from o row n) ≤ i → i < length (records_from o row (suc n)) → Somewhere o row (suc n) i
  just_there n i l h = (
    n,
    i - length (records_from o row n),
    record {
      inside = omega arith;
      place = omega (arith, length-append (records_from o row n) (list_at (o n) row n));
      numbered = omega arith;
    },
  )

  pub located : (n i : ℕ) → i < length (records_from o row n) → Somewhere o row n i
  located zero i h = absurd (omega arith)
  located (suc n) i h =
      ⊎_elim (λ l. before_that n i (located n i l)) (λ l. just_there n i l h) (below_or i (length (records_from o row n)))

  -- its resource
  pub located_record : (n i p m : ℕ) → Located o row n i p m → get_or (records_from o row n) i blank ≡ record_at (o p) row p m
  located_record n i p m w =
      ap (λ (k : ℕ). get_or (records_from o row n) k blank) w.numbered ∙ nth_record o row p n m w.inside w.place ∙ list_at_lem (o p) row p m w.place

  -- one number, one place
  pub located_once : (n i p m q l : ℕ) → Located o row n i p m → Located o row n i q l → (p ≡ q) × (m ≡ l)
  located_once n i p m q l a b =
      ⊎_elim
      (λ h. absurd (apart p m q l h a b))
      (λ h. ⊎_elim (λ e. same (sym e)) (λ g. absurd (apart q l p m g b a)) (eq-or-lt_of_le h))
      (below_or p q)
    where
      apart : (p m q l : ℕ) → p < q → Located o row n i p m → Located o row n i q l → ⊥
      apart p m q l h a b = omega (arith, records_rise o row p q h, a.place, a.numbered, b.numbered)

      same : p ≡ q → (p ≡ q) × (m ≡ l)
      same e = (e, let f : length (records_from o row p) ≡ length (records_from o row q) = rw e in omega (arith, a.numbered, b.numbered))
