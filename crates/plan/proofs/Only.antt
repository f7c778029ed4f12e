-- A plan that signals a row, or a part of it, is the only plan: the one that the search finds.
use mathlib.Core.Path.{◌≡◌, refl, sym, ◌∙◌, subst}
use mathlib.Core.Logic.{◌≢◌, ◌⊎◌, inl, inr, ⊎_elim}
use mathlib.Core.Bool.{Bool, true, false, cond}
use mathlib.Core.List.{List, [], ◌∷◌}
use Prim.Native.Nat.{ℕ, ◌+◌, ◌*◌, ◌/◌, ◌%◌, ◌≤◌, ◌<◌}
use native.Mathlib.Omega.{arith}
use lib.ListN.{length, get_or-eq_default}
use Rattle.answer.specs.Lists.{at as value}
use Rattle.resource.proofs.Test.{below_or}
use Rattle.kinds.specs.Kinds.{span, takes}
use Rattle.kinds.specs.Signals.{Signals}
use Rattle.kinds.specs.Engine.{sought}
use Rattle.kinds.proofs.Tests.{equal_or}
use Rattle.kinds.proofs.Table.{sought_high, wide_span, takes_known, lower_place, upper_place}
use Rattle.kinds.proofs.Places.{at, at_span, at_place}
use Rattle.segments.specs.Engine.{segment_plan}
use Rattle.plan.specs.Answers.{Size, part_end}
use Rattle.spans.specs.Engine.{named, search, spans_in, part_plan}
use Rattle.plan.specs.Engine.{only_plan}
use Rattle.segments.proofs.Only.{Ends, row_ends, part_ends, segment_takes, signalled as segment_only}
use Rattle.plan.proofs.Naming.{Naming, named_view}
use Rattle.plan.proofs.Wider.{In, Inside, entire_at, known_at, sought_span, wider_is, wider_leaves}

-- ---- where the search has its answer from
pub record Wide (row : ℕ → ℕ) (p c n : ℕ) : Type 0 where
  pub wide : 4 < n
  pub positive : 0 < n
  pub is : c ≡ named n row (n * (p / n))
  pub naming : Naming n row (n * (p / n)) c
  pub has : takes c (p % n) ≡ true

-- from a span of n, of those in the list, or from the segment
abbrev pub Among : ℕ → List ℕ → Type 0
Among n [] = ⊥
Among n (m ∷ ms) = (n ≡ m) ⊎ Among n ms

abbrev pub AllWide : List ℕ → Type 0
AllWide [] = Unit {0}
AllWide (n ∷ ns) = (4 < n) × AllWide ns

abbrev pub Source : (ℕ → ℕ) → ℕ → List ℕ → ℕ → Type 0
Source row p ns c = (c ≡ segment_plan row p) ⊎ ((n : ℕ) × Among n ns × Wide row p c n)

more : (n : ℕ) → 4 < n → 0 < n
more n l = omega arith

pub source : (row : ℕ → ℕ) (p : ℕ) (ns : List ℕ) → AllWide ns → Source row p ns (search ns row p)
unfolding search
source row p [] q = inl refl
source row p (n ∷ ns) q = go (takes (named n row (n * (p / n))) (p % n)) refl (source row p ns q.1)
  where
    c : ℕ
    c = named n row (n * (p / n))

    go : (t : Bool) → takes c (p % n) ≡ t → Source row p ns (search ns row p) → Source row p (n ∷ ns) (cond t c (search ns row p))
    go true e r = inr (
      n,
      inl refl,
      record {
        wide = q.0;
        positive = more n q.0;
        is = refl;
        naming = ⊎_elim (λ h. absurd (let y = takes_known c (p % n) e in omega (arith, h.0))) (λ w. w) (named_view n (more n q.0) row (n * (p / n)));
        has = e;
      },
    )
    go false e (inl x) = inl x
    go false e (inr w) = inr (w.0, inr w.1, w.2)

pub spans_positive : (n : ℕ) → Size n → AllWide (spans_in n)
unfolding spans_in
spans_positive n (inl e) = rw e tt
spans_positive n (inr (inl e)) = rw e (omega arith, tt)
spans_positive n (inr (inr e)) = rw e (omega arith, (omega arith, tt))

-- ---- the search gives each position to a kind of the table that the position is a place of
wide_takes : (row : ℕ → ℕ) (p c n : ℕ) → Wide row p c n → takes c (p % span c) ≡ true
wide_takes row p c n w = rw (sought_span n c w.positive w.naming.kind w.naming.among).0 w.has

pub search_takes : (row : ℕ → ℕ) (p : ℕ) (ns : List ℕ) → AllWide ns → takes (search ns row p) (p % span (search ns row p)) ≡ true
search_takes row p ns q = ⊎_elim (λ e. rw e (segment_takes row p)) (λ w. wide_takes row p (search ns row p) w.0 w.2) (source row p ns q)

pub part_takes : (n : ℕ) → Size n → (row : ℕ → ℕ) (p : ℕ) → takes (part_plan n row p) (p % span (part_plan n row p)) ≡ true
unfolding part_plan
part_takes n h row p = search_takes row p (spans_in n) (spans_positive n h)

pub part_known : (n : ℕ) → Size n → (row : ℕ → ℕ) (p : ℕ) → part_plan n row p < 36
part_known n h row p = takes_known (part_plan n row p) (p % span (part_plan n row p)) (part_takes n h row p)

pub only_takes : (row : ℕ → ℕ) (p : ℕ) → takes (only_plan row p) (p % span (only_plan row p)) ≡ true
unfolding only_plan
only_takes row p = part_takes 16 (inr (inr refl)) row p

pub only_known : (row : ℕ → ℕ) (p : ℕ) → only_plan row p < 36
only_known row p = takes_known (only_plan row p) (p % span (only_plan row p)) (only_takes row p)

-- ---- a plan that signals the positions from a up to b
module _ (o row : ℕ → ℕ) (a b : ℕ) (ends : Ends row a b) (s : Signals o row a b) where
  -- what is not sought in a wider span fits a segment
  narrow_kind : (p : ℕ) → In o row a b s p → sought (o p) ≢ 8 → sought (o p) ≢ 16 → o p < 7
  narrow_kind p i f g =
      let k = known_at o row a b s p i in
      ⊎_elim (λ l. l) (λ (l : 7 ≤ o p). let e = sought_high (o p) k (omega arith) in absurd (⊎_elim (λ x. f (e ∙ x)) (λ x. g (e ∙ x)) (wide_span (o p) k l)))
      (below_or (o p) 7)

  in_segment : (p : ℕ) → In o row a b s p → sought (o p) ≢ 8 → sought (o p) ≢ 16 → o p ≡ search [] row p
  unfolding search
  in_segment p i f g = segment_only o row a b ends s p i.0 i.1 (narrow_kind p i f g)

  in_half : Inside o row a b s 8 → (p : ℕ) → In o row a b s p → sought (o p) ≢ 16 → o p ≡ search (8 ∷ []) row p
  in_half inside p i g =
      ⊎_elim (λ (e : sought (o p) ≡ 8). wider_is o row a b s 8 (omega arith) inside [] p i e)
      (λ (e : sought (o p) ≢ 8). in_segment p i e g ∙ sym (wider_leaves o row a b s 8 (omega arith) inside [] p i e))
      (equal_or (sought (o p)) 8)

  in_whole : Inside o row a b s 8 → Inside o row a b s 16 → (p : ℕ) → In o row a b s p → o p ≡ search (16 ∷ 8 ∷ []) row p
  in_whole half whole p i =
      ⊎_elim (λ (e : sought (o p) ≡ 16). wider_is o row a b s 16 (omega arith) whole (8 ∷ []) p i e)
      (λ (e : sought (o p) ≢ 16). in_half half p i e ∙ sym (wider_leaves o row a b s 16 (omega arith) whole (8 ∷ []) p i e))
      (equal_or (sought (o p)) 16)

  -- a resource wider than n positions, whose span is of m, has places in both halves of it, so not in a part of n alone
  too_wide : (m : ℕ) → 0 < m → (p : ℕ) → In o row a b s p → sought (o p) ≡ m
      → ((x y : ℕ) → x < m / 2 → y < m / 2 → a ≤ m * (p / m) + x → m * (p / m) + (m / 2 + y) < b → ⊥) → ⊥
  too_wide m z p i e halved =
      let k = known_at o row a b s p i in
      let g = sought_span m (o p) z k e in
      let x = lower_place (o p) k g.2 in
      let y = upper_place (o p) k g.2 in
      let u : m / 2 + y.0 < m = half_less m y.0 (subst (λ (n : ℕ). y.0 < n / 2) g.0 y.1) in
      let v : x.0 < m = half_under m x.0 (subst (λ (n : ℕ). x.0 < n / 2) g.0 x.1) in
      let t : takes (o p) (m / 2 + y.0) ≡ true = subst (λ (n : ℕ). takes (o p) (n / 2 + y.0) ≡ true) g.0 y.2 in
      let px = (entire_at o row a b s (o p) p (at m p x.0) i refl (rw g.0 (at_span m z p x.0 v, rw (at_place m z p x.0 v) x.2))).0 in
      let py = (entire_at o row a b s (o p) p (at m p (m / 2 + y.0)) i refl
      (rw g.0 (at_span m z p (m / 2 + y.0) u, rw (at_place m z p (m / 2 + y.0) u) t))).0 in
      halved x.0 y.0 (subst (λ (n : ℕ). x.0 < n / 2) g.0 x.1) (subst (λ (n : ℕ). y.0 < n / 2) g.0 y.1) px.0 py.1
    where
      half_less : (m y : ℕ) → y < m / 2 → m / 2 + y < m
      half_less m y l = omega arith

      half_under : (m x : ℕ) → x < m / 2 → x < m
      half_under m x l = omega arith

-- ---- a part of a row
module _ (row : List ℕ) where
  abbrev R : ℕ → ℕ
  R = value row

  past : (q : ℕ) → length row ≤ q → R q ≡ 0
  past q h = get_or-eq_default row 0 h

  here_or : (a b q : ℕ) → a ≤ q → (q < length row → q < b) → ((a ≤ q) × (q < b)) ⊎ (R q ≡ 0)
  here_or a b q l f = ⊎_elim (λ h. inl (l, f h)) (λ h. inr (past q h)) (below_or q (length row))

  pub whole_only : (o : ℕ → ℕ) → Signals o R 0 (length row) → (p : ℕ) → p < length row → o p ≡ only_plan R p
  unfolding only_plan part_plan spans_in
  whole_only o s p u =
      in_whole o R 0 (length row) (row_ends row) s
      (λ q r i l. here_or 0 (length row) (at 8 q r) (omega arith) (λ h. h))
      (λ q r i l. here_or 0 (length row) (at 16 q r) (omega arith) (λ h. h)) p (omega arith, u)

  abbrev PartOnly : ℕ → Type 0
  PartOnly n = (k : ℕ) (o : ℕ → ℕ) → Signals o R (n * k) (part_end row n k) → (p : ℕ) → n * k ≤ p → p < part_end row n k → o p ≡ part_plan n R p

  only_4 : PartOnly 4
  unfolding part_plan spans_in
  only_4 k o s p l u =
      in_segment o R (4 * k) (part_end row 4 k) (part_ends row 4 k (inl refl)) s p (l, u)
      (λ e. too_wide o R (4 * k) (part_end row 4 k) (part_ends row 4 k (inl refl)) s 8 (omega arith) p (l, u) e
      (λ x y a b c d. omega arith))
      (λ e. too_wide o R (4 * k) (part_end row 4 k) (part_ends row 4 k (inl refl)) s 16 (omega arith) p (l, u) e
      (λ x y a b c d. omega arith))

  only_8 : PartOnly 8
  unfolding part_plan spans_in
  only_8 k o s p l u =
      in_half o R (8 * k) (part_end row 8 k) (part_ends row 8 k (inr (inl refl))) s
      (λ q r i m. here_or (8 * k) (part_end row 8 k) (at 8 q r) (omega (arith, i.0)) (λ h. omega (arith, i.1))) p (l, u)
      (λ e. too_wide o R (8 * k) (part_end row 8 k) (part_ends row 8 k (inr (inl refl))) s 16 (omega arith) p (l, u) e
      (λ x y a b c d. omega arith))

  only_16 : PartOnly 16
  unfolding part_plan spans_in
  only_16 k o s p l u =
      in_whole o R (16 * k) (part_end row 16 k) (part_ends row 16 k (inr (inr refl))) s
      (λ q r i m. here_or (16 * k) (part_end row 16 k) (at 8 q r) (omega (arith, i.0)) (λ h. omega (arith, i.1)))
      (λ q r i m. here_or (16 * k) (part_end row 16 k) (at 16 q r) (omega (arith, i.0)) (λ h. omega (arith, i.1))) p (l, u)

  -- any plan that signals a part of a row is the only plan of that part
  pub part_only : (n : ℕ) → Size n → PartOnly n
  part_only n (inl e) = subst PartOnly (sym e) only_4
  part_only n (inr (inl e)) = subst PartOnly (sym e) only_8
  part_only n (inr (inr e)) = subst PartOnly (sym e) only_16
