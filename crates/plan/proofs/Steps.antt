-- The steps of the tests, as the code takes them.
use mathlib.Core.Path.{◌≡◌, refl, sym, ◌∙◌, ap}
use mathlib.Core.Logic.{inl, inr, ⊎_elim}
use mathlib.Core.Bool.{Bool, true, false, not, ◌&&◌, ◌||◌}
use mathlib.Core.List.{List}
use Prim.Native.Nat.{ℕ, ◌+◌, ◌-◌, ◌*◌, ◌/◌, ◌%◌, ◌≤◌, ◌<◌}
use native.Mathlib.Omega.{arith}
use lib.Dec.{eqb, ltb, leb}
use lib.ListN.{length}
use borrow.Author.Tests.{eq-eqb, ne_eqb, ltb-true, ltb-false, leb-true}
use Rattle.std.specs.List.{list_any}
use Rattle.std.proofs.lemmas.List.Folds.{list_any_at, list_any_none}
use Rattle.std.proofs.lemmas.List.Elements.{All-from_get_or}
use Rattle.answer.specs.Least.{least}
use Rattle.answer.proofs.Least.{least_stop, least_end, least_cong, least_none, least_holds, least_all, least_le}
use Rattle.answer.specs.Lists.{at}
use Rattle.resource.proofs.Test.{below_or}
use Rattle.kinds.specs.Kinds.{none, span, takes}
use Rattle.kinds.proofs.Steps.{span_before}
use Rattle.segments.specs.Engine.{fitting}
use Rattle.segments.proofs.Found.{and_right}
use Rattle.spans.specs.Engine.{part_plan}
use Rattle.plan.specs.Answers.{segments, Size, part_end}
use Rattle.plan.specs.Engine.{wider, any_wider, given, place_given, entirely, is_right, Before, every_from, part_right, held_by, first_unheld}

-- ---- a value that no resource of a segment has
pub wider_is : (v f : ℕ) → f ≡ v / 8 → (eqb f 11 || leb 128 v) ≡ wider v
unfolding wider
wider_is v f e = rw e

pub wider_some : (row : List ℕ) → any_wider row ≡ true → 0 < length row
unfolding any_wider
wider_some row e = let l = ltb-true _ (length row) e in omega arith

-- that some value is such, as the code asks it
pub any_is : (row : List ℕ) → list_any wider row ≡ any_wider row
unfolding any_wider
any_is row = go (ltb (least p n) n) refl
  where
    p : ℕ → Bool
    p q = wider (at row q)

    n : ℕ
    n = length row

    go : (t : Bool) → ltb (least p n) n ≡ t → list_any wider row ≡ t
    go true e = let l = ltb-true (least p n) n e in list_any_at wider row (least p n) 0 l (least_holds p n l)
    go false e =
        let l = ltb-false (least p n) n e in
        let m = least_le p n in
        list_any_none wider row (All-from_get_or (λ x. wider x ≡ false) row 0 (least_all p n (omega arith)))

-- ---- what a position is given to
module _ (o : ℕ → ℕ) (a b c p j : ℕ) where
  pub place_own : (t : Bool) (s : ℕ) → takes c j ≡ true → s ≡ span c * (p / span c) → t ≡ given o a b c (s + j) → t ≡ place_given o a b c p j
  place_own t s e f g = g ∙ rw (f, e)

  pub place_left : takes c j ≡ false → true ≡ place_given o a b c p j
  place_left e = rw e

-- ---- whether all places are given
module _ (o : ℕ → ℕ) (a b c p j : ℕ) (h : least (λ i. not (place_given o a b c p i)) j ≡ j) where
  pub entire_not : j < span c → not (place_given o a b c p j) ≡ true → false ≡ entirely o a b c p
  unfolding entirely
  entire_not l e = rw (least_stop (λ i. not (place_given o a b c p i)) j (span c) l h e) (sym (ne_eqb j (span c) (λ g. omega arith)))

  pub entire_all : j ≡ span c → true ≡ entirely o a b c p
  unfolding entirely
  entire_all e = rw (least_end (λ i. not (place_given o a b c p i)) j (span c) e h) (sym (eq-eqb j (span c) e))

-- all places of the resource were asked for at the position before
pub entire_before : (o row : ℕ → ℕ) (a b p c before : ℕ) → c < 36 → c ≡ before → span c * (p / span c) < p → Before before o row a b p
    → true ≡ entirely o a b c p
unfolding entirely is_right
entire_before o row a b p c before h e l w =
    ⊎_elim
    (λ (m : a < p).
    let was = w.at_later m in
    let right = and_right (fitting (o (p - 1)) (p - 1) (row (p - 1))) _ was.1 in
    sym (ap (λ (k : ℕ). entirely o a b k (p - 1)) (e ∙ was.0) ∙ right)
    ∙ ap (λ (k : ℕ). eqb (least (λ j. not (not (takes c j) || given o a b c (span c * k + j))) (span c)) (span c)) (span_before c p h l))
    (λ (m : p ≤ a). absurd (omega (arith, w.at_first m)))
    (below_or a p)

-- ---- whether a position is right
module _ (o row : ℕ → ℕ) (a b p c v : ℕ) (e : c ≡ o p) (f : v ≡ row p) where
  pub right_not : fitting c p v ≡ false → false ≡ is_right o row a b p
  unfolding is_right
  right_not g = let h : fitting (o p) p (row p) ≡ false = rw (← e, ← f) g in rw h

  pub right_rest : fitting c p v ≡ true → entirely o a b c p ≡ is_right o row a b p
  unfolding is_right
  right_rest g = let h : fitting (o p) p (row p) ≡ true = rw (← e, ← f) g in ap (λ (x : ℕ). entirely o a b x p) e ∙ rw h

pub before_first : (o row : ℕ → ℕ) (a b : ℕ) → Before none o row a b a
before_first o row a b = record { at_first = λ l. refl; at_later = λ l. absurd (omega arith) }

pub before_next : (o row : ℕ → ℕ) (a b p : ℕ) → a ≤ p → is_right o row a b p ≡ true → Before (o p) o row a b (p + 1)
before_next o row a b p m f =
    let e : p + 1 - 1 ≡ p = omega arith in
    record { at_first = λ l. absurd (omega arith); at_later = λ l. (ap o (sym e), rw e f) }

-- ---- what the tests say of a part rests on what its own positions are given to
module _ (o o' : ℕ → ℕ) (a b : ℕ) (same : (q : ℕ) → a ≤ q → q < b → o q ≡ o' q) where
  given_same : (c q : ℕ) → given o a b c q ≡ given o' a b c q
  unfolding given
  given_same c q = go (leb a q) (ltb q b) refl refl
    where
      go : (s t : Bool) → leb a q ≡ s → ltb q b ≡ t → (s && (t && eqb (o q) c)) ≡ (s && (t && eqb (o' q) c))
      go true true e f = ap (λ (x : ℕ). eqb x c) (same q (leb-true a q e) (ltb-true q b f))
      go true false e f = refl
      go false t e f = refl

  entire_same : (c p : ℕ) → entirely o a b c p ≡ entirely o' a b c p
  unfolding entirely
  entire_same c p =
      ap (λ (x : ℕ). eqb x (span c))
      (least_cong _ _ (span c) (λ j l. ap (λ (t : Bool). not (not (takes c j) || t)) (given_same c (span c * (p / span c) + j))))

  pub right_same : (row : ℕ → ℕ) (p : ℕ) → a ≤ p → p < b → is_right o row a b p ≡ is_right o' row a b p
  unfolding is_right
  right_same row p l u = rw (same p l u, entire_same (o' p) p)

-- ---- a part
module _ (row : List ℕ) (n k : ℕ) (o : ℕ → ℕ) where
  abbrev start : ℕ
  start = n * k

  abbrev end : ℕ
  end = part_end row n k

  abbrev pub wrong_in : ℕ → Bool
  wrong_in j = not (is_right (part_plan n (at row)) (at row) start end (start + j))

  module _ (same : (q : ℕ) → start ≤ q → q < end → o q ≡ part_plan n (at row) q) where
    -- as the code asks it
    pub wrong_is : (e p : ℕ) (r t : Bool) → e ≡ end → start ≤ p → p < e → r ≡ is_right o (at row) start e p → not r ≡ t → wrong_in (p - start) ≡ t
    wrong_is e p r t f m l g h =
        let d : start + (p - start) ≡ p = omega arith in
        ap (λ (q : ℕ). not (is_right (part_plan n (at row)) (at row) start end q)) d
        ∙ sym (ap not (right_same o (part_plan n (at row)) start end same (at row) p m (omega arith)))
        ∙ sym (ap not (g ∙ ap (λ (q : ℕ). is_right o (at row) start q p) f))
        ∙ h

  module _ (p : ℕ) (h : least wrong_in (p - start) ≡ p - start) where
    pub part_not : start ≤ p → p < end → wrong_in (p - start) ≡ true → false ≡ part_right row n k
    unfolding part_right every_from
    part_not m l e =
        rw (least_stop wrong_in (p - start) (end - start) (omega arith) h e) (sym (ne_eqb (p - start) (end - start) (λ g. omega arith)))

    pub part_all : p ≡ end → true ≡ part_right row n k
    unfolding part_right every_from
    part_all e =
        let d : p - start ≡ end - start = omega arith in
        rw (least_end wrong_in (p - start) (end - start) d h) (sym (eq-eqb (p - start) (end - start) d))

pub size_most : (n : ℕ) → Size n → n ≤ 16
size_most n h = ⊎_elim (λ e. omega arith) (⊎_elim (λ e. omega arith) (λ e. omega arith)) h

pub starts_with : (n k : ℕ) → Size n → n * k % n ≡ 0
starts_with n k (inl e) = rw e (omega arith)
starts_with n k (inr (inl e)) = rw e (omega arith)
starts_with n k (inr (inr e)) = rw e (omega arith)

-- ---- what holds a segment
module _ (row : List ℕ) (s : ℕ) where
  pub held_widest : part_right row 16 (s / 4) ≡ true → true ≡ held_by row s
  unfolding held_by
  held_widest e = rw e

-- the whole width holds every segment of a row that is no longer
pub whole_holds : (row : List ℕ) → length row ≤ 16 → part_right row 16 0 ≡ true → segments row ≡ first_unheld row
unfolding first_unheld
whole_holds row h e = sym (least_none (λ s. not (held_by row s)) (segments row) one)
  where
    one : (s : ℕ) → s < segments row → not (held_by row s) ≡ false
    one s l = let z : s / 4 ≡ 0 = omega arith in rw (← held_widest row s (rw z e))
