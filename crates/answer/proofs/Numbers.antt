-- Checks that each refuse with a number of their own: no two numbers the same, so that each is given exactly when its own
-- check applies and nothing earlier does, and 0 exactly where all pass.
use mathlib.Core.Path.{◌≡◌, refl, sym, ◌∙◌, ap}
use mathlib.Core.Logic.{⊎_elim}
use mathlib.Core.Bool.{Bool, true, false, not, ◌&&◌}
use mathlib.Core.List.{List, [], ◌∷◌}
use Prim.Native.Nat.{ℕ, zero, suc, ◌<◌}
use native.Mathlib.Omega.{arith}
use lib.ListN.{length, get_or}
use lib.Dec.{eqb}
use borrow.Author.Tests.{eqb-false, not-true}
use Rattle.answer.specs.Answer.{refuse_if, ◌or◌, answer_at, answer_of}
use Rattle.answer.specs.declared.Answer.{Answer}
use Rattle.answer.specs.Answer.{Outcome}
use Rattle.std.specs.Prelude.{Ok, Err}
use Rattle.answer.specs.Order.{first_of, Applies, Answers, Judged}
use Rattle.answer.proofs.Order.{pass_or_refuse, pass_not_refuse, or_cases, refuse_if_lem}
use Rattle.answer.proofs.First.{first_pass, applies_below, first_applies, applies_first}
use Rattle.answer.specs.declared.Refusal.{Refusal}

-- A check that refuses with no other number than n.
pub record Only (n : ℕ) (o : Outcome) : Type 0 where
  pub number_is : (x : Refusal) → o ≡ Err x → (answer_of x).number ≡ n

pub only_if : (t : Bool) (y : Refusal) → Only (answer_of y).number (refuse_if t y)
only_if t y = record { number_is = λ x e. sym (ap (λ (z : Refusal). (answer_of z).number) (refuse_if_lem t y x e).1) }

pub only_or : {n : ℕ} {a b : Outcome} → Only n a → Only n b → Only n (a or b)
only_or {n} {a} {b} p q =
    record {
      number_is = λ x e. ⊎_elim (λ l. p.number_is x l) (λ r. q.number_is x r.1) (or_cases a b x e);
    }

-- Each check of a list refuses only with its own number.
pub data Gives : List ℕ → List Outcome → Type 0 where
  none : Gives [] []
  more : {n : ℕ} {ns : List ℕ} {o : Outcome} {os : List Outcome} → Only n o → Gives ns os → Gives (n ∷ ns) (o ∷ os)

pub gives_number : {ns : List ℕ} {os : List Outcome} → Gives ns os → (k : ℕ) (x : Refusal) → get_or os k (Ok tt) ≡ Err x → (answer_of x).number ≡ get_or ns k 0
gives_number none k x e = absurd (pass_not_refuse refl e)
gives_number (more o g) zero x e = o.number_is x e
gives_number (more o g) (suc k) x e = gives_number g k x e

pub gives_length : {ns : List ℕ} {os : List Outcome} → Gives ns os → length ns ≡ length os
gives_length none = refl
gives_length (more o g) = ap suc (gives_length g)

-- A test that the checker computes: no number twice.
unfoldable pub absent : ℕ → List ℕ → Bool
absent n [] = true
absent n (m ∷ ms) = not (eqb n m) && absent n ms

unfoldable pub distinct : List ℕ → Bool
distinct [] = true
distinct (n ∷ ns) = absent n ns && distinct ns

and_left : (a b : Bool) → (a && b) ≡ true → a ≡ true
and_left true b e = refl
and_left false b e = e

and_right : (a b : Bool) → (a && b) ≡ true → b ≡ true
and_right true b e = e
and_right false b e = absurd (let z : ◌≡◌ {A = ℕ} 0 1 = cc in omega arith)

pub absent_at : (n : ℕ) (ms : List ℕ) → absent n ms ≡ true → (k : ℕ) → k < length ms → n ≡ get_or ms k 0 → ⊥
unfolding absent
absent_at n [] e k l q = omega arith
absent_at n (m ∷ ms) e zero l q = eqb-false n m (not-true (eqb n m) (and_left _ (absent n ms) e)) q
absent_at n (m ∷ ms) e (suc k) l q = absent_at n ms (and_right (not (eqb n m)) _ e) k (omega arith) q

pub distinct_at : (ns : List ℕ) → distinct ns ≡ true → (j k : ℕ) → j < length ns → k < length ns → get_or ns j 0 ≡ get_or ns k 0 → j ≡ k
unfolding distinct
distinct_at [] e j k l m q = absurd (omega arith)
distinct_at (n ∷ ns) e zero zero l m q = refl
distinct_at (n ∷ ns) e zero (suc k) l m q = absurd (absent_at n ns (and_left _ (distinct ns) e) k (omega arith) q)
distinct_at (n ∷ ns) e (suc j) zero l m q = absurd (absent_at n ns (and_left _ (distinct ns) e) j (omega arith) (sym q))
distinct_at (n ∷ ns) e (suc j) (suc k) l m q =
    ap suc (distinct_at ns (and_right (absent n ns) _ e) j k (omega arith) (omega arith) q)

-- Numbers that are no two the same, and none of them 0.
module _ {ns : List ℕ} {os : List Outcome} (g : Gives ns os) (d : distinct (0 ∷ ns) ≡ true) (count : ℕ) where
  -- Answer 0 is given exactly where every check passes.
  pub zero_pass : (answer_at (first_of os) count).number ≡ 0 → first_of os ≡ Ok tt
  unfolding distinct
  zero_pass e = ⊎_elim (λ p. p) (λ r. absurd (go r.0 r.1)) (pass_or_refuse (first_of os))
    where
      go : (x : Refusal) → first_of os ≡ Err x → ⊥
      go x f =
          let a = first_applies os x f in
          let z : (answer_of x).number ≡ 0 = ap (λ (o : Outcome). (answer_at o count).number) (sym f) ∙ e in
          absent_at 0 ns (and_left _ (distinct ns) d) a.0
          (rw (gives_length g) (applies_below os a.0 x a.1.refuses))
          (sym z ∙ gives_number g a.0 x a.1.refuses)

  -- Number k of the list is given exactly when its own check applies and nothing earlier does; the answer is that check's.
  pub number_applies : (k : ℕ) → k < length os → (answer_at (first_of os) count).number ≡ get_or ns k 0 → Answers os k (answer_at (first_of os) count)
  unfolding distinct
  number_applies k l e = ⊎_elim (λ p. absurd (passed p)) (λ r. refused r.0 r.1) (pass_or_refuse (first_of os))
    where
      passed : first_of os ≡ Ok tt → ⊥
      passed p =
          let z : 0 ≡ get_or ns k 0 = ap (λ (o : Outcome). (answer_at o count).number) (sym p) ∙ e in
          absent_at 0 ns (and_left _ (distinct ns) d) k (rw (gives_length g) l) z

      refused : (x : Refusal) → first_of os ≡ Err x → Answers os k (answer_at (first_of os) count)
      refused x f =
          let a = first_applies os x f in
          let r : (answer_of x).number ≡ get_or ns k 0 = ap (λ (o : Outcome). (answer_at o count).number) (sym f) ∙ e in
          let m : a.0 < length os = applies_below os a.0 x a.1.refuses in
          let j : a.0 ≡ k =
          distinct_at ns (and_right (absent 0 ns) _ d) a.0 k (rw (gives_length g) m) (rw (gives_length g) l)
          (sym (gives_number g a.0 x a.1.refuses) ∙ r) in
          let h : Applies os k x = rw j at a.1 in
          record { refusal = x; answers = rw f; applies = h }

  pub applies_number : (k : ℕ) (x : Refusal) → Applies os k x → (answer_at (first_of os) count ≡ answer_of x) × ((answer_of x).number ≡ get_or ns k 0)
  applies_number k x a = (rw (applies_first os k x a), gives_number g k x a.refuses)

-- the first row that refuses, as an answer
pub judged : {ns : List ℕ} {os : List Outcome} → Gives ns os → distinct (0 ∷ ns) ≡ true → (n : ℕ) → Judged ns os n (answer_at (first_of os) n)
judged {ns} {os} g d n = record {
  accepted = λ e. let p = zero_pass g d n e in (rw p, first_pass os p);
  refused = λ ne.
      ⊎_elim
      (λ (p : first_of os ≡ Ok tt). absurd (ne (rw p)))
      (λ (q : (x : Refusal) × (first_of os ≡ Err x)).
      let f = first_applies os q.0 q.1 in
      let e : answer_at (first_of os) n ≡ answer_of q.0 = rw q.1 in
      (f.0, rw e (gives_number g f.0 q.0 f.1.refuses), record { refusal = q.0; answers = e; applies = f.1 }))
      (pass_or_refuse (first_of os));
}
