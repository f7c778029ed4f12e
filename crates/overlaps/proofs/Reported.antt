-- What the list of pairs holds: two bytes for each pair that is hit, in the order of the pairs.
use mathlib.Core.Path.{◌≡◌, refl, sym, ◌∙◌, ap}
use mathlib.Core.Logic.{⊎_elim}
use mathlib.Core.Bool.{Bool, true, false, cond}
use mathlib.Core.List.{List, [], ◌∷◌, ◌++◌}
use Prim.Native.Nat.{ℕ, zero, suc, ◌+◌, ◌*◌, ◌/◌, ◌%◌, ◌≤◌, ◌<◌}
use native.Mathlib.Nat.{eq-or-lt_of_le}
use native.Mathlib.Omega.{arith}
use lib.Dec.{T}
use lib.ListN.{length, get_or, length-append, get_or-append}
use lib.Seq.{get_or-append-add}
use Rattle.answer.specs.Tally.{tally}
use Rattle.answer.proofs.Tally.{tally_mono}
use Rattle.resource.proofs.Test.{below_or}
use Rattle.overlaps.specs.Overlaps.{earlier, later}
use Rattle.masks.specs.Engine.{hit, pairs_to}

-- ---- how many pass below a bound grows past each that passes
counted : (t : Bool) → T t → cond {A = ℕ} t 1 0 ≡ 1
counted true h = refl
counted false h = absurd h

pub tally_past : (h : ℕ → Bool) (a b : ℕ) → T (h a) → a < b → tally h a < tally h b
tally_past h a b t l = omega (arith, tally_mono h (suc a) b l, counted (h a) t)

module _ (m : ℕ → ℕ) (n : ℕ) where
  pub two_each : (q : ℕ) → length (pairs_to m n q) ≡ 2 * tally (hit m n) q
  unfolding pairs_to
  two_each zero = omega arith
  two_each (suc q) = length-append (pairs_to m n q) _ ∙ go (hit m n q) (two_each q)
    where
      go : (t : Bool) → length (pairs_to m n q) ≡ 2 * tally (hit m n) q
          → length (pairs_to m n q) + length (cond t ((q / 32 + 1) ∷ (q % 32 + 1) ∷ []) []) ≡ 2 * (tally (hit m n) q + cond t 1 0)
      go true e = omega arith
      go false e = omega arith

past : (xs ys : List ℕ) (j i : ℕ) → i ≡ length xs + j → get_or (xs ++ ys) i 0 ≡ get_or ys j 0
past xs ys j i e = ap (λ (x : ℕ). get_or (xs ++ ys) x 0) e ∙ get_or-append-add xs ys j 0

-- pair k of those that the bytes w list: it is pair q of all
pub record Nth (m : ℕ → ℕ) (n k : ℕ) (w : List ℕ) : Type 0 where
  pub q : ℕ
  pub is_hit : T (hit m n q)
  pub before : tally (hit m n) q ≡ k
  pub one : earlier w k ≡ q / 32 + 1
  pub other : later w k ≡ q % 32 + 1

pub nth : (m : ℕ → ℕ) (n bound k : ℕ) → k < tally (hit m n) bound → Nth m n k (pairs_to m n bound)
unfolding pairs_to
nth m n zero k l = absurd (omega arith)
nth m n (suc b) k l = ⊎_elim (λ i. earlier_on (nth m n b k i) i) (λ i. here (hit m n b) refl i l) (below_or k (tally (hit m n) b))
  where
    pairs : List ℕ
    pairs = pairs_to m n b

    added : Bool → List ℕ
    added t = cond t ((b / 32 + 1) ∷ (b % 32 + 1) ∷ []) []

    earlier_on : Nth m n k pairs → k < tally (hit m n) b → Nth m n k (pairs ++ added (hit m n b))
    earlier_on r i =
        let e = two_each m n b in
        record {
          q = r.q;
          is_hit = r.is_hit;
          before = r.before;
          one = get_or-append pairs (added (hit m n b)) 0 (2 * k) (omega arith) ∙ r.one;
          other = get_or-append pairs (added (hit m n b)) 0 (2 * k + 1) (omega arith) ∙ r.other;
        }

    here : (t : Bool) → hit m n b ≡ t → tally (hit m n) b ≤ k → k < tally (hit m n) b + cond t 1 0 → Nth m n k (pairs ++ added t)
    here true e i l =
        let f : length pairs ≡ 2 * k = two_each m n b ∙ omega arith in
        record {
          q = b;
          is_hit = rw e tt;
          before = omega arith;
          one = past pairs (added true) 0 (2 * k) (omega arith);
          other = past pairs (added true) 1 (2 * k + 1) (omega arith);
        }
    here false e i l = absurd (omega arith)

-- ---- the order of two pairs: of those that are hit and of all
pub in_order : (h : ℕ → Bool) (p q : ℕ) → tally h p < tally h q → p < q
in_order h p q l = ⊎_elim (λ i. i) (λ (i : q ≤ p). absurd (omega (arith, tally_mono h q p i))) (below_or p q)

pub one_pair : (h : ℕ → Bool) (p q : ℕ) → T (h p) → T (h q) → tally h p ≡ tally h q → p ≡ q
one_pair h p q s t e =
    ⊎_elim
    (λ (i : p < q). let l = tally_past h p q s i in omega arith)
    (λ (i : q ≤ p). ⊎_elim sym (λ (j : q < p). let l = tally_past h q p t j in omega arith) (eq-or-lt_of_le i))
    (below_or p q)
