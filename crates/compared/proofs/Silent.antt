-- Two readings with no line, and two that say the same.
use mathlib.Core.Path.{◌≡◌, sym, ◌∙◌, ap}
use mathlib.Core.Bool.{true, false, not}
use mathlib.Core.List.{List, []}
use Prim.Native.Nat.{ℕ, ◌<◌}
use native.Mathlib.Decide.{ℕ_discrete, dec_lt}
use native.Mathlib.Omega.{arith}
use lib.Dec.{ltb, eqb}
use lib.ListN.{length}
use lib.Seq.{ext_get_or}
use borrow.Author.Tests.{lt-ltb, ltb-true, eq-eqb, ne_eqb, eqb-true, not-false}
use Rattle.answer.specs.Lists.{at}
use Rattle.records.specs.declared.Record.{Record}
use Rattle.compared.specs.Reading.{Item, overflow_is, value_is, user_is, Reading, tells}
use Rattle.compared.specs.Differences.{by, differs, all_said, differences}
use Rattle.compared.proofs.Same.{of_both, both, same_self, member_has}
use Rattle.compared.proofs.Keep.{Each, cons_not_nil, none_kept, kept_none}
use Rattle.compared.proofs.Said.{Lists, an_overflow, a_value, a_resource, a_user, said_each, said_1, said_2}
use Rattle.compared.proofs.Exact.{one_bandwidth}

-- ---- what a reading that a thing is true of has
module _ (x : Reading) where
  overflow_told : (k v : ℕ) → tells x (overflow_is k v) ≡ true → (k < length x.overflows) × (at x.overflows k ≡ v)
  unfolding tells
  overflow_told k v e =
      let p = of_both (ltb k (length x.overflows)) _ e in
      (ltb-true k (length x.overflows) p.0, eqb-true (at x.overflows k) v p.1)

  value_told : (k v : ℕ) → tells x (value_is k v) ≡ true → (k < length x.values) × (at x.values k ≡ v)
  unfolding tells
  value_told k v e =
      let p = of_both (ltb k (length x.values)) _ e in
      (ltb-true k (length x.values) p.0, eqb-true (at x.values k) v p.1)

  user_told : (i f : ℕ) (z : Record) → tells x (user_is i f z) ≡ true → (i < x.fields) × (x.bits i ≡ f)
  unfolding tells
  user_told i f z e =
      let p = of_both (ltb i x.fields) _ e in
      (ltb-true i x.fields p.0, eqb-true (x.bits i) f (of_both (eqb (x.bits i) f) _ p.1).0)

-- bounds that hold the same numbers are the same
same_bound : (m n : ℕ) → ((k : ℕ) → k < m → k < n) → ((k : ℕ) → k < n → k < m) → m ≡ n
same_bound m n p q = go (dec_lt m n) (dec_lt n m)
  where
    go : Dec (m < n) → Dec (n < m) → m ≡ n
    go (yes h) d = absurd (let z = q m h in omega arith)
    go (no h) (yes g) = absurd (let z = p n g in omega arith)
    go (no h) (no g) = omega arith

same_list : (xs ys : List ℕ) → ((k : ℕ) → k < length xs → (k < length ys) × (at ys k ≡ at xs k)) → ((k : ℕ) → k < length ys → k < length xs) → xs ≡ ys
same_list xs ys p q = ext_get_or 0 xs ys (same_bound (length xs) (length ys) (λ k l. (p k l).0) q) (λ k l. sym (p k l).1)

-- ---- no line
module _ (x y : Reading) (n : differences x y ≡ []) where
  pub silent_bandwidth : x.bandwidth ≡ y.bandwidth
  unfolding differences
  silent_bandwidth = go (ℕ_discrete x.bandwidth y.bandwidth)
    where
      go : Dec (x.bandwidth ≡ y.bandwidth) → x.bandwidth ≡ y.bandwidth
      go (yes e) = e
      go (no d) = absurd (cons_not_nil (rw (ne_eqb x.bandwidth y.bandwidth d) at n))

  -- what one lists is true of the other
  none_differs : Each (λ d. differs x y d ≡ false) (all_said x y)
  none_differs = kept_none (differs x y) (all_said x y) (sym (one_bandwidth x y silent_bandwidth) ∙ n)

  true_of_2 : (i : Item) → Lists x i → tells y i ≡ true
  unfolding differs
  true_of_2 i l = not-false (tells y i) (none_differs (by 1 i) (said_1 x y i l))

  true_of_1 : (i : Item) → Lists y i → tells x i ≡ true
  unfolding differs
  true_of_1 i l = not-false (tells x i) (none_differs (by 2 i) (said_2 x y i l))

  pub silent_overflows : x.overflows ≡ y.overflows
  silent_overflows =
      same_list x.overflows y.overflows (λ k l. overflow_told y k (at x.overflows k) (true_of_2 _ (an_overflow k l)))
      (λ k l. (overflow_told x k (at y.overflows k) (true_of_1 _ (an_overflow k l))).0)

  pub silent_values : x.values ≡ y.values
  silent_values =
      same_list x.values y.values (λ k l. value_told y k (at x.values k) (true_of_2 _ (a_value k l)))
      (λ k l. (value_told x k (at y.values k) (true_of_1 _ (a_value k l))).0)

  pub silent_bits : (i : ℕ) → i < x.fields → x.bits i ≡ y.bits i
  silent_bits i l = sym (user_told y i (x.bits i) (x.owner i) (true_of_2 _ (a_user i l))).1

-- ---- the same said
pub record Equal (x y : Reading) : Type 0 where
  pub equal_bandwidth : x.bandwidth ≡ y.bandwidth
  pub equal_overflows : x.overflows ≡ y.overflows
  pub equal_values : x.values ≡ y.values
  pub equal_plan : x.plan ≡ y.plan
  pub equal_fields : x.fields ≡ y.fields
  pub equal_bits : (i : ℕ) → i < x.fields → x.bits i ≡ y.bits i
  pub equal_owner : (i : ℕ) → x.owner i ≡ y.owner i

equal_back : {x y : Reading} → Equal x y → Equal y x
equal_back q = record {
  equal_bandwidth = sym q.equal_bandwidth;
  equal_overflows = sym q.equal_overflows;
  equal_values = sym q.equal_values;
  equal_plan = sym q.equal_plan;
  equal_fields = sym q.equal_fields;
  equal_bits = λ i l. sym (q.equal_bits i (rw q.equal_fields l));
  equal_owner = λ i. sym (q.equal_owner i);
}

equal_tells : (x y : Reading) → Equal x y → (i : Item) → Lists x i → tells y i ≡ true
unfolding tells
equal_tells x y q i (an_overflow k l) =
    both _ _ (lt-ltb k (length y.overflows) (rw q.equal_overflows at l))
    (eq-eqb (at y.overflows k) (at x.overflows k) (ap (λ (r : List ℕ). at r k) (sym q.equal_overflows)))
equal_tells x y q i (a_value p l) =
    both _ _ (lt-ltb p (length y.values) (rw q.equal_values at l))
    (eq-eqb (at y.values p) (at x.values p) (ap (λ (r : List ℕ). at r p) (sym q.equal_values)))
equal_tells x y q i (a_resource z m) = member_has z y.plan (rw q.equal_plan at m)
equal_tells x y q i (a_user k l) =
    both _ _ (lt-ltb k y.fields (rw q.equal_fields at l))
    (both _ _ (eq-eqb (y.bits k) (x.bits k) (sym (q.equal_bits k l))) (rw (q.equal_owner k) (same_self (y.owner k))))

pub equal_silent : (x y : Reading) → Equal x y → differences x y ≡ []
unfolding differs
equal_silent x y q =
    one_bandwidth x y q.equal_bandwidth
    ∙ none_kept (differs x y) (all_said x y)
    (said_each x y (λ d. differs x y d ≡ false) (λ i l. ap not (equal_tells x y q i l)) (λ i l. ap not (equal_tells y x (equal_back q) i l)))
