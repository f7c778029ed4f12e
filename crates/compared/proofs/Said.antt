-- All that two readings say: what each lists of itself, and what is true of it.
use mathlib.Core.Path.{◌≡◌, refl, ap}
use mathlib.Core.Bool.{Bool, true, ◌&&◌, false≢true}
use mathlib.Core.List.Memᴰ
use mathlib.Core.List.{Memᴰ}
use Prim.Native.Nat.{ℕ, ◌<◌}
use lib.Dec.{ltb, eqb}
use lib.ListN.{length}
use borrow.Author.Tests.{lt-ltb, ltb-true, eq-eqb, eqb-true}
use Rattle.answer.specs.Lists.{at}
use Rattle.records.specs.declared.Record.{Record}
use Rattle.compared.specs.Reading.{Item, refused_with, bandwidth_is, overflow_is, value_is, resource_is, user_is, Reading, tells}
use Rattle.compared.specs.Differences.{Difference, by, overflow_item, value_item, user_item, resource_item, overflow_turns, value_turns}
use Rattle.compared.specs.Differences.{resource_items, user_turns, all_said}
use Rattle.compared.specs.Exact.{Alike, same_refusal, same_bandwidth, same_overflow, same_value, same_resource_fact, same_user}
use Rattle.compared.proofs.Same.{of_both, both, same_self, same_back, same_right, has_same_left, member_has, has_member}
use Rattle.compared.proofs.Keep.{Each, each_append, each_map, map_member}
use Rattle.compared.proofs.Turns.{turns_each, in_turns_1, in_turns_2}

-- what a reading lists of itself
pub data Lists (x : Reading) : Item → Type 0 where
  an_overflow : (k : ℕ) → k < length x.overflows → Lists x (overflow_item x k)
  a_value : (p : ℕ) → p < length x.values → Lists x (value_item x p)
  a_resource : (z : Record) → Memᴰ z x.plan → Lists x (resource_is z)
  a_user : (i : ℕ) → i < x.fields → Lists x (user_item x i)

-- ---- all that is said is what the two list
module _ (x y : Reading) where
  pub said_each : (P : Difference → Type 0) → ((i : Item) → Lists x i → P (by 1 i)) → ((i : Item) → Lists y i → P (by 2 i)) → Each P (all_said x y)
  unfolding all_said overflow_turns value_turns resource_items user_turns
  said_each P p q =
      each_append P (overflow_turns x y) _
      (turns_each (overflow_item x) (length x.overflows) (overflow_item y) (length y.overflows) P
      (λ k l. p _ (an_overflow k l)) (λ k l. q _ (an_overflow k l)))
      (each_append P (value_turns x y) _
      (turns_each (value_item x) (length x.values) (value_item y) (length y.values) P (λ k l. p _ (a_value k l)) (λ k l. q _ (a_value k l)))
      (each_append P (resource_items 1 x) _ (each_map P (resource_item 1) x.plan (λ z m. p _ (a_resource z m)))
      (each_append P (resource_items 2 y) _ (each_map P (resource_item 2) y.plan (λ z m. q _ (a_resource z m)))
      (turns_each (user_item x) x.fields (user_item y) y.fields P (λ k l. p _ (a_user k l)) (λ k l. q _ (a_user k l))))))

  pub said_1 : (i : Item) → Lists x i → Memᴰ (by 1 i) (all_said x y)
  unfolding all_said overflow_turns value_turns resource_items user_turns
  said_1 i (an_overflow k l) = Memᴰ.append_left _ (in_turns_1 (overflow_item x) (length x.overflows) (overflow_item y) (length y.overflows) k l)
  said_1 i (a_value p l) =
      Memᴰ.append_right (overflow_turns x y)
      (Memᴰ.append_left _ (in_turns_1 (value_item x) (length x.values) (value_item y) (length y.values) p l))
  said_1 i (a_resource z m) =
      Memᴰ.append_right (overflow_turns x y)
      (Memᴰ.append_right (value_turns x y) (Memᴰ.append_left _ (map_member (resource_item 1) x.plan m)))
  said_1 i (a_user k l) =
      Memᴰ.append_right (overflow_turns x y)
      (Memᴰ.append_right (value_turns x y)
      (Memᴰ.append_right (resource_items 1 x)
      (Memᴰ.append_right (resource_items 2 y) (in_turns_1 (user_item x) x.fields (user_item y) y.fields k l))))

  pub said_2 : (i : Item) → Lists y i → Memᴰ (by 2 i) (all_said x y)
  unfolding all_said overflow_turns value_turns resource_items user_turns
  said_2 i (an_overflow k l) = Memᴰ.append_left _ (in_turns_2 (overflow_item x) (length x.overflows) (overflow_item y) (length y.overflows) k l)
  said_2 i (a_value p l) =
      Memᴰ.append_right (overflow_turns x y)
      (Memᴰ.append_left _ (in_turns_2 (value_item x) (length x.values) (value_item y) (length y.values) p l))
  said_2 i (a_resource z m) =
      Memᴰ.append_right (overflow_turns x y)
      (Memᴰ.append_right (value_turns x y)
      (Memᴰ.append_right (resource_items 1 x) (Memᴰ.append_left _ (map_member (resource_item 2) y.plan m))))
  said_2 i (a_user k l) =
      Memᴰ.append_right (overflow_turns x y)
      (Memᴰ.append_right (value_turns x y)
      (Memᴰ.append_right (resource_items 1 x)
      (Memᴰ.append_right (resource_items 2 y) (in_turns_2 (user_item x) x.fields (user_item y) y.fields k l))))

-- ---- what a reading lists is true of it ..
pub lists_tells : (x : Reading) (i : Item) → Lists x i → tells x i ≡ true
unfolding tells
lists_tells x i (an_overflow k l) = both _ _ (lt-ltb k (length x.overflows) l) (eq-eqb (at x.overflows k) (at x.overflows k) refl)
lists_tells x i (a_value p l) = both _ _ (lt-ltb p (length x.values) l) (eq-eqb (at x.values p) (at x.values p) refl)
lists_tells x i (a_resource z m) = member_has z x.plan m
lists_tells x i (a_user k l) =
    both _ _ (lt-ltb k x.fields l) (both _ _ (eq-eqb (x.bits k) (x.bits k) refl) (same_self (x.owner k)))

-- .. what is true of it but for the bandwidth it lists, in words that say the same ..
pub tells_lists : (x : Reading) (i : Item) → ((b : ℕ) → i ≡ bandwidth_is b → ⊥) → tells x i ≡ true → (j : Item) × Alike i j × Lists x j
unfolding tells
tells_lists x (refused_with z) n e = absurd (false≢true e)
tells_lists x (bandwidth_is b) n e = absurd (n b refl)
tells_lists x (overflow_is k v) n e =
    let p = of_both _ _ e in
    let q : at x.overflows k ≡ v = eqb-true (at x.overflows k) v p.1 in
    (overflow_item x k, rw q same_overflow, an_overflow k (ltb-true k (length x.overflows) p.0))
tells_lists x (value_is k v) n e =
    let p = of_both _ _ e in
    let q : at x.values k ≡ v = eqb-true (at x.values k) v p.1 in
    (value_item x k, rw q same_value, a_value k (ltb-true k (length x.values) p.0))
tells_lists x (resource_is z) n e = let w = has_member z x.plan e in (resource_is w.0, same_resource_fact w.1, a_resource w.0 w.2)
tells_lists x (user_is i f z) n e =
    let p = of_both (ltb i x.fields) _ e in
    let r = of_both (eqb (x.bits i) f) _ p.1 in
    let q : x.bits i ≡ f = eqb-true (x.bits i) f r.0 in
    (user_item x i, rw q (same_user (same_back (x.owner i) z r.1)), a_user i (ltb-true i x.fields p.0))

-- .. and what says the same is true of the same readings
pub alike_tells : (x : Reading) (i j : Item) → Alike i j → tells x i ≡ tells x j
unfolding tells
alike_tells x i j same_refusal = refl
alike_tells x i j same_bandwidth = refl
alike_tells x i j same_overflow = refl
alike_tells x i j same_value = refl
alike_tells x i j (same_resource_fact {y} {z} e) = has_same_left y z e x.plan
alike_tells x i j (same_user {i = k} {f = f} {y = y} {z = z} e) =
    ap (λ (t : Bool). ltb k x.fields && (eqb (x.bits k) f && t)) (same_right y z e (x.owner k))
