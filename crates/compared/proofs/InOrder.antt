-- The differences stand in 02's order (T-06): "in that order, and inside each in listing order, first frame's side first".
use mathlib.Core.Path.{◌≡◌, refl, sym, ◌∙◌}
use mathlib.Core.Bool.{Bool, true, false, cond}
use mathlib.Core.List.{List, [], ◌∷◌, ◌++◌}
use Prim.Native.Nat.{ℕ, zero, suc, ◌<◌}
use native.Mathlib.Decide.{ℕ_discrete}
use native.Mathlib.Omega.{arith}
use lib.Dec.{ltb, eqb}
use lib.ListN.{length}
use borrow.Author.Tests.{eq-eqb, ne_eqb}
use Rattle.answer.specs.Answer.{Outcome}
use Rattle.answer.specs.Answer.{answer_of}
use Rattle.std.specs.Prelude.{Ok, Err}
use Rattle.records.specs.Records.{blank}
use Rattle.halves.specs.Table.{outcome11}
use Rattle.compared.specs.Reading.{Item, refused_with, bandwidth_is, Reading, reading_of}
use Rattle.compared.specs.Differences.{Difference, by, nth, in_turn, longer, turns, overflow_item, value_item, user_item, resource_item}
use Rattle.compared.specs.Differences.{overflow_turns, value_turns, resource_items, user_turns, all_said, differs, keep, differences}
use Rattle.compared.specs.Differences.{judged_both, comparison}
use Rattle.compared.specs.InOrder.{group_of, number_in, Earlier, by_group, by_item, by_side, by_listing, InOrder}
use Rattle.compared.proofs.Keep.{Each, each_append, each_cons, each_nil, each_map}
use Rattle.compared.proofs.Turns.{nth_each, turn_each}
use Rattle.compared.proofs.Pairwise.{Pairwise, Across, pairwise_keep, pairwise_append, pairwise_at, pairwise_map}
use Rattle.compared.proofs.Once.{Later, users_later, resources_group, resources_frame, plans, plans_later, following, values_group, following_later}
use Rattle.compared.proofs.Once.{overflows_group}

module _ (x y : Reading) where
  abbrev Rises : List Difference → Type 0
  Rises ds = Pairwise (Earlier x y) ds

  alone : (d : Difference) → Rises (d ∷ [])
  alone d = (each_nil (Earlier x y d), tt)

  -- one group after another
  groups_rise : (g : ℕ) (ds es : List Difference) → Each (λ d. group_of d.what ≡ g) ds → Each (Later x y g) es → Across (Earlier x y) ds es
  groups_rise g ds es p q d m e n = by_group (omega (arith, p d m, q e n))

  -- ---- item by item
  module _ (f : ℕ → Item) (m : ℕ) (g : ℕ → Item) (n : ℕ) (c : ℕ) (own_group : (i : ℕ) → group_of (f i) ≡ c) (other_group : (i : ℕ) → group_of (g i) ≡ c)
      (own : (i : ℕ) → number_in (f i) ≡ i) (other : (i : ℕ) → number_in (g i) ≡ i) where
    nth_rises : (s : ℕ) (h : ℕ → Item) (k i : ℕ) → Rises (nth s h k i)
    unfolding nth
    nth_rises s h k i = go (ltb i k)
      where
        go : (t : Bool) → Rises (cond t (by s (h i) ∷ []) [])
        go true = alone (by s (h i))
        go false = tt

    -- of frame s, the k-th
    abbrev Kth : ℕ → ℕ → Difference → Type 0
    Kth s k d = (group_of d.what ≡ c) × (number_in d.what ≡ k) × (d.frame ≡ s)

    first_kth : (k : ℕ) → Each (Kth 1 k) (nth 1 f m k)
    first_kth k = nth_each (Kth 1 k) 1 f m k (λ l. (own_group k, own k, refl))

    second_kth : (k : ℕ) → Each (Kth 2 k) (nth 2 g n k)
    second_kth k = nth_each (Kth 2 k) 2 g n k (λ l. (other_group k, other k, refl))

    -- "first frame's side first"
    pair_rises : (k : ℕ) → Rises (nth 1 f m k ++ nth 2 g n k)
    pair_rises k =
        pairwise_append (Earlier x y) (nth 1 f m k) (nth 2 g n k) (nth_rises 1 f m k) (nth_rises 2 g n k) (λ d p e q.
        let u = first_kth k d p in let v = second_kth k e q in by_side (u.0 ∙ sym v.0) (u.1 ∙ sym v.1) u.2 v.2)

    abbrev Below : ℕ → Difference → Type 0
    Below k d = (group_of d.what ≡ c) × (number_in d.what < k)

    turn_below : (k : ℕ) → Each (Below k) (in_turn f m g n k)
    turn_below k = turn_each f m g n (Below k) k (λ i l h. (own_group i, rw (own i) l)) (λ i l h. (other_group i, rw (other i) l))

    turn_rises : (k : ℕ) → Rises (in_turn f m g n k)
    unfolding in_turn
    turn_rises zero = tt
    turn_rises (suc k) =
        pairwise_append (Earlier x y) (in_turn f m g n k) (nth 1 f m k ++ nth 2 g n k) (turn_rises k) (pair_rises k) (λ d p.
        let u = turn_below k d p in
        each_append (Earlier x y d) (nth 1 f m k) (nth 2 g n k)
        (λ e q. let v = first_kth k e q in by_item (u.0 ∙ sym v.0) (omega (arith, u.1, v.1)))
        (λ e q. let v = second_kth k e q in by_item (u.0 ∙ sym v.0) (omega (arith, u.1, v.1))))

    turns_rise : Rises (turns f m g n)
    unfolding turns
    turns_rise = turn_rises (longer m n)

  -- ---- the resources, "in its listing's order"
  first_rises : Rises (resource_items 1 x)
  unfolding resource_items
  first_rises = pairwise_map (Earlier x y) (resource_item 1) blank x.plan (λ i j l m. by_listing 1 i j l m refl refl)

  second_rises : Rises (resource_items 2 y)
  unfolding resource_items
  second_rises = pairwise_map (Earlier x y) (resource_item 2) blank y.plan (λ i j l m. by_listing 2 i j l m refl refl)

  resources_number : (s : ℕ) (w : Reading) → Each (λ d. number_in d.what ≡ 0) (resource_items s w)
  unfolding resource_items
  resources_number s w = each_map (λ d. number_in d.what ≡ 0) (resource_item s) w.plan (λ z m. refl)

  plans_rise : Rises (plans x y)
  unfolding user_turns
  plans_rise =
      pairwise_append (Earlier x y) (resource_items 1 x) _ first_rises
      (pairwise_append (Earlier x y) (resource_items 2 y) (user_turns x y) second_rises
      (turns_rise (user_item x) x.fields (user_item y) y.fields 5 (λ i. refl) (λ i. refl) (λ i. refl) (λ i. refl))
      (groups_rise 4 (resource_items 2 y) (user_turns x y) (resources_group x y 2 y) (users_later x y)))
      (λ d p. each_append (Earlier x y d) (resource_items 2 y) (user_turns x y)
      (λ e q. by_side (resources_group x y 1 x d p ∙ sym (resources_group x y 2 y e q)) (resources_number 1 x d p ∙ sym (resources_number 2 y e q))
      (resources_frame x y 1 x d p) (resources_frame x y 2 y e q))
      (groups_rise 4 (resource_items 1 x) (user_turns x y) (resources_group x y 1 x) (users_later x y) d p))

  said_rises : Rises (all_said x y)
  unfolding all_said overflow_turns value_turns
  said_rises =
      pairwise_append (Earlier x y) (overflow_turns x y) (following x y)
      (turns_rise (overflow_item x) (length x.overflows) (overflow_item y) (length y.overflows) 2 (λ i. refl) (λ i. refl) (λ i. refl) (λ i. refl))
      (pairwise_append (Earlier x y) (value_turns x y) (plans x y)
      (turns_rise (value_item x) (length x.values) (value_item y) (length y.values) 3 (λ i. refl) (λ i. refl) (λ i. refl) (λ i. refl))
      plans_rise (groups_rise 3 (value_turns x y) (plans x y) (values_group x y) (plans_later x y)))
      (groups_rise 2 (overflow_turns x y) (following x y) (overflows_group x y) (following_later x y))

  -- ---- what is said in two lines, the first frame's first
  both_sides : (d e : Difference) → group_of d.what ≡ group_of e.what → number_in d.what ≡ number_in e.what → d.frame ≡ 1 → e.frame ≡ 2
      → Rises (d ∷ e ∷ [])
  both_sides d e g n s t = (each_cons (Earlier x y d) e [] (by_side g n s t) (each_nil (Earlier x y d)), alone e)

  differences_rise : Rises (differences x y)
  unfolding differences
  differences_rise = go (ℕ_discrete x.bandwidth y.bandwidth)
    where
      go : Dec (x.bandwidth ≡ y.bandwidth)
          → Rises
          (cond (eqb x.bandwidth y.bandwidth) (keep (differs x y) (all_said x y))
          (by 1 (bandwidth_is x.bandwidth) ∷ by 2 (bandwidth_is y.bandwidth) ∷ []))
      go (yes e) = rw (eq-eqb x.bandwidth y.bandwidth e) (pairwise_keep (Earlier x y) (differs x y) (all_said x y) said_rises)
      go (no n) =
          rw (ne_eqb x.bandwidth y.bandwidth n)
          (both_sides (by 1 (bandwidth_is x.bandwidth)) (by 2 (bandwidth_is y.bandwidth)) refl refl refl refl)

-- ---- of two frames
module _ (bw : ℕ) (a b : List ℕ) (bw' : ℕ) (a' b' : List ℕ) where
  comparison_rises : Rises (reading_of bw a b) (reading_of bw' a' b') (comparison bw a b bw' a' b')
  unfolding comparison
  comparison_rises = go (outcome11 bw a b) (outcome11 bw' a' b')
    where
      go : (o o' : Outcome)
          → Rises (reading_of bw a b) (reading_of bw' a' b') (judged_both o o' (differences (reading_of bw a b) (reading_of bw' a' b')))
      go (Ok u) (Ok v) = differences_rise (reading_of bw a b) (reading_of bw' a' b')
      go (Ok u) (Err z) = alone (reading_of bw a b) (reading_of bw' a' b') (by 2 (refused_with (answer_of z)))
      go (Err z) (Ok u) = alone (reading_of bw a b) (reading_of bw' a' b') (by 1 (refused_with (answer_of z)))
      go (Err z) (Err w) =
          both_sides (reading_of bw a b) (reading_of bw' a' b') (by 1 (refused_with (answer_of z))) (by 2 (refused_with (answer_of w))) refl refl refl refl

  pub in_order : InOrder (reading_of bw a b) (reading_of bw' a' b') (comparison bw a b bw' a' b')
  in_order = record {
    rising = pairwise_at (Earlier (reading_of bw a b) (reading_of bw' a' b')) (comparison bw a b bw' a' b') comparison_rises;
  }
