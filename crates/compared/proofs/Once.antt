-- Every difference has its line once (02, T-06): no two lines of one frame say the same, of any two frames.
use mathlib.Core.Path.{◌≡◌, refl}
use mathlib.Core.Bool.{cond}
use mathlib.Core.List.{List, [], ◌∷◌, ◌++◌}
use Prim.Native.Nat.{ℕ, ◌<◌}
use native.Mathlib.Decide.{ℕ_discrete}
use native.Mathlib.Omega.{arith}
use lib.Dec.{eqb}
use lib.ListN.{length}
use borrow.Author.Tests.{eq-eqb, ne_eqb}
use Rattle.answer.specs.Answer.{Outcome}
use Rattle.answer.specs.Answer.{answer_of}
use Rattle.std.specs.Prelude.{Ok, Err}
use Rattle.halves.specs.Table.{outcome11}
use Rattle.compared.specs.Reading.{refused_with, bandwidth_is, Reading, reading_of}
use Rattle.compared.specs.Differences.{Difference, by, overflow_item, value_item, user_item, resource_item, overflow_turns, value_turns}
use Rattle.compared.specs.Differences.{resource_items, user_turns, all_said, differs, keep, differences, refused_by, judged_both, comparison}
use Rattle.compared.specs.Exact.{Once}
use Rattle.compared.specs.InOrder.{group_of}
use Rattle.compared.proofs.Keep.{Each, each_append, each_cons, each_nil, each_map}
use Rattle.compared.proofs.Turns.{turns_each}
use Rattle.compared.proofs.Pairwise.{pairwise_keep, pairwise_append, pairwise_at}
use Rattle.compared.proofs.Apart.{Unlike, Apart, Distinct, clear_frames, clear_groups, turns_apart, resources_apart}
use Rattle.compared.proofs.Distinct.{plan_distinct}

-- "a differing bandwidth, and then nothing more"
bandwidths_apart : (b c : ℕ) → Apart (by 1 (bandwidth_is b) ∷ by 2 (bandwidth_is c) ∷ [])
bandwidths_apart b c = (
  each_cons (Unlike (by 1 (bandwidth_is b))) (by 2 (bandwidth_is c)) [] (λ k. let z = k.0 in omega arith)
      (each_nil (Unlike (by 1 (bandwidth_is b)))),
  (each_nil (Unlike (by 2 (bandwidth_is c))), tt),
)

-- ---- all that is said
module _ (x y : Reading) where
  abbrev pub Later : ℕ → Difference → Type 0
  Later g e = g < group_of e.what

  pub users_later : Each (Later 4) (user_turns x y)
  unfolding user_turns
  users_later = turns_each (user_item x) x.fields (user_item y) y.fields (Later 4) (λ i l. omega arith) (λ i l. omega arith)

  pub resources_group : (s : ℕ) (w : Reading) → Each (λ d. group_of d.what ≡ 4) (resource_items s w)
  unfolding resource_items
  resources_group s w = each_map (λ d. group_of d.what ≡ 4) (resource_item s) w.plan (λ z m. refl)

  pub resources_frame : (s : ℕ) (w : Reading) → Each (λ d. d.frame ≡ s) (resource_items s w)
  unfolding resource_items
  resources_frame s w = each_map (λ d. d.frame ≡ s) (resource_item s) w.plan (λ z m. refl)

  -- the resources and what follows them
  abbrev pub plans : List Difference
  plans = resource_items 1 x ++ (resource_items 2 y ++ user_turns x y)

  pub plans_later : Each (Later 3) plans
  plans_later =
      each_append (Later 3) (resource_items 1 x) _ (λ d m. let e = resources_group 1 x d m in omega arith)
      (each_append (Later 3) (resource_items 2 y) _ (λ d m. let e = resources_group 2 y d m in omega arith)
      (λ d m. let e = users_later d m in omega arith))

  abbrev pub following : List Difference
  following = value_turns x y ++ plans

  pub values_group : Each (λ d. group_of d.what ≡ 3) (value_turns x y)
  unfolding value_turns
  values_group =
      turns_each (value_item x) (length x.values) (value_item y) (length y.values) (λ d. group_of d.what ≡ 3) (λ i l. refl) (λ i l. refl)

  pub following_later : Each (Later 2) following
  following_later =
      each_append (Later 2) (value_turns x y) plans (λ d m. let e = values_group d m in omega arith) (λ d m. let e = plans_later d m in omega arith)

  pub overflows_group : Each (λ d. group_of d.what ≡ 2) (overflow_turns x y)
  unfolding overflow_turns
  overflows_group =
      turns_each (overflow_item x) (length x.overflows) (overflow_item y) (length y.overflows) (λ d. group_of d.what ≡ 2)
      (λ i l. refl) (λ i l. refl)

  module _ (p : Distinct x.plan) (q : Distinct y.plan) where
    plans_apart : Apart plans
    unfolding resource_items user_turns
    plans_apart =
        pairwise_append Unlike (resource_items 1 x) _ (resources_apart 1 x.plan p)
        (pairwise_append Unlike (resource_items 2 y) (user_turns x y) (resources_apart 2 y.plan q)
        (turns_apart (user_item x) x.fields (user_item y) y.fields (λ i. refl) (λ i. refl))
        (clear_groups 4 (resource_items 2 y) (user_turns x y) (resources_group 2 y) users_later))
        (λ d m. each_append (Unlike d) (resource_items 2 y) (user_turns x y)
        (clear_frames (resource_items 1 x) (resource_items 2 y) (resources_frame 1 x) (resources_frame 2 y) d m)
        (clear_groups 4 (resource_items 1 x) (user_turns x y) (resources_group 1 x) users_later d m))

    said_apart : Apart (all_said x y)
    unfolding all_said overflow_turns value_turns
    said_apart =
        pairwise_append Unlike (overflow_turns x y) following
        (turns_apart (overflow_item x) (length x.overflows) (overflow_item y) (length y.overflows) (λ i. refl) (λ i. refl))
        (pairwise_append Unlike (value_turns x y) plans
        (turns_apart (value_item x) (length x.values) (value_item y) (length y.values) (λ i. refl) (λ i. refl))
        plans_apart (clear_groups 3 (value_turns x y) plans values_group plans_later))
        (clear_groups 2 (overflow_turns x y) following overflows_group following_later)

    differences_apart : Apart (differences x y)
    unfolding differences
    differences_apart = go (ℕ_discrete x.bandwidth y.bandwidth)
      where
        go : Dec (x.bandwidth ≡ y.bandwidth)
            → Apart
            (cond (eqb x.bandwidth y.bandwidth) (keep (differs x y) (all_said x y))
            (by 1 (bandwidth_is x.bandwidth) ∷ by 2 (bandwidth_is y.bandwidth) ∷ []))
        go (yes e) = rw (eq-eqb x.bandwidth y.bandwidth e) (pairwise_keep Unlike (differs x y) (all_said x y) said_apart)
        go (no n) = rw (ne_eqb x.bandwidth y.bandwidth n) (bandwidths_apart x.bandwidth y.bandwidth)

-- ---- of two frames
refused_apart : (s : ℕ) (o : Outcome) → Apart (refused_by s o)
refused_apart s (Ok u) = tt
refused_apart s (Err z) = (each_nil (Unlike (by s (refused_with (answer_of z)))), tt)

refused_frame : (s : ℕ) (o : Outcome) → Each (λ d. d.frame ≡ s) (refused_by s o)
refused_frame s (Ok u) = each_nil (λ d. d.frame ≡ s)
refused_frame s (Err z) = each_cons (λ d. d.frame ≡ s) (by s (refused_with (answer_of z))) [] refl (each_nil (λ d. d.frame ≡ s))

module _ (bw : ℕ) (a b : List ℕ) (bw' : ℕ) (a' b' : List ℕ) where
  comparison_apart : Apart (comparison bw a b bw' a' b')
  unfolding comparison reading_of
  comparison_apart = go (outcome11 bw a b) refl (outcome11 bw' a' b') refl
    where
      go : (o : Outcome) → outcome11 bw a b ≡ o → (o' : Outcome) → outcome11 bw' a' b' ≡ o'
          → Apart (judged_both o o' (differences (reading_of bw a b) (reading_of bw' a' b')))
      go (Ok u) e (Ok v) e' = differences_apart (reading_of bw a b) (reading_of bw' a' b') (plan_distinct bw a b e) (plan_distinct bw' a' b' e')
      go (Ok u) e (Err z) e' = refused_apart 2 (Err z)
      go (Err z) e o' e' = (λ d m c. let n = c.0 in omega (arith, refused_frame 2 o' d m), refused_apart 2 o')

  pub once : Once (comparison bw a b bw' a' b')
  once = record { not_again = λ i j d l m e h. pairwise_at Unlike (comparison bw a b bw' a' b') comparison_apart i j d l m (e, h) }
