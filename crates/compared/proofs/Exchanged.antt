-- Two readings the other way round: the same lines with 1 and 2 exchanged, each frame's in the same order.
use mathlib.Core.Path.{◌≡◌, refl, sym, ◌∙◌, ap}
use mathlib.Core.Bool.{Bool, true, false, cond}
use mathlib.Core.List.{List, [], ◌∷◌, ◌++◌, map}
use Prim.Native.Nat.{ℕ, zero, suc, ◌-◌}
use native.Mathlib.Decide.{ℕ_discrete}
use native.Mathlib.Omega.{arith}
use lib.Dec.{ltb, eqb}
use lib.ListN.{length}
use borrow.Author.Tests.{eqb-true, eq-eqb, ne_eqb}
use Rattle.answer.specs.Answer.{Outcome}
use Rattle.std.specs.Prelude.{Ok, Err}
use Rattle.records.specs.declared.Record.{Record}
use Rattle.halves.specs.Table.{outcome11}
use Rattle.compared.specs.Reading.{Item, bandwidth_is, Reading, reading_of}
use Rattle.compared.specs.Differences.{Difference, by, nth, in_turn, longer, turns, overflow_item, value_item, user_item, resource_item}
use Rattle.compared.specs.Differences.{overflow_turns, value_turns, resource_items, user_turns, all_said, differs, keep, differences, judged_both, comparison}
use Rattle.compared.specs.Exact.{lines_of, exchange}
use Rattle.compared.proofs.Keep.{keep_append, keep_swap}
use Rattle.compared.proofs.Turns.{longer_swap}

-- frame 1's lines of ds are frame 2's of es
abbrev Swapped : List Difference → List Difference → Type 0
Swapped ds es = lines_of 1 ds ≡ map exchange (lines_of 2 es)

pub map_append : {A B : Type 0} (f : A → B) (xs ys : List A) → map f (xs ++ ys) ≡ map f xs ++ map f ys
map_append f [] ys = refl
map_append {B = B} f (x ∷ xs) ys = ap (λ (zs : List B). f x ∷ zs) (map_append f xs ys)

lines_append : (s : ℕ) (xs ys : List Difference) → lines_of s (xs ++ ys) ≡ lines_of s xs ++ lines_of s ys
unfolding lines_of
lines_append s xs ys = keep_append (λ d. eqb d.frame s) xs ys

swapped_append : (xs ys us vs : List Difference) → Swapped xs us → Swapped ys vs → Swapped (xs ++ ys) (us ++ vs)
swapped_append xs ys us vs e f =
    let l = lines_append 1 xs ys in
    let r : map exchange (lines_of 2 (us ++ vs)) ≡ map exchange (lines_of 2 us) ++ map exchange (lines_of 2 vs) =
    ap (map exchange) (lines_append 2 us vs) ∙ map_append exchange (lines_of 2 us) (lines_of 2 vs) in
    cc

-- ---- item by item
module _ (f : ℕ → Item) (m : ℕ) (g : ℕ → Item) (n : ℕ) where
  nth_swapped : (k : ℕ) → Swapped (nth 1 g n k ++ nth 2 f m k) (nth 1 f m k ++ nth 2 g n k)
  unfolding lines_of keep nth
  nth_swapped k = go (ltb k m) (ltb k n)
    where
      go : (t u : Bool)
          → Swapped (cond u (by 1 (g k) ∷ []) [] ++ cond t (by 2 (f k) ∷ []) []) (cond t (by 1 (f k) ∷ []) [] ++ cond u (by 2 (g k) ∷ []) [])
      go true true = refl
      go true false = refl
      go false true = refl
      go false false = refl

  turn_swapped : (k : ℕ) → Swapped (in_turn g n f m k) (in_turn f m g n k)
  unfolding in_turn lines_of keep
  turn_swapped zero = refl
  turn_swapped (suc k) = swapped_append (in_turn g n f m k) _ (in_turn f m g n k) _ (turn_swapped k) (nth_swapped k)

  turns_swapped : Swapped (turns g n f m) (turns f m g n)
  unfolding turns
  turns_swapped = rw (longer_swap n m) (turn_swapped (longer m n))

-- ---- the resources, one frame's after the other's
pass_over_2 : (rs : List Record) (ds : List Difference) → lines_of 1 (map (resource_item 2) rs ++ ds) ≡ lines_of 1 ds
unfolding lines_of keep
pass_over_2 [] ds = refl
pass_over_2 (r ∷ rs) ds = pass_over_2 rs ds

pass_over_1 : (rs : List Record) (ds : List Difference) → lines_of 2 (map (resource_item 1) rs ++ ds) ≡ lines_of 2 ds
unfolding lines_of keep
pass_over_1 [] ds = refl
pass_over_1 (r ∷ rs) ds = pass_over_1 rs ds

own_swapped : (rs : List Record) (ds es : List Difference) → Swapped ds es → Swapped (map (resource_item 1) rs ++ ds) (map (resource_item 2) rs ++ es)
unfolding lines_of keep
own_swapped [] ds es e = e
own_swapped (r ∷ rs) ds es e = ap (λ (zs : List Difference). resource_item 1 r ∷ zs) (own_swapped rs ds es e)

-- ---- all that is said
module _ (x y : Reading) where
  resources_swapped : (ds es : List Difference) → Swapped ds es
      → Swapped (resource_items 1 y ++ (resource_items 2 x ++ ds)) (resource_items 1 x ++ (resource_items 2 y ++ es))
  unfolding resource_items
  resources_swapped ds es e =
      own_swapped y.plan (map (resource_item 2) x.plan ++ ds) es (pass_over_2 x.plan ds ∙ e)
      ∙ ap (map exchange) (sym (pass_over_1 x.plan (map (resource_item 2) y.plan ++ es)))

  said_swapped : Swapped (all_said y x) (all_said x y)
  unfolding all_said overflow_turns value_turns user_turns
  said_swapped =
      swapped_append (overflow_turns y x) _ (overflow_turns x y) _
      (turns_swapped (overflow_item x) (length x.overflows) (overflow_item y) (length y.overflows))
      (swapped_append (value_turns y x) _ (value_turns x y) _
      (turns_swapped (value_item x) (length x.values) (value_item y) (length y.values))
      (resources_swapped (user_turns y x) (user_turns x y) (turns_swapped (user_item x) x.fields (user_item y) y.fields)))

  -- ---- and of that what differs
  exchange_differs : (d : Difference) → d.frame ≡ 2 → differs y x (exchange d) ≡ differs x y d
  unfolding differs
  exchange_differs d e = rw e

  differ_swapped : (ds : List Difference) → keep (differs y x) (map exchange (lines_of 2 ds)) ≡ map exchange (keep (differs x y) (lines_of 2 ds))
  unfolding lines_of keep
  differ_swapped [] = refl
  differ_swapped (d ∷ ds) = go (eqb d.frame 2) refl (differ_swapped ds)
    where
      kept : (t : Bool) → keep (differs y x) (map exchange (lines_of 2 ds)) ≡ map exchange (keep (differs x y) (lines_of 2 ds))
          → cond t (exchange d ∷ keep (differs y x) (map exchange (lines_of 2 ds))) (keep (differs y x) (map exchange (lines_of 2 ds)))
          ≡ map exchange (cond t (d ∷ keep (differs x y) (lines_of 2 ds)) (keep (differs x y) (lines_of 2 ds)))
      kept true h = ap (λ (zs : List Difference). exchange d ∷ zs) h
      kept false h = h

      go : (t : Bool) → eqb d.frame 2 ≡ t → keep (differs y x) (map exchange (lines_of 2 ds)) ≡ map exchange (keep (differs x y) (lines_of 2 ds))
          → keep (differs y x) (map exchange (cond t (d ∷ lines_of 2 ds) (lines_of 2 ds)))
          ≡ map exchange (keep (differs x y) (cond t (d ∷ lines_of 2 ds) (lines_of 2 ds)))
      go true e h = rw (exchange_differs d (eqb-true d.frame 2 e)) (kept (differs x y d) h)
      go false e h = h

  keep_swapped : Swapped (keep (differs y x) (all_said y x)) (keep (differs x y) (all_said x y))
  unfolding lines_of
  keep_swapped =
      keep_swap (λ d. eqb d.frame 1) (differs y x) (all_said y x)
      ∙ ap (keep (differs y x)) said_swapped
      ∙ differ_swapped (all_said x y)
      ∙ ap (map exchange) (keep_swap (differs x y) (λ d. eqb d.frame 2) (all_said x y))

  pub exchanged_1 : lines_of 1 (differences y x) ≡ map exchange (lines_of 2 (differences x y))
  unfolding differences
  exchanged_1 = go (ℕ_discrete x.bandwidth y.bandwidth)
    where
      bandwidths : Swapped (by 1 (bandwidth_is y.bandwidth) ∷ by 2 (bandwidth_is x.bandwidth) ∷ [])
          (by 1 (bandwidth_is x.bandwidth) ∷ by 2 (bandwidth_is y.bandwidth) ∷ [])
      bandwidths = unfold lines_of keep in refl

      go : Dec (x.bandwidth ≡ y.bandwidth)
          → Swapped
          (cond (eqb y.bandwidth x.bandwidth) (keep (differs y x) (all_said y x))
          (by 1 (bandwidth_is y.bandwidth) ∷ by 2 (bandwidth_is x.bandwidth) ∷ []))
          (cond (eqb x.bandwidth y.bandwidth) (keep (differs x y) (all_said x y))
          (by 1 (bandwidth_is x.bandwidth) ∷ by 2 (bandwidth_is y.bandwidth) ∷ []))
      go (yes e) = rw (eq-eqb x.bandwidth y.bandwidth e, eq-eqb y.bandwidth x.bandwidth (sym e)) keep_swapped
      go (no n) = rw (ne_eqb x.bandwidth y.bandwidth n, ne_eqb y.bandwidth x.bandwidth (λ e. n (sym e))) bandwidths

-- exchanged twice, a line is itself
exchanged_back : (ds : List Difference) → map exchange (map exchange (lines_of 2 ds)) ≡ lines_of 2 ds
unfolding lines_of keep
exchanged_back [] = refl
exchanged_back (d ∷ ds) = go (eqb d.frame 2) refl (exchanged_back ds)
  where
    go : (t : Bool) → eqb d.frame 2 ≡ t → map exchange (map exchange (lines_of 2 ds)) ≡ lines_of 2 ds
        → map exchange (map exchange (cond t (d ∷ lines_of 2 ds) (lines_of 2 ds))) ≡ cond t (d ∷ lines_of 2 ds) (lines_of 2 ds)
    go true e h =
        let f : d.frame ≡ 2 = eqb-true d.frame 2 e in
        let g : 3 - (3 - d.frame) ≡ d.frame = omega arith in
        ap (λ (s : ℕ). by s d.what ∷ map exchange (map exchange (lines_of 2 ds))) g ∙ ap (λ (zs : List Difference). d ∷ zs) h
    go false e h = h

pub exchanged_2 : (x y : Reading) → lines_of 2 (differences y x) ≡ map exchange (lines_of 1 (differences x y))
exchanged_2 x y = sym (ap (map exchange) (exchanged_1 y x) ∙ exchanged_back (differences y x))

-- ---- the same of two frames, accepted or refused
judged_swapped : (o o' : Outcome) (ds es : List Difference) → Swapped es ds → Swapped (judged_both o' o es) (judged_both o o' ds)
unfolding lines_of keep
judged_swapped (Ok u) (Ok v) ds es e = e
judged_swapped (Ok u) (Err z) ds es e = refl
judged_swapped (Err z) (Ok u) ds es e = refl
judged_swapped (Err z) (Err w) ds es e = refl

module _ (bw : ℕ) (a b : List ℕ) (bw' : ℕ) (a' b' : List ℕ) where
  pub frames_exchanged_1 : lines_of 1 (comparison bw' a' b' bw a b) ≡ map exchange (lines_of 2 (comparison bw a b bw' a' b'))
  unfolding comparison
  frames_exchanged_1 = judged_swapped (outcome11 bw a b) (outcome11 bw' a' b') _ _ (exchanged_1 (reading_of bw a b) (reading_of bw' a' b'))

pub frames_exchanged_2 : (bw : ℕ) (a b : List ℕ) (bw' : ℕ) (a' b' : List ℕ)
    → lines_of 2 (comparison bw' a' b' bw a b) ≡ map exchange (lines_of 1 (comparison bw a b bw' a' b'))
frames_exchanged_2 bw a b bw' a' b' =
    sym (ap (map exchange) (frames_exchanged_1 bw' a' b' bw a b) ∙ exchanged_back (comparison bw' a' b' bw a b))
