-- Lists of differences in which no two of one frame say the same.
use mathlib.Core.Path.{◌≡◌, refl, sym, subst}
use mathlib.Core.Bool.{Bool, true, false, cond}
use mathlib.Core.List.{List, [], ◌∷◌, ◌++◌, map}
use Prim.Native.Nat.{ℕ, zero, suc, ◌<◌}
use native.Mathlib.Omega.{arith}
use lib.Dec.{ltb}
use lib.ListN.{length, get_or}
use Rattle.records.specs.declared.Record.{Record}
use Rattle.records.specs.Records.{blank}
use Rattle.compared.specs.Reading.{Item, refused_with, bandwidth_is, overflow_is, value_is, resource_is, user_is, same_resource}
use Rattle.compared.specs.Differences.{Difference, by, nth, in_turn, longer, turns, resource_item}
use Rattle.compared.specs.Exact.{Alike, same_refusal, same_bandwidth, same_overflow, same_value, same_resource_fact, same_user}
use Rattle.compared.specs.InOrder.{group_of, number_in}
use Rattle.compared.proofs.Same.{same_self}
use Rattle.compared.proofs.Keep.{Each, each_append, each_nil}
use Rattle.compared.proofs.Pairwise.{Pairwise, Across, pairwise_append, pairwise_map}
use Rattle.compared.proofs.Turns.{nth_each, turn_each}

-- ---- lists in which no two say the same

-- two lines of one frame that say the same
abbrev pub Clash : Difference → Difference → Type 0
Clash d e = (d.frame ≡ e.frame) × Alike d.what e.what

abbrev pub Unlike : Difference → Difference → Type 0
Unlike d e = Clash d e → ⊥

abbrev pub Apart : List Difference → Type 0
Apart ds = Pairwise Unlike ds

-- none of ds says the same as one of es
abbrev pub Clear : List Difference → List Difference → Type 0
Clear ds es = Across Unlike ds es

-- ---- what keeps two lines apart: the frame, the group, the number in it
alike_group : {i j : Item} → Alike i j → group_of i ≡ group_of j
alike_group same_refusal = refl
alike_group same_bandwidth = refl
alike_group same_overflow = refl
alike_group same_value = refl
alike_group (same_resource_fact e) = refl
alike_group (same_user e) = refl

alike_number : {i j : Item} → Alike i j → number_in i ≡ number_in j
alike_number same_refusal = refl
alike_number same_bandwidth = refl
alike_number same_overflow = refl
alike_number same_value = refl
alike_number (same_resource_fact e) = refl
alike_number (same_user e) = refl

abbrev record_in : Item → Record
record_in (refused_with z) = blank
record_in (bandwidth_is b) = blank
record_in (overflow_is k v) = blank
record_in (value_is p v) = blank
record_in (resource_is z) = z
record_in (user_is i f z) = z

alike_same : {i j : Item} → Alike i j → same_resource (record_in i) (record_in j) ≡ true
alike_same same_refusal = same_self blank
alike_same same_bandwidth = same_self blank
alike_same same_overflow = same_self blank
alike_same same_value = same_self blank
alike_same (same_resource_fact e) = e
alike_same (same_user e) = e

clear_by : (f : Difference → ℕ) → ((d e : Difference) → Clash d e → f d ≡ f e) → (P Q : ℕ → Type 0) → ((k : ℕ) → P k → Q k → ⊥)
    → (ds es : List Difference) → Each (λ d. P (f d)) ds → Each (λ e. Q (f e)) es → Clear ds es
clear_by f same P Q never ds es p q d m e n c = never (f d) (p d m) (subst Q (sym (same d e c)) (q e n))

-- of two frames
pub clear_frames : (ds es : List Difference) → Each (λ d. d.frame ≡ 1) ds → Each (λ e. e.frame ≡ 2) es → Clear ds es
clear_frames ds es = clear_by (λ d. d.frame) (λ d e c. c.0) (λ k. k ≡ 1) (λ k. k ≡ 2) (λ k p q. omega arith) ds es

-- of one group and of later ones
pub clear_groups : (g : ℕ) (ds es : List Difference) → Each (λ d. group_of d.what ≡ g) ds → Each (λ e. g < group_of e.what) es → Clear ds es
clear_groups g ds es = clear_by (λ d. group_of d.what) (λ d e c. alike_group c.1) (λ k. k ≡ g) (λ k. g < k) (λ k p q. omega arith) ds es

-- ---- item by item
module _ (f : ℕ → Item) (m : ℕ) (g : ℕ → Item) (n : ℕ) (own : (i : ℕ) → number_in (f i) ≡ i) (other : (i : ℕ) → number_in (g i) ≡ i) where
  nth_apart : (s : ℕ) (h : ℕ → Item) (k i : ℕ) → Apart (nth s h k i)
  unfolding nth
  nth_apart s h k i = go (ltb i k)
    where
      go : (t : Bool) → Apart (cond t (by s (h i) ∷ []) [])
      go true = (each_nil (Unlike (by s (h i))), tt)
      go false = tt

  pair_apart : (k : ℕ) → Apart (nth 1 f m k ++ nth 2 g n k)
  pair_apart k =
      pairwise_append Unlike (nth 1 f m k) (nth 2 g n k) (nth_apart 1 f m k) (nth_apart 2 g n k)
      (clear_frames (nth 1 f m k) (nth 2 g n k) (nth_each (λ d. d.frame ≡ 1) 1 f m k (λ l. refl)) (nth_each (λ d. d.frame ≡ 2) 2 g n k (λ l. refl)))

  turn_apart : (k : ℕ) → Apart (in_turn f m g n k)
  unfolding in_turn
  turn_apart zero = tt
  turn_apart (suc k) =
      pairwise_append Unlike (in_turn f m g n k) (nth 1 f m k ++ nth 2 g n k) (turn_apart k) (pair_apart k)
      (clear_by (λ d. number_in d.what) (λ d e c. alike_number c.1) (λ i. i < k) (λ i. i ≡ k) (λ i p q. omega arith)
      (in_turn f m g n k) (nth 1 f m k ++ nth 2 g n k)
      (turn_each f m g n (λ d. number_in d.what < k) k (λ i l h. rw (own i) l) (λ i l h. rw (other i) l))
      (each_append (λ e. number_in e.what ≡ k) (nth 1 f m k) (nth 2 g n k)
      (nth_each (λ e. number_in e.what ≡ k) 1 f m k (λ l. own k)) (nth_each (λ e. number_in e.what ≡ k) 2 g n k (λ l. other k))))

  pub turns_apart : Apart (turns f m g n)
  unfolding turns
  turns_apart = turn_apart (longer m n)

-- ---- the resources of a plan no two of which are the same
abbrev pub Distinct : List Record → Type 0
Distinct rs = (i j : ℕ) → i < j → j < length rs → same_resource (get_or rs i blank) (get_or rs j blank) ≡ true → ⊥

pub resources_apart : (s : ℕ) (rs : List Record) → Distinct rs → Apart (map (resource_item s) rs)
resources_apart s rs h = pairwise_map Unlike (resource_item s) blank rs (λ i j l m c. h i j l m (alike_same c.1))
