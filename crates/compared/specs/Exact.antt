-- What is held of the differences (02, T-06): "the exact differences out".
use Rattle.std.specs.Prelude.{◌≡◌, true, false, cond, ℕ, ◌-◌, ◌<◌, eqb, length, get_or}
use mathlib.Core.List.{List, [], ◌∷◌, map, Memᴰ}
use Rattle.std.specs.Prelude.{Ok}
use Rattle.halves.specs.Table.{outcome11}
use Rattle.frame_words.specs.Words.{words_of}
use Rattle.compared.specs.Reading.{Item, refused_with, bandwidth_is, overflow_is, value_is, resource_is, user_is, Reading, same_resource, tells}
use Rattle.compared.specs.Differences.{Difference, by, other_than, keep, all_said, differences, comparison}

-- ys are those of xs that are such, each once and in the order of xs
pub data Picked {A : Type 0} (P : A → Type 0) : List A → List A → Type 0 where
  no_more : Picked P [] []
  kept : {x : A} {xs ys : List A} → P x → Picked P xs ys → Picked P (x ∷ xs) (x ∷ ys)
  left_out : {x : A} {xs ys : List A} → (P x → ⊥) → Picked P xs ys → Picked P (x ∷ xs) ys

-- the frame that has the line
abbrev pub whose : ℕ → Reading → Reading → Reading
whose s x y = cond (eqb s 1) x y

-- a line that is "true of its frame and not of the other"
abbrev pub OnlyOne : Reading → Reading → Difference → Type 0
OnlyOne x y d = (tells (whose d.frame x y) d.what ≡ true) × (tells (other_than d.frame x y) d.what ≡ false)

-- two things that say the same: a resource is the same "however many fields it has"
pub data Alike : Item → Item → Type 0 where
  same_refusal : {z : _} → Alike (refused_with z) (refused_with z)
  same_bandwidth : {b : ℕ} → Alike (bandwidth_is b) (bandwidth_is b)
  same_overflow : {k v : ℕ} → Alike (overflow_is k v) (overflow_is k v)
  same_value : {p v : ℕ} → Alike (value_is p v) (value_is p v)
  same_resource_fact : {y z : _} → same_resource y z ≡ true → Alike (resource_is y) (resource_is z)
  same_user : {i f : ℕ} {y z : _} → same_resource y z ≡ true → Alike (user_is i f y) (user_is i f z)

-- the lines of frame s, and 1 and 2 exchanged
unfoldable pub lines_of : ℕ → List Difference → List Difference
lines_of s ds = keep (λ d. eqb d.frame s) ds

abbrev pub exchange : Difference → Difference
exchange d = by (3 - d.frame) d.what

-- of two readings
pub record Exact (x y : Reading) : Type 0 where
  -- each line is true of its frame and not of the other
  pub true_of_one : (d : Difference) → Memᴰ d (differences x y) → OnlyOne x y d
  -- of frames of one bandwidth: the lines are those of all that both say, in 02's order ..
  pub in_order : x.bandwidth ≡ y.bandwidth → Picked (OnlyOne x y) (all_said x y) (differences x y)
  -- .. so that what one says and the other does not has its line
  pub has_line_1 : x.bandwidth ≡ y.bandwidth → (i : Item) → tells x i ≡ true → tells y i ≡ false
      → (j : Item) × Alike i j × Memᴰ (by 1 j) (differences x y)
  pub has_line_2 : x.bandwidth ≡ y.bandwidth → (i : Item) → tells y i ≡ true → tells x i ≡ false
      → (j : Item) × Alike i j × Memᴰ (by 2 j) (differences x y)
  -- the other way round: the same lines with 1 and 2 exchanged, each frame's in the same order
  pub exchanged_1 : lines_of 1 (differences y x) ≡ map exchange (lines_of 2 (differences x y))
  pub exchanged_2 : lines_of 2 (differences y x) ≡ map exchange (lines_of 1 (differences x y))

-- "Equal readings give no line, and no line means equal readings; padding doesn't count": of two frames
pub record NoLine (bw : ℕ) (a b : List ℕ) (bw' : ℕ) (a' b' : List ℕ) : Type 0 where
  pub accepted_1 : comparison bw a b bw' a' b' ≡ [] → outcome11 bw a b ≡ Ok tt
  pub accepted_2 : comparison bw a b bw' a' b' ≡ [] → outcome11 bw' a' b' ≡ Ok tt
  pub one_bandwidth : comparison bw a b bw' a' b' ≡ [] → bw ≡ bw'
  pub one_reading : comparison bw a b bw' a' b' ≡ [] → words_of bw a b ≡ words_of bw' a' b'
  pub equal : outcome11 bw a b ≡ Ok tt → outcome11 bw' a' b' ≡ Ok tt → bw ≡ bw' → words_of bw a b ≡ words_of bw' a' b'
      → comparison bw a b bw' a' b' ≡ []

-- "once": no two lines of one frame say the same
pub record Once (ds : List Difference) : Type 0 where
  pub not_again : (i j : ℕ) (d : Difference) → i < j → j < length ds → (get_or ds i d).frame ≡ (get_or ds j d).frame
      → Alike (get_or ds i d).what (get_or ds j d).what → ⊥
