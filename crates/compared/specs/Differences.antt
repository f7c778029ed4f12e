-- The differences of two frames, as a list (02, T-06): what one frame says and the other does not, in 02's order.
use Rattle.std.specs.Prelude.{Bool, cond, not, List, [], ◌∷◌, ◌++◌, map, ℕ, zero, suc, ltb, eqb, length}
use Rattle.answer.specs.Lists.{at}
use Rattle.answer.specs.Answer.{Outcome}
use Rattle.answer.specs.Answer.{answer_of}
use Rattle.std.specs.Prelude.{Ok, Err}
use Rattle.halves.specs.Table.{outcome11}
use Rattle.records.specs.declared.Record.{Record}
use Rattle.compared.specs.Reading.{Item, refused_with, bandwidth_is, overflow_is, value_is, resource_is, user_is, Reading, reading_of, tells}

-- "Every line says which frame has it, and what"
pub record Difference : Type 0 where
  pub frame : ℕ
  pub what : Item

abbrev pub by : ℕ → Item → Difference
by s i = record { frame = s; what = i }

-- ---- all that two readings say, in 02's order

-- the i-th of n things that frame s says
unfoldable pub nth : ℕ → (ℕ → Item) → ℕ → ℕ → List Difference
nth s f n i = cond (ltb i n) (by s (f i) ∷ []) []

-- "In every group but the resources frame 1's line and frame 2's alternate, item by item": of m and n things those up to the k-th
unfoldable pub in_turn : (ℕ → Item) → ℕ → (ℕ → Item) → ℕ → ℕ → List Difference
in_turn f m g n zero = []
in_turn f m g n (suc k) = in_turn f m g n k ++ (nth 1 f m k ++ nth 2 g n k)

-- "or that only one has": up to the longer
unfoldable pub longer : ℕ → ℕ → ℕ
longer m n = cond (ltb m n) n m

unfoldable pub turns : (ℕ → Item) → ℕ → (ℕ → Item) → ℕ → List Difference
turns f m g n = in_turn f m g n (longer m n)

abbrev pub overflow_item : Reading → ℕ → Item
overflow_item x k = overflow_is k (at x.overflows k)

abbrev pub value_item : Reading → ℕ → Item
value_item x p = value_is p (at x.values p)

abbrev pub user_item : Reading → ℕ → Item
user_item x i = user_is i (x.bits i) (x.owner i)

abbrev pub resource_item : ℕ → Record → Difference
resource_item s z = by s (resource_is z)

unfoldable pub overflow_turns : Reading → Reading → List Difference
overflow_turns x y = turns (overflow_item x) (length x.overflows) (overflow_item y) (length y.overflows)

-- "by rising position"
unfoldable pub value_turns : Reading → Reading → List Difference
value_turns x y = turns (value_item x) (length x.values) (value_item y) (length y.values)

-- "first all that only frame 1 has, in its listing's order, then all that only frame 2 has"
unfoldable pub resource_items : ℕ → Reading → List Difference
resource_items s x = map (resource_item s) x.plan

-- "matched by their place among the User words"
unfoldable pub user_turns : Reading → Reading → List Difference
user_turns x y = turns (user_item x) x.fields (user_item y) y.fields

unfoldable pub all_said : Reading → Reading → List Difference
all_said x y = overflow_turns x y ++ (value_turns x y ++ (resource_items 1 x ++ (resource_items 2 y ++ user_turns x y)))

-- ---- the differences

-- the frame that is not s
abbrev pub other_than : ℕ → Reading → Reading → Reading
other_than s x y = cond (eqb s 1) y x

-- the other frame does not say so
unfoldable pub differs : Reading → Reading → Difference → Bool
differs x y d = not (tells (other_than d.frame x y) d.what)

-- those of a list that pass a test, in its order
unfoldable pub keep : {A : Type 0} → (A → Bool) → List A → List A
keep t [] = []
keep t (d ∷ ds) = cond (t d) (d ∷ keep t ds) (keep t ds)

-- "a differing bandwidth, and then nothing more; else .."
unfoldable pub differences : Reading → Reading → List Difference
differences x y =
    cond (eqb x.bandwidth y.bandwidth)
    (keep (differs x y) (all_said x y))
    (by 1 (bandwidth_is x.bandwidth) ∷ by 2 (bandwidth_is y.bandwidth) ∷ [])

-- "If one or both are refused, say which and its answer, first frame first, and compare nothing."
abbrev pub refused_by : ℕ → Outcome → List Difference
refused_by s (Ok u) = []
refused_by s (Err z) = by s (refused_with (answer_of z)) ∷ []

abbrev pub judged_both : Outcome → Outcome → List Difference → List Difference
judged_both (Ok u) (Ok v) ds = ds
judged_both (Ok u) (Err z) ds = refused_by 2 (Err z)
judged_both (Err z) o ds = refused_by 1 (Err z) ++ refused_by 2 o

-- of two frames, of the reading's 1 to 11
unfoldable pub comparison : ℕ → List ℕ → List ℕ → ℕ → List ℕ → List ℕ → List Difference
comparison bw a b bw' a' b' =
    judged_both (outcome11 bw a b) (outcome11 bw' a' b') (differences (reading_of bw a b) (reading_of bw' a' b'))
