-- What a value tells of one of the first three kinds, and what the choice of a position's kind rests on.
use mathlib.Core.Path.{◌≡◌, refl, sym, ◌∙◌}
use mathlib.Core.Logic.{◌≢◌, ◌⊎◌, inl, inr, ⊎_elim}
use mathlib.Core.Bool.{Bool, true, false, cond}
use Prim.Native.Nat.{ℕ, ◌+◌, ◌*◌, ◌/◌, ◌%◌, ◌≤◌, ◌<◌}
use native.Mathlib.Omega.{arith}
use lib.Dec.{ltb, eqb}
use borrow.Author.Tests.{lt-ltb, le-ltb}
use Rattle.kinds.specs.Kinds.{family, takes, blank_at}
use Rattle.segments.specs.Engine.{first_named, tells, choose, segment_plan}
use Rattle.kinds.proofs.Tests.{Tested, decided, refuted, move, eqb_decides, ltb_decides, or_tested}
use Rattle.kinds.proofs.Table.{span_some, plain_family, plain_blank}
use Rattle.kinds.proofs.Fitting.{Leaf}

-- ---- what a value tells of one of the first three
abbrev pub Told : ℕ → ℕ → Type 0
Told d v = (v ≡ 28 + d) ⊎ (v / 8 ≡ 8 + d)

pub tells_told : (d v : ℕ) → d < 3 → Tested (tells d v) (Told d v)
unfolding tells
tells_told d v h =
    move (tells d v) ((v / 8 ≡ family d) ⊎ (v ≡ blank_at d 0)) (Told d v) to back
    (or_tested (eqb (v / 8) (family d)) (eqb v (blank_at d 0)) (v / 8 ≡ family d) (v ≡ blank_at d 0)
    (eqb_decides (v / 8) (family d)) (eqb_decides v (blank_at d 0)))
  where
    first_blank : blank_at d 0 ≡ 28 + d
    first_blank = plain_blank d h 0 (span_some d (omega arith))

    to : (v / 8 ≡ family d) ⊎ (v ≡ blank_at d 0) → Told d v
    to (inl e) = inr (e ∙ plain_family d h)
    to (inr e) = inl (e ∙ first_blank)

    back : Told d v → (v / 8 ≡ family d) ⊎ (v ≡ blank_at d 0)
    back (inl e) = inr (e ∙ sym first_blank)
    back (inr e) = inl (e ∙ sym (plain_family d h))

pub leaf_told : (c v : ℕ) → c < 3 → c ≢ 0 → Leaf c v → Told c v
leaf_told c v h n (inl x) = x
leaf_told c v h n (inr x) = absurd (n x.0)

pub leaf_is : (c d v : ℕ) → c < 3 → d < 3 → Leaf c v → Told d v → c ≡ d
leaf_is c d v h i (inl (inl e)) (inl f) = omega arith
leaf_is c d v h i (inl (inl e)) (inr f) = absurd (omega arith)
leaf_is c d v h i (inl (inr e)) (inl f) = absurd (omega arith)
leaf_is c d v h i (inl (inr e)) (inr f) = omega arith
leaf_is c d v h i (inr (e, x)) (inl f) = absurd (⊎_elim (λ y. omega arith) (⊎_elim (λ y. omega arith) (λ y. omega arith)) x)
leaf_is c d v h i (inr (e, x)) (inr f) = absurd (⊎_elim (λ y. omega arith) (⊎_elim (λ y. omega arith) (λ y. omega arith)) x)

-- what a choice rests on: the kind that is named, if it is one, the segment's and the pair's first value, and the place
pub data Chosen (k u v j : ℕ) : ℕ → Type 0 where
  left : k < 36 → takes k j ≡ false → Chosen k u v j 0
  joined : k < 36 → takes k j ≡ true → Chosen k u v j k
  whole : 36 ≤ k → Told 2 u → Chosen k u v j 2
  half : 36 ≤ k → (Told 2 u → ⊥) → Told 1 v → Chosen k u v j 1
  alone : 36 ≤ k → (Told 2 u → ⊥) → (Told 1 v → ⊥) → Chosen k u v j 0

pub chosen : (k u v j : ℕ) → Chosen k u v j (choose k u v j)
unfolding choose
chosen k u v j = go (ltb k 36) (takes k j) (tells 2 u) (tells 1 v) (ltb_decides k 36) refl (tells_told 2 u (omega arith)) (tells_told 1 v (omega arith))
  where
    go : (a b c d : Bool) → Tested a (k < 36) → takes k j ≡ b → Tested c (Told 2 u) → Tested d (Told 1 v)
        → Chosen k u v j (cond a (cond b k 0) (cond c 2 (cond d 1 0)))
    go true true c d p q r s = joined p q
    go true false c d p q r s = left p q
    go false b true d p q r s = whole (omega arith) r
    go false b false true p q r s = half (omega arith) r s
    go false b false false p q r s = alone (omega arith) r s

pub choose_is : {k u v j x : ℕ} → Chosen k u v j x → choose k u v j ≡ x
unfolding choose
choose_is {k} {u} {v} {j} (left h e) = rw (lt-ltb k 36 h, e)
choose_is {k} {u} {v} {j} (joined h e) = rw (lt-ltb k 36 h, e)
choose_is {k} {u} {v} {j} (whole h t) = rw (le-ltb k 36 h, decided (tells 2 u) (Told 2 u) (tells_told 2 u (omega arith)) t)
choose_is {k} {u} {v} {j} (half h n t) =
    rw (le-ltb k 36 h, refuted (tells 2 u) (Told 2 u) (tells_told 2 u (omega arith)) n, decided (tells 1 v) (Told 1 v) (tells_told 1 v (omega arith)) t)
choose_is {k} {u} {v} {j} (alone h n m) =
    rw (le-ltb k 36 h, refuted (tells 2 u) (Told 2 u) (tells_told 2 u (omega arith)) n, refuted (tells 1 v) (Told 1 v) (tells_told 1 v (omega arith)) m)

-- ---- the same, of position q of the segment of p
abbrev pub named_by : (ℕ → ℕ) → ℕ → ℕ
named_by row p = first_named 4 row (4 * (p / 4)) 4

abbrev pub Given : (ℕ → ℕ) → ℕ → ℕ → ℕ → Type 0
Given row p q x = Chosen (named_by row p) (row (4 * (p / 4))) (row (2 * (q / 2))) (q % 4) x

module _ (row : ℕ → ℕ) (p : ℕ) where
  pub given : Given row p p (segment_plan row p)
  unfolding segment_plan
  given = chosen (named_by row p) (row (4 * (p / 4))) (row (2 * (p / 2))) (p % 4)

  pub given_is : (q x : ℕ) → q / 4 ≡ p / 4 → Given row p q x → segment_plan row q ≡ x
  unfolding segment_plan
  given_is q x e c = rw e (choose_is c)
