-- The size and the index of the resource that a value names find the value again; and what a size and an index find, if it is named, has them.
use mathlib.Core.Path.{◌≡◌, refl}
use mathlib.Core.Logic.{⊎_elim}
use mathlib.Core.Bool.{Bool, true, false, cond, ◌&&◌}
use Prim.Native.Nat.{ℕ, suc, ◌+◌, ◌-◌, ◌≤◌, ◌<◌, ◌^◌}
use native.Mathlib.Omega.{arith}
use borrow.Author.Tests.{le-leb, lt-leb, ne_eqb, eqb-true}
use lib.Dec.{T, leb, leb→le, eqb, eqb→eq}
use Rattle.resource.specs.Names.{name_of, number_of}
use Rattle.resource.proofs.Test.{below_or, both_left, both_right, wherever, met, below, every_below}
use Rattle.trigger_values.specs.Values.{named, resource_of, reaches, taken}
use Rattle.trigger_values.specs.Engine.{nth_of, value_for}

pub named_high : (v : ℕ) → 94 ≤ v → named v ≡ false
unfolding named
named_high v h =
    rw (
      lt-leb v 36 (omega arith),
      lt-leb v 67 (omega arith),
      le-leb 37 v (omega arith),
      lt-leb v 86 (omega arith),
      le-leb 82 v (omega arith),
      ne_eqb v 89 (λ e. omega arith),
      lt-leb v 93 (omega arith),
      le-leb 90 v (omega arith),
    )

pub named_low : (v : ℕ) → T (named v) → v < 94
named_low v t = ⊎_elim (λ h. h) (λ (h : 94 ≤ v). absurd (rw (named_high v h) at t)) (below_or v 94)

pub taken_named : (bw v : ℕ) → T (taken bw v) → T (named v)
unfolding taken
taken_named bw v t = both_left (named v) (leb (reaches (resource_of v)) (2 ^ bw)) t

-- ---- a value's size and index find it
abbrev found : ℕ → ℕ
found v = value_for (name_of (resource_of v)) (number_of (resource_of v))

abbrev found_back : ℕ → Bool
found_back v = wherever (named v) (eqb (found v) v)

all_found : T (below found_back 94)
unfolding named resource_of value_for nth_of
all_found = tt

pub value_back : (bw v : ℕ) → T (taken bw v) → value_for (name_of (resource_of v)) (number_of (resource_of v)) ≡ v
value_back bw v t =
    let n = taken_named bw v t in
    eqb→eq (found v) v (met (named v) (eqb (found v) v) (every_below found_back 94 all_found v (named_low v n)) n)

-- ---- what a size and an index find has them
abbrev Has : ℕ → ℕ → ℕ → Type 0
Has s i v = T (named v) → (name_of (resource_of v) ≡ s) × (number_of (resource_of v) ≡ i)

none_has : (s i : ℕ) → Has s i 128
unfolding named
none_has s i t = absurd t

-- the i-th of n values from f on, of s subcarriers
abbrev has : ℕ → ℕ → ℕ → Bool
has s i v = eqb (name_of (resource_of v)) s && eqb (number_of (resource_of v)) i

abbrev has_at : ℕ → ℕ → ℕ → Bool
has_at s f i = wherever (leb 1 i) (wherever (named (f + i - 1)) (has s i (f + i - 1)))

kind : (s n f m i : ℕ) → T (below (has_at m f) (suc n)) → s ≡ m → Has s i (nth_of i n f)
unfolding nth_of
kind s n f m i t e = rw e (go (leb 1 i && leb i n) refl)
  where
    go : (b : Bool) → leb 1 i && leb i n ≡ b → Has m i (cond b (f + i - 1) 128)
    go true h u =
        let q : T (leb 1 i && leb i n) = rw h tt in
        let l : i ≤ n = leb→le i n (both_right (leb 1 i) (leb i n) q) in
        let v = f + i - 1 in
        let w = met (leb 1 i) (wherever (named v) (has m i v)) (every_below (has_at m f) (suc n) t i (omega arith)) (both_left (leb 1 i) (leb i n) q) in
        let r = met (named v) (has m i v) w u in (
          eqb→eq (name_of (resource_of v)) m (both_left (eqb (name_of (resource_of v)) m) (eqb (number_of (resource_of v)) i) r),
          eqb→eq (number_of (resource_of v)) i (both_right (eqb (name_of (resource_of v)) m) (eqb (number_of (resource_of v)) i) r),
        )
    go false h u = none_has m i u

either : (s m i x y : ℕ) → (s ≡ m → Has s i x) → Has s i y → Has s i (cond (eqb s m) x y)
either s m i x y h k = go (eqb s m) refl
  where
    go : (b : Bool) → eqb s m ≡ b → Has s i (cond b x y)
    go true e = h (eqb-true s m e)
    go false e = k

has_back : (s i : ℕ) → Has s i (value_for s i)
unfolding value_for named resource_of
has_back s i =
    either s 26 i _ _ (kind s 37 0 26 i tt)
    (either s 52 i _ _ (kind s 16 37 52 i tt)
    (either s 106 i _ _ (kind s 8 53 106 i tt)
    (either s 242 i _ _ (kind s 4 61 242 i tt)
    (either s 484 i _ _ (kind s 2 65 484 i tt)
    (either s 996 i _ _ (kind s 1 67 996 i tt)
    (either s 132 i _ _ (kind s 8 82 132 i tt)
    (either s 726 i _ _ (kind s 4 90 726 i tt) (none_has s i))))))))

pub back_value : (bw s i : ℕ) → T (taken bw (value_for s i))
    → (name_of (resource_of (value_for s i)) ≡ s) × (number_of (resource_of (value_for s i)) ≡ i)
back_value bw s i t = has_back s i (taken_named bw (value_for s i) t)
