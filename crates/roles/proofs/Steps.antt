-- The steps of the engine, as the code takes them.
use mathlib.Core.Path.{◌≡◌, refl, sym}
use mathlib.Core.Logic.{◌⊎◌, inl, inr}
use mathlib.Core.Bool.{Bool, true, false, cond, ◌||◌}
use Prim.Native.Nat.{ℕ, ◌+◌, ◌*◌, ◌/◌, ◌%◌, ◌^◌, ◌≤◌, ◌<◌}
use native.Mathlib.Omega.{arith}
use lib.Bits.{bit_or, and_step}
use lib.Dec.{leb, leb→le, ltb, eqb}
use borrow.Author.Tests.{lt-ltb, le-ltb, eq-eqb, ne_eqb}
use Rattle.resource.proofs.Test.{every_below}
use Rattle.roles.specs.declared.Settled.{Settled}
use Rattle.roles.specs.Engine.{no_role, own_bits, pair_kinds, one_kinds, unsettled, over, by_pairs, named, by_one, lower_pair, upper_pair, all_four, settle_of}

pub most : (t m : ℕ) → cond (leb 2 t) m 0 ≤ m
most t m = go (leb 2 t)
  where
    go : (b : Bool) → cond b m 0 ≤ m
    go true = omega arith
    go false = omega arith

-- ---- one resource
module _ (all names own t e : ℕ) (is : e ≡ one_kinds (all / 4 % 32)) where
  pub one_not : (x : Settled) → x ≡ unsettled → e ≡ 0 → x ≡ by_one all names own t
  unfolding by_one
  one_not x y f = rw (← is, eq-eqb e 0 f) y

  module _ (some : e ≡ 0 → ⊥) where
    pub one_unnamed : (x : Settled) → x ≡ unsettled → named all names ≡ false → x ≡ by_one all names own t
    unfolding by_one
    one_unnamed x y g = rw (← is, ne_eqb e 0 some, g) y

    pub one_over : (x : Settled) → x ≡ over (e % 65536) → named all names ≡ true → 8 < t → x ≡ by_one all names own t
    unfolding by_one
    one_over x y g l = rw (← is, ne_eqb e 0 some, g, lt-ltb 8 t l) y

    pub one_told : (b : ℕ) → b ≡ cond (leb 2 t) (e / 65536) 0 → named all names ≡ true → t ≤ 8
        → ◌≡◌ {A = Settled} (record { kinds = e % 65536; marks = own + b }) (by_one all names own t)
    unfolding by_one
    one_told b d g l = rw (← is, ne_eqb e 0 some, g, le-ltb 8 t l, d)

-- ---- four places
module _ (r0 r1 r2 r3 own : ℕ) (is : own ≡ own_bits r0 r1 r2 r3) where
  pub settle_alone : all_four r0 r1 r2 r3 % 2 ≡ 1 → ◌≡◌ {A = Settled} (record { kinds = 0; marks = own }) (settle_of r0 r1 r2 r3)
  unfolding settle_of
  settle_alone e = rw (eq-eqb _ 1 e, is)

  module _ (no : all_four r0 r1 r2 r3 % 2 ≡ 1 → ⊥) (p : ℕ) (ip : p ≡ pair_kinds (lower_pair r0 r1 % 4 + 4 * (upper_pair r2 r3 % 4))) (x : Settled) where
    pub settle_pairs : (p ≡ 0 → ⊥) → x ≡ by_pairs p own ((r0 + r1) / 2 ^ 56) ((r2 + r3) / 2 ^ 56) → x ≡ settle_of r0 r1 r2 r3
    unfolding settle_of
    settle_pairs z e = rw (ne_eqb _ 1 no, ← ip, ne_eqb p 0 z, ← is) e

    pub settle_one : p ≡ 0 → x ≡ by_one (all_four r0 r1 r2 r3) (bit_or (bit_or (bit_or r0 r1) r2) r3) own ((r0 + r1) / 2 ^ 56 + (r2 + r3) / 2 ^ 56)
        → x ≡ settle_of r0 r1 r2 r3
    unfolding settle_of
    settle_one z e = rw (ne_eqb _ 1 no, ← ip, eq-eqb p 0 z, ← is) e

-- ---- the marks are few
pub own_bits_most : (r0 r1 r2 r3 : ℕ) → own_bits r0 r1 r2 r3 ≤ 15
unfolding own_bits
own_bits_most r0 r1 r2 r3 = omega arith

one_test : ℕ → Bool
one_test i = leb (one_kinds i / 65536) 15

pub one_most : (i : ℕ) → i < 32 → one_kinds i / 65536 ≤ 15
unfolding one_test one_kinds
one_most i l = leb→le _ 15 (every_below one_test 32 tt i l)

-- marks of places, that the roles do not tell, or that a resource is over eight
abbrev pub Marks : ℕ → Type 0
Marks m = (m < 65536) ⊎ ((m ≡ 65536) ⊎ (m ≡ 131072))

pub settle_view : (r0 r1 r2 r3 : ℕ) → Marks (settle_of r0 r1 r2 r3).marks
unfolding settle_of by_pairs by_one
settle_view r0 r1 r2 r3 =
    go (eqb (all_four r0 r1 r2 r3 % 2) 1) (eqb p 0) (ltb 8 t || ltb 8 u) (eqb (one_kinds i) 0) (named (all_four r0 r1 r2 r3) names) (ltb 8 (t + u))
  where
    p : ℕ
    p = pair_kinds (lower_pair r0 r1 % 4 + 4 * (upper_pair r2 r3 % 4))

    t : ℕ
    t = (r0 + r1) / 2 ^ 56

    u : ℕ
    u = (r2 + r3) / 2 ^ 56

    i : ℕ
    i = all_four r0 r1 r2 r3 / 4 % 32

    names : ℕ
    names = bit_or (bit_or (bit_or r0 r1) r2) r3

    go : (a b c d e f : Bool)
        → Marks (cond a (record { kinds = 0; marks = own_bits r0 r1 r2 r3 })
        (cond b (cond d unsettled (cond e (cond f (over (one_kinds i % 65536))
        (record { kinds = one_kinds i % 65536; marks = own_bits r0 r1 r2 r3 + cond (leb 2 (t + u)) (one_kinds i / 65536) 0 })) unsettled))
        (cond c (over p) (record { kinds = p; marks = own_bits r0 r1 r2 r3 + cond (leb 2 t) 3 0 + cond (leb 2 u) 12 0 })))).marks
    go true b c d e f = let l = own_bits_most r0 r1 r2 r3 in inl (omega arith)
    go false true c true e f = inr (inl refl)
    go false true c false true true = inr (inr refl)
    go false true c false true false =
        let l = own_bits_most r0 r1 r2 r3 in let m = most (t + u) (one_kinds i / 65536) in let n = one_most i (omega arith) in inl (omega arith)
    go false true c false false f = inr (inl refl)
    go false false true d e f = inr (inr refl)
    go false false false d e f = let l = own_bits_most r0 r1 r2 r3 in let m = most t 3 in let n = most u 12 in inl (omega arith)

pub settle_most : (r0 r1 r2 r3 : ℕ) → (settle_of r0 r1 r2 r3).marks ≤ 131072
settle_most r0 r1 r2 r3 = go (settle_view r0 r1 r2 r3)
  where
    go : Marks (settle_of r0 r1 r2 r3).marks → (settle_of r0 r1 r2 r3).marks ≤ 131072
    go (inl l) = omega arith
    go (inr (inl e)) = omega arith
    go (inr (inr e)) = omega arith

-- ---- one value alone
lone_agrees : (r : ℕ) → r / 65536 % 2 ≡ 1 → all_four r no_role no_role no_role % 2 ≡ 1
lone_agrees r e =
    let f = and_step (lower_pair r no_role) (upper_pair no_role no_role) in
    let g = and_step (r / 65536) (no_role / 2 ^ 24) in
    omega arith

pub lone_settled : (r : ℕ) → r / 65536 % 2 ≡ 1 → settle_of r no_role no_role no_role ≡ record { kinds = 0; marks = r / 256 % 2 }
lone_settled r e = sym (settle_alone r no_role no_role no_role (r / 256 % 2) (unfold own_bits in omega arith) (lone_agrees r e))
