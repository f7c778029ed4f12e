-- The laws of the check, over every place and width, and its vectors.
use mathlib.Core.Path.{◌≡◌, refl, sym, ap}
use mathlib.Core.Bool.{Bool, true, false, ◌&&◌}
use mathlib.Core.List.{List, [], ◌∷◌}
use Prim.Native.Nat.{ℕ, zero, suc, ◌+◌, ◌-◌, ◌*◌, ◌/◌, ◌%◌, ◌<◌}
use native.Mathlib.Omega.{arith}
use lib.Bits.{xor_lt}
use lib.Dec.{eqb}
use borrow.Author.Tests.{eq-eqb, eqb-true}
use Rattle.bits.specs.Bits.{bit, field}
use Rattle.bits.proofs.Fields.{field_split, field_lt, field_ext}
use Rattle.block.specs.Check.{step, register, sent, check, right, Right}

-- ---- vectors

-- 01, "Bench checks": "(P) the 18 bits 000111100 001110000 have check 1111". Lowest bit first they are 78 38 00.
pub vector_18 : check (0x78 ∷ 0x38 ∷ 0x00 ∷ []) 0 18 ≡ 15
unfolding bit step register sent check
vector_18 = refl

-- 1111 reads the same from either end and cannot show a mistake of order. The five bits 00100 have check 0101, by hand:
--   register, then the next bit; the register's top bit and that bit are added
--   11111111  0  1 + 0 = 1   11111110 with 111 added: 11111001
--   11111001  0  1 + 0 = 1   11110010 with 111 added: 11110101
--   11110101  1  1 + 1 = 0   11101010
--   11101010  0  1 + 0 = 1   11010100 with 111 added: 11010011
--   11010011  0  1 + 0 = 1   10100110 with 111 added: 10100001
-- Inverted 01011110; the upper four, highest first: 0, 1, 0, 1. The first sent is the lowest: 0 + 2 + 0 + 8.
pub vector_5 : check (0x04 ∷ []) 0 5 ≡ 10
unfolding bit step register sent check
vector_5 = refl

-- ---- bounds

pub step_lt : (r b : ℕ) → step r b < 256
unfolding step
step_lt r b = xor_lt 8 (r * 2 % 256) (7 * ((r / 128 + b) % 2)) (omega arith) (omega arith)

pub register_lt : (s : List ℕ) (at n : ℕ) → register s at n < 256
unfolding register
register_lt s at zero = omega arith
register_lt s at (suc n) = step_lt (register s at n) (bit s (at + n))

pub check_lt : (s : List ℕ) (at n : ℕ) → check s at n < 16
unfolding check sent
check_lt s at n = omega arith

-- ---- what the check looks at

register_ext : (s t : List ℕ) (i j n : ℕ) → ((k : ℕ) → k < n → bit s (i + k) ≡ bit t (j + k)) → register s i n ≡ register t j n
unfolding register
register_ext s t i j zero h = refl
register_ext s t i j (suc n) h =
    let a : register s i n ≡ register t j n = register_ext s t i j n (λ k l. h k (omega arith)) in
    let b : bit s (i + n) ≡ bit t (j + n) = h n (omega arith) in
    cc

-- the check sees only its own bits: equal bits have equal checks, in whatever lists and places
pub check_ext : (s t : List ℕ) (i j n : ℕ) → ((k : ℕ) → k < n → bit s (i + k) ≡ bit t (j + k)) → check s i n ≡ check t j n
unfolding check
check_ext s t i j n h = ap (λ (r : ℕ). sent (255 - r)) (register_ext s t i j n h)

pub right_says : (s : List ℕ) (at n : ℕ) → right s at n ≡ true → Right s at n
unfolding right
right_says s at n e = go (eqb (field s (at + n) 4) (check s at n)) refl (eqb (field s (at + n + 4) 6) 0) refl e
  where
    go : (x : Bool) → eqb (field s (at + n) 4) (check s at n) ≡ x → (y : Bool) → eqb (field s (at + n + 4) 6) 0 ≡ y → x && y ≡ true → Right s at n
    go true p true q h = record { checked = eqb-true _ _ p; ended = eqb-true _ _ q }
    go true p false q h = absurd (let z : ◌≡◌ {A = ℕ} 0 1 = cc in omega arith)
    go false p y q h = absurd (let z : ◌≡◌ {A = ℕ} 0 1 = cc in omega arith)

pub says_right : (s : List ℕ) (at n : ℕ) → Right s at n → right s at n ≡ true
unfolding right
says_right s at n r = rw (eq-eqb _ _ r.checked, eq-eqb _ _ r.ended)

-- it sees the n bits and the ten after them, and no more
pub right_ext : (s t : List ℕ) (i j n : ℕ) → ((k : ℕ) → k < n + 10 → bit s (i + k) ≡ bit t (j + k)) → right s i n ≡ right t j n
unfolding right
right_ext s t i j n h =
    rw (
      check_ext s t i j n (λ k l. h k (omega arith)),
      field_ext s t (i + n) (j + n) 4 (λ k l. shifted n k (omega arith)),
      field_ext s t (i + n + 4) (j + n + 4) 6 (λ k l. shifted2 k (omega arith)),
    )
  where
    shifted : (m k : ℕ) → m + k < n + 10 → bit s (i + m + k) ≡ bit t (j + m + k)
    shifted m k l =
        let a : i + m + k ≡ i + (m + k) = omega arith in
        let b : j + m + k ≡ j + (m + k) = omega arith in
        rw (a, b) (h (m + k) l)

    shifted2 : (k : ℕ) → n + 4 + k < n + 10 → bit s (i + n + 4 + k) ≡ bit t (j + n + 4 + k)
    shifted2 k l =
        let a : i + n + 4 + k ≡ i + (n + 4 + k) = omega arith in
        let b : j + n + 4 + k ≡ j + (n + 4 + k) = omega arith in
        rw (a, b) (h (n + 4 + k) l)

-- ten bits in one look: they are the check itself, since the tail above it is zero
same : (x y : Bool) → (x ≡ true → y ≡ true) → (y ≡ true → x ≡ true) → x ≡ y
same true y f g = sym (f refl)
same false true f g = g refl
same false false f g = refl

pub right_ten : (s : List ℕ) (at n : ℕ) → eqb (field s (at + n) 10) (check s at n) ≡ right s at n
right_ten s at n =
    same (eqb (field s (at + n) 10) (check s at n)) (right s at n)
    (λ e.
    let f : field s (at + n) 10 ≡ check s at n = eqb-true _ _ e in
    let t = field_split s (at + n) 4 6 in
    says_right s at n
    (record {
      checked = omega (arith, field_lt s (at + n) 4, check_lt s at n);
      ended = omega (arith, check_lt s at n);
    }))
    (λ e.
    let r = right_says s at n e in
    let t = field_split s (at + n) 4 6 in
    let f : field s (at + n) 10 ≡ check s at n = omega (arith, r.checked, r.ended) in
    eq-eqb _ _ f)
