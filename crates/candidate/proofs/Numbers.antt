-- A common field as numbers: the values of nine bits gathered, and that they are a field of the channel.
use mathlib.Core.Path.{◌≡◌, refl, sym, ◌∙◌, ap, ap₂}
use mathlib.Core.Bool.{true}
use mathlib.Core.List.{List}
use Prim.Native.Nat.{ℕ, zero, suc, ◌+◌, ◌*◌, ◌%◌, ◌^◌, ◌≤◌, ◌<◌}
use native.Mathlib.Nat.{mod-lt, mod-eq_of_lt, mul-suc}
use native.Mathlib.Numerals.{add-one}
use native.Mathlib.Omega.{arith}
use lib.Pow.{pow-add, pow_mono, pow_pos, shl_exact}
use borrow.Author.Tests.{lt-ltb, le-ltb, ne_eqb}
use Rattle.answer.specs.Lists.{at}
use Rattle.bits.specs.Bits.{field}
use Rattle.bits.proofs.Fields.{field_lt, field_split}
use Rattle.channel.specs.Layout.{firsts, seconds, first_bits, second_at, second_bits, has_second}
use Rattle.frame_words.specs.Words.{position_in}
use Rattle.candidate.specs.Engine.{gathered, first_of, second_of, sealed_of, second_part}

step_lt : (g v m : ℕ) → g < m → v < 512 → g + v * m < 512 * m
step_lt g v m l h =
    let e : suc v * m ≤ 512 * m = native.Mathlib.Nat.mul-le-mul_right m h in
    omega (arith, native.Mathlib.Nat.suc-mul v m)

nine : (n : ℕ) → 2 ^ (9 * suc n) ≡ 512 * 2 ^ (9 * n)
nine n = let e : 9 * suc n ≡ 9 + 9 * n = omega arith in ap (λ (k : ℕ). 2 ^ k) e ∙ pow-add 2 9 (9 * n)

pub gathered_lt : (x : ℕ → ℕ) (n : ℕ) → gathered x n < 2 ^ (9 * n)
unfolding gathered
gathered_lt x zero = omega arith
gathered_lt x (suc n) = rw (nine n) (step_lt (gathered x n) (x n % 512) (2 ^ (9 * n)) (gathered_lt x n) (mod-lt (x n) (omega arith)))

pub gathered_cong : (x y : ℕ → ℕ) (n : ℕ) → ((k : ℕ) → k < n → x k ≡ y k) → gathered x n ≡ gathered y n
unfolding gathered
gathered_cong x y zero h = refl
gathered_cong x y (suc n) h = rw (gathered_cong x y n (λ k l. h k (omega arith)), h n (omega arith))

-- a loop that gathers
pub gathered_none : (x : ℕ → ℕ) → 0 ≡ gathered x 0
unfolding gathered
gathered_none x = refl

pub gathered_next : (x : ℕ → ℕ) (n : ℕ) → gathered x n + x n % 512 * 2 ^ (9 * n) ≡ gathered x (n + 1)
unfolding gathered
gathered_next x n = rw add-one refl

-- fields of nine bits, one after another, are one field
pub field_gathered : (s : List ℕ) (i : ℕ) (x : ℕ → ℕ) (n : ℕ) → ((k : ℕ) → k < n → field s (i + 9 * k) 9 ≡ x k) → field s i (9 * n) ≡ gathered x n
unfolding gathered field
field_gathered s i x zero h = refl
field_gathered s i x (suc n) h =
    let e : 9 * suc n ≡ 9 * n + 9 = omega (arith, mul-suc 9 n) in
    let v : field s (i + 9 * n) 9 ≡ x n % 512 =
    h n (omega arith) ∙ sym (mod-eq_of_lt (rw (← h n (omega arith)) (field_lt s (i + 9 * n) 9))) in
    ap (λ (k : ℕ). field s i k) e
    ∙ field_split s i (9 * n) 9
    ∙ ap₂ (λ (a b : ℕ). a + b * 2 ^ (9 * n)) (field_gathered s i x n (λ k l. h k (omega arith))) v

-- a turn of that loop at 64 bits, of at most six values
pub gathered_turn : (x : ℕ → ℕ) (k : ℕ) → k < 6 → gathered x k + x k % 512 * 2 ^ (9 * k) % 2 ^ 64 ≡ gathered x (k + 1)
gathered_turn x k l =
    ap (λ (v : ℕ). gathered x k + v) (shl_exact {a = x k % 512} 9 (9 * k) 64 (mod-lt (x k) (omega arith)) (omega arith))
    ∙ gathered_next x k

pub gathered_below : (x : ℕ → ℕ) (k : ℕ) → k ≤ 6 → gathered x k < 2 ^ 54
gathered_below x k l =
    let a : gathered x k < 2 ^ (9 * k) = gathered_lt x k in
    let b : 2 ^ (9 * k) ≤ 2 ^ 54 = pow_mono {i = 9 * k} {j = 54} (omega arith) in
    omega arith

-- the first part, by the bandwidth: how many values it has, how many bits its check covers
pub first_narrow : (bw : ℕ) → bw < 2 → (firsts bw ≡ 1) × (first_bits bw ≡ 26)
unfolding firsts first_bits
first_narrow bw l = rw (lt-ltb bw 2 l) (refl, refl)

pub first_wide : (bw : ℕ) → 2 ≤ bw → (firsts bw ≡ 2) × (first_bits bw ≡ 35)
unfolding firsts first_bits
first_wide bw l = rw (le-ltb bw 2 l) (refl, refl)

pub first_is : (v g : ℕ) (x : ℕ → ℕ) (n : ℕ) → n ≤ 2 → g ≡ gathered x n
    → (v % 131072 + g * 2 ^ 17 % 2 ^ 64 < 2 ^ (17 + 9 * n)) × (v % 131072 + g * 2 ^ 17 % 2 ^ 64 ≡ v % 2 ^ 17 + gathered x n * 2 ^ 17)
first_is v g x n l e =
    let m : gathered x n < 2 ^ (9 * n) = gathered_lt x n in
    let b : 2 ^ (9 * n) ≤ 2 ^ 18 = pow_mono {i = 9 * n} {j = 18} (omega arith) in
    let p : 2 ^ (17 + 9 * n) ≡ 2 ^ 17 * 2 ^ (9 * n) = pow-add 2 17 (9 * n) in
    let f : v % 131072 + g * 2 ^ 17 % 2 ^ 64 ≡ v % 2 ^ 17 + gathered x n * 2 ^ 17 =
    ap (λ (y : ℕ). v % 131072 + y) (shl_exact {a = g} 18 17 64 (omega arith) (omega arith)) ∙ rw e in
    (rw (f, p) (omega (arith, mod-lt v {m = 2 ^ 17} (omega arith))), f)

pub first_less : (bw v : ℕ) (x : ℕ → ℕ) → first_of bw v x < 2 ^ first_bits bw
unfolding first_of first_bits
first_less bw v x =
    let n = firsts bw in
    let m : gathered x n < 2 ^ (9 * n) = gathered_lt x n in
    rw (pow-add 2 17 (9 * n)) (omega (arith, mod-lt v {m = 2 ^ 17} (omega arith)))

pub second_less : (bw : ℕ) (x : ℕ → ℕ) → second_of bw x < 2 ^ second_bits bw
unfolding second_of second_bits
second_less bw x = gathered_lt (λ k. x (firsts bw + k)) (seconds bw)

-- a part with its check leaves its tail's room
wider : (r n m : ℕ) → r < 2 ^ (n + 4) → n + 10 ≡ m → r < 2 ^ m
wider r n m l e = let b : 2 ^ (n + 4) ≤ 2 ^ m = pow_mono {i = n + 4} {j = m} (omega arith) in omega arith

pub first_of_is : (bw v : ℕ) (x : ℕ → ℕ) (n m g r : ℕ) → firsts bw ≡ n → first_bits bw ≡ m → g ≡ v % 2 ^ 17 + gathered x n * 2 ^ 17 → r < 2 ^ (m + 4)
    → r ≡ sealed_of g m → (r < 2 ^ second_at bw) × (r ≡ sealed_of (first_of bw v x) (first_bits bw))
unfolding first_of second_at
first_of_is bw v x n m g r e f q l h = (wider r m (first_bits bw + 10) l (omega arith), rw (e, f) (h ∙ rw q))

-- the second, of the values after the first part's
pub second_three : (bw : ℕ) → bw ≡ 3 → (firsts bw ≡ 2) × (seconds bw ≡ 2) × (second_bits bw ≡ 18) × (has_second bw ≡ true)
unfolding firsts seconds second_bits has_second
second_three bw e = rw e (refl, refl, refl, refl)

pub second_four : (bw : ℕ) → bw ≡ 4 → (firsts bw ≡ 2) × (seconds bw ≡ 6) × (second_bits bw ≡ 54) × (has_second bw ≡ true)
unfolding firsts seconds second_bits has_second
second_four bw e = rw e (refl, refl, refl, refl)

pub second_part_is : (bw : ℕ) (row : List ℕ) (c n m g r : ℕ) → (firsts bw ≡ 2) × (seconds bw ≡ n) × (second_bits bw ≡ m) × (has_second bw ≡ true) → 1 ≤ c
    → g ≡ gathered (λ k. at row (2 * k + (3 + c))) n → r < 2 ^ (m + 4) → r ≡ sealed_of g m
    → (r < 2 ^ (second_bits bw + 10)) × (r ≡ second_part bw (λ k. at row (position_in c k)))
unfolding second_part second_of
second_part_is bw row c n m g r e o q l h =
    let p : gathered (λ k. at row (2 * k + (3 + c))) n ≡ gathered (λ k. at row (position_in c (2 + k))) n =
    gathered_cong (λ k. at row (2 * k + (3 + c))) (λ k. at row (position_in c (2 + k))) n (λ k l. ap (at row) (omega arith)) in
    (wider r m (second_bits bw + 10) l (omega (arith, e.2)), rw (e.0, e.1, e.2, e.3) (h ∙ ap (λ (y : ℕ). sealed_of y m) (q ∙ p)))

pub second_none : (bw : ℕ) (x : ℕ → ℕ) → (bw ≡ 3 → ⊥) → (bw ≡ 4 → ⊥) → (0 < 2 ^ (second_bits bw + 10)) × (0 ≡ second_part bw x)
unfolding second_part has_second seconds
second_none bw x p q = (pow_pos (second_bits bw + 10), rw (ne_eqb bw 3 p, ne_eqb bw 4 q) refl)
