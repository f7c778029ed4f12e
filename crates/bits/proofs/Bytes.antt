-- The laws of a number and of a list of bytes given by their bits.
use mathlib.Core.Path.{◌≡◌, sym, ◌∙◌, ap}
use mathlib.Core.Logic.{⊎_elim}
use mathlib.Core.List.{List}
use Prim.Native.Nat.{ℕ, zero, suc, ◌+◌, ◌*◌, ◌/◌, ◌%◌, ◌^◌, ◌<◌}
use native.Mathlib.Nat.{eq-or-lt_of_le}
use native.Mathlib.Decide.{dec_lt}
use native.Mathlib.Omega.{arith}
use lib.Arith.{digits_lt}
use lib.ListN.{get_or, length, get_or-eq_default}
use lib.Seq.{ext_get_or}
use lib.Pow as P
use Rattle.answer.proofs.Lists.{length_build, get_d_build}
use Rattle.bits.specs.Bits.{bit, field, gather, bytes, Small}
use Rattle.bits.proofs.Fields.{inner, field_ext, field_byte}

-- ---- a number by its bits

pub gather_lt : (f : ℕ → ℕ) (at n : ℕ) → gather f at n < 2 ^ n
unfolding gather
gather_lt f at zero = omega arith
gather_lt f at (suc n) = let h = gather_lt f at n in omega (arith, digits_lt {q = f (at + n) % 2} {m = 2} {r = gather f at n} {c = 2 ^ n} (omega arith) h)

pub gather_bit : (f : ℕ → ℕ) (at n k : ℕ) → k < n → gather f at n / 2 ^ k % 2 ≡ f (at + k) % 2
unfolding gather
gather_bit f at zero k l = omega arith
gather_bit f at (suc n) k l =
    let b = f (at + n) % 2 in
    let g = gather f at n in
    let c : g + b * 2 ^ n ≡ b * 2 ^ n + g = omega arith in
    rw c (⊎_elim
    (λ (e : k ≡ n). rw e (ap (λ (y : ℕ). y % 2) (P.high b n (gather_lt f at n)) ∙ omega arith))
    (λ (m : k < n).
    sym (inner (b * 2 ^ n + g) k 1 n (omega arith))
    ∙ ap (λ (y : ℕ). y / 2 ^ k % 2) (P.low b n (gather_lt f at n))
    ∙ gather_bit f at n k m)
    (eq-or-lt_of_le {n = k} {m = n} (omega arith)))

-- ---- a list by its bits

pub length_bytes : (f : ℕ → ℕ) (n : ℕ) → length (bytes f n) ≡ n
unfolding bytes
length_bytes f n = length_build (λ k. gather f (8 * k) 8) n

byte_bytes : (f : ℕ → ℕ) (n k : ℕ) → k < n → get_or (bytes f n) k 0 ≡ gather f (8 * k) 8
unfolding bytes
byte_bytes f n k h = get_d_build (λ k. gather f (8 * k) 8) n k 0 h

-- bit i of the bytes that f gives is f's
pub bit_bytes : (f : ℕ → ℕ) (n i : ℕ) → i < 8 * n → bit (bytes f n) i ≡ f i % 2
unfolding bit
bit_bytes f n i h =
    ap (λ (x : ℕ). x / 2 ^ (i % 8) % 2) (byte_bytes f n (i / 8) (omega arith))
    ∙ gather_bit f (8 * (i / 8)) 8 (i % 8) (omega arith)
    ∙ ap (λ (k : ℕ). f k % 2) (omega arith)

pub bytes_small : (f : ℕ → ℕ) (n : ℕ) → Small (bytes f n)
bytes_small f n = record { small = λ k. go k (dec_lt k n) }
  where
    go : (k : ℕ) → Dec (k < n) → get_or (bytes f n) k 0 < 256
    go k (yes l) = rw (byte_bytes f n k l) (gather_lt f (8 * k) 8)
    go k (no l) = rw (get_or-eq_default (bytes f n) 0 {n = k} (omega (arith, length_bytes f n))) (omega arith)

-- lists of bytes that are equally long and have the same bits are the same
pub same_bits : (s t : List ℕ) → Small s → Small t → length s ≡ length t → ((i : ℕ) → i < 8 * length s → bit s i ≡ bit t i) → s ≡ t
same_bits s t hs ht l h =
    ext_get_or 0 s t l (λ k m.
    let e : field s (8 * k) 8 ≡ field t (8 * k) 8 = field_ext s t (8 * k) (8 * k) 8 (λ j n. h (8 * k + j) (omega arith)) in
    omega (arith, field_byte s k, field_byte t k, hs.small k, ht.small k))
