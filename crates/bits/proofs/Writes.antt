-- The laws of `put`, a field stored in a list of bytes, each once over every place and width.
use mathlib.Core.Path.{◌≡◌, refl, sym, ◌∙◌, ap}
use mathlib.Core.Bool.{Bool, true, false, cond}
use mathlib.Core.List.{List}
use Prim.Native.Nat.{ℕ, ◌+◌, ◌-◌, ◌*◌, ◌/◌, ◌%◌, ◌^◌, ◌≤◌, ◌<◌}
use native.Mathlib.Nat.{mod-eq_of_lt}
use native.Mathlib.Decide.{dec_lt}
use native.Mathlib.Omega.{arith}
use lib.ListN.{length}
use lib.Pow as P
use borrow.Author.Tests.{le-leb, lt-leb, lt-ltb, le-ltb}
use Rattle.bits.specs.Bits.{bit, field, within, put, Small}
use Rattle.bits.proofs.Fields.{bit_lt, bit_end, field_of}
use Rattle.bits.proofs.Bytes.{length_bytes, bit_bytes, bytes_small, same_bits}

-- ---- a field that was put

pub within_in : (at n i : ℕ) → at ≤ i → i < at + n → within at n i ≡ true
unfolding within
within_in at n i a b = rw (le-leb at i a, lt-ltb i (at + n) b)

pub within_before : (at n i : ℕ) → i < at → within at n i ≡ false
unfolding within
within_before at n i a = rw (lt-leb at i a)

pub within_after : (at n i : ℕ) → at + n ≤ i → within at n i ≡ false
unfolding within
within_after at n i a = rw (le-leb at i (omega arith), le-ltb i (at + n) a)

pub put_length : (s : List ℕ) (at n v : ℕ) → length (put s at n v) ≡ length s
unfolding put
put_length s at n v = length_bytes _ (length s)

pub put_small : (s : List ℕ) (at n v : ℕ) → Small (put s at n v)
unfolding put
put_small s at n v = bytes_small _ (length s)

-- bit i of what was put
pub bit_put : (s : List ℕ) (at n v i : ℕ) → i < 8 * length s → bit (put s at n v) i ≡ cond (within at n i) (v / 2 ^ (i - at)) (bit s i) % 2
unfolding put
bit_put s at n v i h = bit_bytes (λ i. cond (within at n i) (v / 2 ^ (i - at)) (bit s i)) (length s) i h

-- inside the range and the list it is the value's bit
pub put_in : (s : List ℕ) (at n v k : ℕ) → k < n → at + k < 8 * length s → bit (put s at n v) (at + k) ≡ v / 2 ^ k % 2
put_in s at n v k l h =
    let e : at + k - at ≡ k = omega arith in
    bit_put s at n v (at + k) h
    ∙ ap (λ (b : Bool). cond b (v / 2 ^ (at + k - at)) (bit s (at + k)) % 2) (within_in at n (at + k) (omega arith) (omega arith))
    ∙ ap (λ (j : ℕ). v / 2 ^ j % 2) e

-- outside the range it is the list's own
put_kept : (s : List ℕ) (at n v i : ℕ) → within at n i ≡ false → bit (put s at n v) i ≡ bit s i
put_kept s at n v i e = go (dec_lt i (8 * length s))
  where
    go : Dec (i < 8 * length s) → bit (put s at n v) i ≡ bit s i
    go (yes h) =
        bit_put s at n v i h
        ∙ ap (λ (b : Bool). cond b (v / 2 ^ (i - at)) (bit s i) % 2) e
        ∙ mod-eq_of_lt (bit_lt s i)
    go (no h) = bit_end (put s at n v) i (omega (arith, put_length s at n v)) ∙ sym (bit_end s i (omega arith))

pub put_before : (s : List ℕ) (at n v i : ℕ) → i < at → bit (put s at n v) i ≡ bit s i
put_before s at n v i h = put_kept s at n v i (within_before at n i h)

pub put_after : (s : List ℕ) (at n v i : ℕ) → at + n ≤ i → bit (put s at n v) i ≡ bit s i
put_after s at n v i h = put_kept s at n v i (within_after at n i h)

-- a field that was put is read back
pub field_put : (s : List ℕ) (at n v : ℕ) → at + n ≤ 8 * length s → field (put s at n v) at n ≡ v % 2 ^ n
field_put s at n v h = field_of (put s at n v) at n v (λ k l. put_in s at n v k l (omega arith))

-- two lists that agree outside the range, and have v's bits in it, are one: how a `put` is recognised
pub is_put : (s t : List ℕ) (at n v : ℕ) → Small t → length t ≡ length s
    → ((k : ℕ) → k < n → at + k < 8 * length s → bit t (at + k) ≡ v / 2 ^ k % 2)
    → ((i : ℕ) → i < at → bit t i ≡ bit s i)
    → ((i : ℕ) → at + n ≤ i → bit t i ≡ bit s i)
    → t ≡ put s at n v
is_put s t at n v small l inside before after =
    same_bits t (put s at n v) small (put_small s at n v) (l ∙ sym (put_length s at n v)) (λ i h. go i h (dec_lt i at) (dec_lt i (at + n)))
  where
    go : (i : ℕ) → i < 8 * length t → Dec (i < at) → Dec (i < at + n) → bit t i ≡ bit (put s at n v) i
    go i h (yes a) b = before i a ∙ sym (put_before s at n v i a)
    go i h (no a) (no b) = after i (omega arith) ∙ sym (put_after s at n v i (omega arith))
    go i h (no a) (yes b) =
        let e : at + (i - at) ≡ i = omega arith in
        let p : bit t (at + (i - at)) ≡ bit (put s at n v) (at + (i - at)) =
        inside (i - at) (omega arith) (omega arith) ∙ sym (put_in s at n v (i - at) (omega arith) (omega arith)) in
        rw e at p

-- no bit put, or none that lies in the list: nothing changes
pub put_none : (s : List ℕ) (at v : ℕ) → Small s → s ≡ put s at 0 v
put_none s at v h = is_put s s at 0 v h refl (λ k l. omega arith) (λ i l. refl) (λ i l. refl)

pub put_past : (s : List ℕ) (at n v : ℕ) → Small s → 8 * length s ≤ at → s ≡ put s at n v
put_past s at n v h l = is_put s s at n v h refl (λ k m b. omega arith) (λ i l. refl) (λ i l. refl)

-- k bits and then m more are k + m bits
pub put_more : (s : List ℕ) (at k m v : ℕ) → put (put s at k v) (at + k) m (v / 2 ^ k) ≡ put s at (k + m) v
put_more s at k m v =
    let p = put s at k v in
    let lp = put_length s at k v in
    is_put s (put p (at + k) m (v / 2 ^ k)) at (k + m) v (put_small p (at + k) m (v / 2 ^ k))
    (put_length p (at + k) m (v / 2 ^ k) ∙ lp)
    (λ j l h. go j l h (dec_lt j k))
    (λ i l. put_before p (at + k) m (v / 2 ^ k) i (omega arith) ∙ put_before s at k v i l)
    (λ i l. put_after p (at + k) m (v / 2 ^ k) i (omega arith) ∙ put_after s at k v i (omega arith))
  where
    go : (j : ℕ) → j < k + m → at + j < 8 * length s → Dec (j < k) → bit (put (put s at k v) (at + k) m (v / 2 ^ k)) (at + j) ≡ v / 2 ^ j % 2
    go j l h (yes a) = put_before (put s at k v) (at + k) m (v / 2 ^ k) (at + j) (omega arith) ∙ put_in s at k v j a h
    go j l h (no a) =
        let e : at + k + (j - k) ≡ at + j = omega arith in
        let q = put_in (put s at k v) (at + k) m (v / 2 ^ k) (j - k) (omega arith) (omega (arith, put_length s at k v)) in
        rw e at q
        ∙ ap (λ (x : ℕ). x % 2) (P.shr-shr v k (j - k))
        ∙ ap (λ (x : ℕ). v / 2 ^ x % 2) (omega arith)
