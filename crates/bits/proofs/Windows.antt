-- The laws behind the windows of 64 bits, over every place and width.
use Prim.Native.Nat.{ℕ, ◌+◌, ◌-◌, ◌*◌, ◌/◌, ◌%◌, ◌^◌, ◌≤◌, ◌<◌}
use mathlib.Core.Path.{◌≡◌, sym, ◌∙◌, ap, ap₂, subst}
use mathlib.Core.List.{List}
use native.Mathlib.Nat.{add-zero, div-one}
use native.Mathlib.Omega.{arith}
use lib.ListN.{get_or, length}
use lib.Pow as P
use Rattle.bits.specs.Bits.{field, lacks}
use Rattle.bits.proofs.Fields.{field_lt, field_part, field_split, field_byte, field_lacks, lacks_all}

-- the low end of a low end
pub low_low : (x n m : ℕ) → m ≤ n → x % 2 ^ n % 2 ^ m ≡ x % 2 ^ m
low_low x n m h =
    let e : n ≡ (n - m) + m = omega arith in
    subst (λ (k : ℕ). x % 2 ^ k % 2 ^ m ≡ x % 2 ^ m) (sym e) (P.mod-mod-pow x (n - m) m)

-- a field's low end is the shorter field
pub field_low : (s : List ℕ) (at n m : ℕ) → m ≤ n → field s at n % 2 ^ m ≡ field s at m
field_low s at n m h =
    ap (λ (x : ℕ). x % 2 ^ m) (sym (div-one (field s at n)))
    ∙ field_part s at n 0 m (omega arith)
    ∙ ap (λ (k : ℕ). field s k m) (add-zero at)

-- a field's upper end is the field that starts there
pub field_rest : (s : List ℕ) (at n k : ℕ) → k ≤ n → field s at n / 2 ^ k ≡ field s (at + k) (n - k)
field_rest s at n k h =
    let e : n ≡ (n - k) + k = omega arith in
    let b : field s at n < 2 ^ (n - k + k) = subst (λ (m : ℕ). field s at n < 2 ^ m) e (field_lt s at n) in
    sym (P.shr_mod (n - k) k b) ∙ field_part s at n k (n - k) (omega arith)

-- two words of 32 bits are one of 64
pub field_two : (s : List ℕ) (i a b : ℕ) → a ≡ field s (8 * i) 32 → b ≡ field s (8 * (i + 4)) 32
    → a + b * 4294967296 ≡ field s (8 * i) 64
field_two s i a b e f =
    let g : 8 * (i + 4) ≡ 8 * i + 32 = omega arith in
    ap₂ (λ (x y : ℕ). x + y * 4294967296) e (f ∙ ap (λ (k : ℕ). field s k 32) g)
    ∙ sym (field_split s (8 * i) 32 32)

-- the first n bytes, of which the last four are a word
pub field_front : (s : List ℕ) (n a b : ℕ) → 4 ≤ n → n ≤ 8 → a ≡ field s (8 * 0) 32 → b ≡ field s (8 * (n - 4)) 32
    → a + b / 2 ^ (8 * (8 - n)) * 4294967296 ≡ field s 0 (8 * n)
field_front s n a b l m e f =
    let g : b / 2 ^ (8 * (8 - n)) ≡ field s 32 (8 * n - 32) =
    ap (λ (x : ℕ). x / 2 ^ (8 * (8 - n))) f
    ∙ field_rest s (8 * (n - 4)) 32 (8 * (8 - n)) (omega arith)
    ∙ ap₂ (field s) (omega arith) (omega arith) in
    let h : 8 * n ≡ 32 + (8 * n - 32) = omega arith in
    ap₂ (λ (x y : ℕ). x + y * 4294967296) e g ∙ sym (field_split s 0 32 (8 * n - 32)) ∙ ap (field s 0) (sym h)

-- past the end a field is 0
pub field_past : (s : List ℕ) (at n : ℕ) → 8 * length s ≤ at → field s at n ≡ 0
unfolding field
field_past s at n h =
    let e : n - lacks s at n ≡ 0 = omega (arith, lacks_all s at n h) in
    field_lacks s at n ∙ ap (λ (k : ℕ). field s at k) e

-- and what lies there adds nothing to a field
pub field_short : (s : List ℕ) (at n m : ℕ) → 8 * length s ≤ at + n → n ≤ m → field s at m ≡ field s at n
field_short s at n m h l =
    let e : m ≡ n + (m - n) = omega arith in
    ap (λ (k : ℕ). field s at k) e
    ∙ field_split s at n (m - n)
    ∙ ap (λ (x : ℕ). field s at n + x * 2 ^ n) (field_past s (at + n) (m - n) h)
    ∙ omega arith

-- k bits up in the last n bits there are k zeros to come
pub field_end : (s : List ℕ) (at n k : ℕ) → at + n ≡ 8 * length s → k ≤ n → field s at n / 2 ^ k ≡ field s (at + k) n
field_end s at n k e h = field_rest s at n k h ∙ sym (field_short s (at + k) (n - k) n (omega arith) (omega arith))

-- where fewer than eight bytes follow, they are fewer than 57 bits, the first of them and those after it
pub field_few : (s : List ℕ) (i : ℕ) → length s ≤ i + 7 → field s (8 * i) 64 < 2 ^ 56
field_few s i h = rw (field_short s (8 * i) 56 64 (omega arith) (omega arith)) (field_lt s (8 * i) 56)

pub field_first : (s : List ℕ) (i a : ℕ) → a < 256 → a ≡ get_or s i 0 → length s ≤ i + 7
    → a + field s (8 * (i + 1)) 64 * 256 ≡ field s (8 * i) 64
field_first s i a l e h =
    let f : 8 * (i + 1) ≡ 8 * i + 8 = omega arith in
    let g : a ≡ field s (8 * i) 8 = sym (field_byte s i ∙ omega arith) in
    ap₂ (λ (x y : ℕ). x + y * 256) g (field_short s (8 * (i + 1)) 56 64 (omega arith) (omega arith) ∙ ap (λ (k : ℕ). field s k 56) f)
    ∙ sym (field_split s (8 * i) 8 56)

-- what is left of a window from a bit in its first byte
pub field_from : (s : List ℕ) (at : ℕ) → field s (8 * (at / 8)) 64 / 2 ^ (at % 8) ≡ field s at (64 - at % 8)
field_from s at =
    let e : 8 * (at / 8) + at % 8 ≡ at = omega arith in
    field_rest s (8 * (at / 8)) 64 (at % 8) (omega arith) ∙ ap (λ (k : ℕ). field s k (64 - at % 8)) e

-- and up to 57 bits are of it
pub window_low : (s : List ℕ) (at w n : ℕ) → w ≡ field s at (64 - at % 8) → n ≤ 57 → w % 2 ^ n ≡ field s at n
window_low s at w n e h = ap (λ (x : ℕ). x % 2 ^ n) e ∙ field_low s at (64 - at % 8) n (omega arith)
