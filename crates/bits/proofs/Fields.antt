-- The laws of `bit` and `field`, each once over every width and all from one: a field is a part of the one number that
-- the bytes write.
use mathlib.Core.Path.{◌≡◌, refl, sym, ◌∙◌, ap, subst}
use mathlib.Core.List.{List, [], ◌∷◌}
use Prim.Native.Nat.{ℕ, zero, suc, ◌+◌, ◌-◌, ◌*◌, ◌/◌, ◌%◌, ◌^◌, ◌≤◌, ◌<◌}
use native.Mathlib.Nat.{zero-div, zero-mod, mod-lt, add_comm, mod-one, div-one, one-mul}
use native.Mathlib.Omega.{arith}
use lib.ListN.{get_or, length, get_or-eq_default}
use lib.Pow as P
use Rattle.bits.specs.Bits.{bit, field, lacks}

-- a part of a part of a number is a part of the number
pub inner : (n c d b : ℕ) → c + d ≤ b → n % 2 ^ b / 2 ^ c % 2 ^ d ≡ n / 2 ^ c % 2 ^ d
inner n c d b h =
    let e : b ≡ ((b - (c + d)) + d) + c = omega arith in
    subst (λ (x : ℕ). n % 2 ^ x / 2 ^ c % 2 ^ d ≡ n / 2 ^ c % 2 ^ d) (sym e)
    (ap (λ (x : ℕ). x % 2 ^ d) (P.field n ((b - (c + d)) + d) c) ∙ P.mod-mod-pow (n / 2 ^ c) (b - (c + d)) d)

-- the number that the bytes write, lowest first
unfoldable pub value : List ℕ → ℕ
value [] = 0
value (x ∷ xs) = value xs * 256 + x % 256

byte_value : (s : List ℕ) (q : ℕ) → get_or s q 0 % 2 ^ 8 ≡ value s / 2 ^ (8 * q) % 2 ^ 8
unfolding value
byte_value [] q = rw zero-div
byte_value (x ∷ xs) zero = rw div-one (sym (P.low (value xs) 8 (mod-lt x (omega arith))))
byte_value (x ∷ xs) (suc q) =
    byte_value xs q
    ∙ ap (λ (y : ℕ). y / 2 ^ (8 * q) % 2 ^ 8) (sym (P.high (value xs) 8 (mod-lt x (omega arith))))
    ∙ ap (λ (y : ℕ). y % 2 ^ 8) (P.shr-shr (value xs * 256 + x % 256) 8 (8 * q))
    ∙ ap (λ (e : ℕ). (value xs * 256 + x % 256) / 2 ^ e % 2 ^ 8) (omega arith)

pub bit_value : (s : List ℕ) (i : ℕ) → bit s i ≡ value s / 2 ^ i % 2
unfolding bit
bit_value s i =
    sym (inner (get_or s (i / 8) 0) (i % 8) 1 8 (omega arith))
    ∙ ap (λ (y : ℕ). y / 2 ^ (i % 8) % 2) (byte_value s (i / 8))
    ∙ inner (value s / 2 ^ (8 * (i / 8))) (i % 8) 1 8 (omega arith)
    ∙ ap (λ (y : ℕ). y % 2) (P.shr-shr (value s) (8 * (i / 8)) (i % 8))
    ∙ ap (λ (e : ℕ). value s / 2 ^ e % 2) (omega arith)

-- a bit is 0 or 1
pub bit_lt : (s : List ℕ) (i : ℕ) → bit s i < 2
unfolding bit
bit_lt s i = omega arith

-- bits that are those of v make the field that is v's low end
pub field_of : (s : List ℕ) (at n v : ℕ) → ((k : ℕ) → k < n → bit s (at + k) ≡ v / 2 ^ k % 2) → field s at n ≡ v % 2 ^ n
unfolding field
field_of s at zero v h = sym (mod-one v)
field_of s at (suc n) v h =
    let e : v % 2 ^ (1 + n) ≡ (v / 2 ^ n % 2) * 2 ^ n + v % 2 ^ n = P.mod-pow-add v 1 n in
    rw (field_of s at n v (λ k l. h k (omega arith)), h n (omega arith))
    (add_comm _ _ ∙ sym e ∙ ap (λ (k : ℕ). v % 2 ^ k) (omega arith))

-- THE law of a field: it is a part of the number that the bytes write
pub field_value : (s : List ℕ) (at n : ℕ) → field s at n ≡ value s / 2 ^ at % 2 ^ n
field_value s at n =
    field_of s at n (value s / 2 ^ at)
    (λ k l. bit_value s (at + k) ∙ ap (λ (x : ℕ). x % 2) (sym (P.shr-shr (value s) at k)))

-- bound: a field of n bits is below 2 ^ n
pub field_lt : (s : List ℕ) (at n : ℕ) → field s at n < 2 ^ n
field_lt s at n = rw field_value (mod-lt (value s / 2 ^ at) (P.pow_pos n))

-- part: a part of a field is a field
pub field_part : (s : List ℕ) (at n c d : ℕ) → c + d ≤ n → field s at n / 2 ^ c % 2 ^ d ≡ field s (at + c) d
field_part s at n c d h =
    ap (λ (x : ℕ). x / 2 ^ c % 2 ^ d) (field_value s at n)
    ∙ inner (value s / 2 ^ at) c d n h
    ∙ ap (λ (x : ℕ). x % 2 ^ d) (P.shr-shr (value s) at c)
    ∙ sym (field_value s (at + c) d)

-- split: a field of a + b bits is one of a bits, and above it one of b bits
pub field_split : (s : List ℕ) (at a b : ℕ) → field s at (a + b) ≡ field s at a + field s (at + a) b * 2 ^ a
field_split s at a b =
    field_value s at (a + b)
    ∙ ap (λ (k : ℕ). value s / 2 ^ at % 2 ^ k) (add_comm a b)
    ∙ P.mod-pow-add (value s / 2 ^ at) b a
    ∙ ap (λ (x : ℕ). x % 2 ^ b * 2 ^ a + value s / 2 ^ at % 2 ^ a) (P.shr-shr (value s) at a)
    ∙ rw (field_value s at a, field_value s (at + a) b) (add_comm _ _)

-- a field of one bit is the bit
pub field_one : (s : List ℕ) (i : ℕ) → field s i 1 ≡ bit s i
field_one s i = field_value s i 1 ∙ sym (bit_value s i)

-- a bit of a field is a bit of the bytes
pub field_bit : (s : List ℕ) (at n k : ℕ) → k < n → field s at n / 2 ^ k % 2 ≡ bit s (at + k)
field_bit s at n k h = field_part s at n k 1 (omega arith) ∙ field_one s (at + k)

-- ranges of equal bits are equal fields, in whatever lists and places
pub field_ext : (s t : List ℕ) (i j n : ℕ) → ((k : ℕ) → k < n → bit s (i + k) ≡ bit t (j + k)) → field s i n ≡ field t j n
unfolding field
field_ext s t i j zero h = refl
field_ext s t i j (suc n) h =
    let a : field s i n ≡ field t j n = field_ext s t i j n (λ k l. h k (omega arith)) in
    let b : bit s (i + n) ≡ bit t (j + n) = h n (omega arith) in
    cc

-- and equal fields are ranges of equal bits
pub field_same : (s t : List ℕ) (i j n : ℕ) → field s i n ≡ field t j n → (k : ℕ) → k < n → bit s (i + k) ≡ bit t (j + k)
field_same s t i j n e k h =
    sym (field_bit s i n k h) ∙ ap (λ (x : ℕ). x / 2 ^ k % 2) e ∙ field_bit t j n k h

-- ---- bytes

-- eight bits from a multiple of eight are the byte
pub field_byte : (s : List ℕ) (i : ℕ) → field s (8 * i) 8 ≡ get_or s i 0 % 256
field_byte s i = field_value s (8 * i) 8 ∙ sym (byte_value s i)

-- a field that starts with a whole byte, `a`
field_cons : (s : List ℕ) (i n a : ℕ) → a < 256 → a ≡ get_or s i 0 → field s (8 * i) (8 + n) ≡ a + field s (8 * (i + 1)) n * 256
field_cons s i n a h e =
    let b : field s (8 * i) 8 ≡ a = field_byte s i ∙ omega arith in
    field_split s (8 * i) 8 n
    ∙ ap (λ (x : ℕ). x + field s (8 * i + 8) n * 256) b
    ∙ ap (λ (k : ℕ). a + field s k n * 256) (omega arith)

digits4 : (a b c d w x y z : ℕ) → w ≡ a + x * 256 → x ≡ b + y * 256 → y ≡ c + z * 256 → z ≡ d + 0 * 256
    → a + b * 256 + c * 65536 + d * 16777216 ≡ w
digits4 a b c d w x y z e f g h = omega arith

-- four bytes, each below 256, are a field of 32 bits
pub field_word : (s : List ℕ) (i a b c d : ℕ) → a < 256 → b < 256 → c < 256 → d < 256
    → a ≡ get_or s i 0 → b ≡ get_or s (i + 1) 0 → c ≡ get_or s (i + 2) 0 → d ≡ get_or s (i + 3) 0
    → a + b * 256 + c * 65536 + d * 16777216 ≡ field s (8 * i) 32
unfolding field
field_word s i a b c d ha hb hc hd ea eb ec ed =
    let e2 : c ≡ get_or s (i + 1 + 1) 0 = ec ∙ ap (λ (k : ℕ). get_or s k 0) (omega arith) in
    let e3 : d ≡ get_or s (i + 1 + 1 + 1) 0 = ed ∙ ap (λ (k : ℕ). get_or s k 0) (omega arith) in
    digits4 a b c d _ _ _ _
    (field_cons s i 24 a ha ea)
    (field_cons s (i + 1) 16 b hb eb)
    (field_cons s (i + 1 + 1) 8 c hc e2)
    (field_cons s (i + 1 + 1 + 1) 0 d hd e3)

-- ---- padding: what a bit and a field do not look at

-- past the end there are zeros
pub bit_end : (s : List ℕ) (i : ℕ) → 8 * length s ≤ i → bit s i ≡ 0
unfolding bit
bit_end s i h =
    let e : get_or s (i / 8) 0 ≡ 0 = get_or-eq_default s 0 (omega arith) in
    rw (e, zero-div)

-- ---- what lies past the end

-- nothing is lacking exactly where the range lies inside, or is empty
pub lacks_none : (s : List ℕ) (at n : ℕ) → at + n ≤ 8 * length s → lacks s at n ≡ 0
unfolding lacks
lacks_none s at n h = omega arith

pub lacks_inside : (s : List ℕ) (at n : ℕ) → 0 < n → lacks s at n ≡ 0 → at + n ≤ 8 * length s
unfolding lacks
lacks_inside s at n h e = omega arith

pub lacks_all : (s : List ℕ) (at n : ℕ) → 8 * length s ≤ at → lacks s at n ≡ n
unfolding lacks
lacks_all s at n h = omega arith

-- a bit that is lacking reads as 0: a field is that of its bits that are there
pub field_lacks : (s : List ℕ) (at n : ℕ) → field s at n ≡ field s at (n - lacks s at n)
unfolding lacks
field_lacks s at n =
    let l = n - (8 * length s - at) in
    let m = n - l in
    let z : field s (at + m) l ≡ 0 = field_of s (at + m) l 0 (λ k h. bit_end s (at + m + k) (omega arith) ∙ sym (rw zero-div)) ∙ zero-mod (2 ^ l) in
    let e : n ≡ m + l = omega arith in
    ap (λ (k : ℕ). field s at k) e ∙ field_split s at m l ∙ ap (λ (x : ℕ). field s at m + x * 2 ^ m) z ∙ omega arith

-- the code's `1 << n` at 32 bits is the power
pub shl_one : (n : ℕ) → n < 32 → 1 * 2 ^ n % 4294967296 ≡ 2 ^ n
shl_one n h = P.shl_exact 1 n 32 (omega arith) (omega arith) ∙ one-mul (2 ^ n)
