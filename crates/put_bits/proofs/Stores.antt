-- How a field is put by stores of bytes: into a part of one byte, into a whole one, into four.
use mathlib.Core.Path.{◌≡◌, sym, ◌∙◌, ap, subst}
use mathlib.Core.List.{List}
use Prim.Native.Nat.{ℕ, ◌+◌, ◌-◌, ◌*◌, ◌/◌, ◌%◌, ◌^◌, ◌≤◌, ◌<◌}
use native.Mathlib.Nat.{mod-lt, add-mul}
use native.Mathlib.Decide.{dec_lt, ℕ_discrete}
use native.Mathlib.Omega.{arith}
use lib.Arith.{digits_lt}
use lib.ListN.{get_or, length, set, length-set}
use lib.Seq.{get_or-set_same, get_or-set_other}
use lib.Pow as P
use Rattle.bits.specs.Bits.{bit, field, put, Small}
use Rattle.bits.proofs.Fields.{inner, bit_end, field_bit}
use Rattle.put_bits.specs.Engine.{merge}
use Rattle.bits.proofs.Writes.{put_length, put_small, put_in, put_before, put_after, is_put, put_more}

module _ (x a m w : ℕ) where
  merge_high : merge x a m w / 2 ^ a ≡ x / 2 ^ (a + m) * 2 ^ m + w % 2 ^ m
  unfolding merge
  merge_high = P.high (x / 2 ^ (a + m) * 2 ^ m + w % 2 ^ m) a (mod-lt x (P.pow_pos a))

  merge_below : (k : ℕ) → k < a → merge x a m w / 2 ^ k % 2 ≡ x / 2 ^ k % 2
  unfolding merge
  merge_below k h =
      sym (inner ((x / 2 ^ (a + m) * 2 ^ m + w % 2 ^ m) * 2 ^ a + x % 2 ^ a) k 1 a (omega arith))
      ∙ ap (λ (y : ℕ). y / 2 ^ k % 2) (P.low (x / 2 ^ (a + m) * 2 ^ m + w % 2 ^ m) a (mod-lt x (P.pow_pos a)))
      ∙ inner x k 1 a (omega arith)

  merge_in : (k : ℕ) → k < m → merge x a m w / 2 ^ (a + k) % 2 ≡ w / 2 ^ k % 2
  merge_in k h =
      ap (λ (y : ℕ). y % 2) (sym (P.shr-shr (merge x a m w) a k))
      ∙ ap (λ (y : ℕ). y / 2 ^ k % 2) merge_high
      ∙ sym (inner (x / 2 ^ (a + m) * 2 ^ m + w % 2 ^ m) k 1 m (omega arith))
      ∙ ap (λ (y : ℕ). y / 2 ^ k % 2) (P.low (x / 2 ^ (a + m)) m (mod-lt w (P.pow_pos m)))
      ∙ inner w k 1 m (omega arith)

  merge_above : (k : ℕ) → merge x a m w / 2 ^ (a + m + k) % 2 ≡ x / 2 ^ (a + m + k) % 2
  merge_above k =
      ap (λ (y : ℕ). y % 2)
      (sym (P.shr-shr (merge x a m w) (a + m) k)
      ∙ ap (λ (y : ℕ). y / 2 ^ k) (sym (P.shr-shr (merge x a m w) a m)
      ∙ ap (λ (y : ℕ). y / 2 ^ m) merge_high
      ∙ P.high (x / 2 ^ (a + m)) m (mod-lt w (P.pow_pos m)))
      ∙ P.shr-shr x (a + m) k)

  -- it stays as wide as it was
  pub merge_lt : (b : ℕ) → x < 2 ^ b → a + m ≤ b → merge x a m w < 2 ^ b
  unfolding merge
  merge_lt b hx h =
      let e : b ≡ (b - (a + m)) + (a + m) = omega arith in
      let f : b - (a + m) + m + a ≡ b = omega arith in
      let y : x / 2 ^ (a + m) < 2 ^ (b - (a + m)) = P.shr_lt (b - (a + m)) (a + m) (subst (λ (k : ℕ). x < 2 ^ k) e hx) in
      let z : x / 2 ^ (a + m) * 2 ^ m + w % 2 ^ m < 2 ^ (b - (a + m)) * 2 ^ m = digits_lt y (mod-lt w (P.pow_pos m)) in
      let q : (x / 2 ^ (a + m) * 2 ^ m + w % 2 ^ m) * 2 ^ a + x % 2 ^ a < 2 ^ (b - (a + m)) * 2 ^ m * 2 ^ a = digits_lt z (mod-lt x (P.pow_pos a)) in
      let g : 2 ^ (b - (a + m)) * 2 ^ m * 2 ^ a ≡ 2 ^ b =
      ap (λ (k : ℕ). k * 2 ^ a) (sym (P.pow-add 2 (b - (a + m)) m))
      ∙ sym (P.pow-add 2 (b - (a + m) + m) a)
      ∙ ap (λ (k : ℕ). 2 ^ k) f in
      rw g at q

  -- the bits that stood there go, and those of w come
  pub merge_change : merge x a m w + x / 2 ^ a % 2 ^ m * 2 ^ a ≡ x + w % 2 ^ m * 2 ^ a
  unfolding merge
  merge_change =
      let h = x / 2 ^ (a + m) * 2 ^ m in
      let o = x / 2 ^ a % 2 ^ m in
      let e : h + o ≡ x / 2 ^ a = ap (λ (y : ℕ). y * 2 ^ m + o) (sym (P.shr-shr x a m)) ∙ P.split (x / 2 ^ a) m in
      let f : (h + o) * 2 ^ a + x % 2 ^ a ≡ x = ap (λ (y : ℕ). y * 2 ^ a + x % 2 ^ a) e ∙ P.split x a in
      omega (arith, f, add-mul h o (2 ^ a), add-mul h (w % 2 ^ m) (2 ^ a))

-- a bit of a list with one byte stored
bit_set : (s : List ℕ) (q y j : ℕ) → q < length s → j / 8 ≡ q → bit (set s q y) j ≡ y / 2 ^ (j % 8) % 2
unfolding bit
bit_set s q y j l e = rw (e, get_or-set_same s q y 0 l)

bit_set_other : (s : List ℕ) (q y j : ℕ) → (j / 8 ≡ q → ⊥) → bit (set s q y) j ≡ bit s j
unfolding bit
bit_set_other s q y j d = rw (get_or-set_other s q (j / 8) y 0 d)

bit_byte : (s : List ℕ) (q j : ℕ) → j / 8 ≡ q → bit s j ≡ get_or s q 0 / 2 ^ (j % 8) % 2
unfolding bit
bit_byte s q j e = rw e

set_small : (s : List ℕ) (q y : ℕ) → Small s → q < length s → y < 256 → Small (set s q y)
set_small s q y h l b = record { small = λ k. go k (ℕ_discrete k q) }
  where
    go : (k : ℕ) → Dec (k ≡ q) → get_or (set s q y) k 0 < 256
    go k (yes e) = rw (e, get_or-set_same s q y 0 l) b
    go k (no d) = rw (get_or-set_other s q k y 0 d) (h.small k)

-- a part of one byte merged is the field put
module _ (s : List ℕ) (i m w : ℕ) (h : Small s) (l : i / 8 < length s) (b : i % 8 + m ≤ 8) where
  abbrev old : ℕ
  old = get_or s (i / 8) 0

  abbrev new : ℕ
  new = merge old (i % 8) m w

  -- a bit of the byte that merging leaves
  kept : (j : ℕ) → (j / 8 ≡ i / 8 → new / 2 ^ (j % 8) % 2 ≡ old / 2 ^ (j % 8) % 2) → bit (set s (i / 8) new) j ≡ bit s j
  kept j same = go (ℕ_discrete (j / 8) (i / 8))
    where
      go : Dec (j / 8 ≡ i / 8) → bit (set s (i / 8) new) j ≡ bit s j
      go (yes e) = bit_set s (i / 8) new j l e ∙ same e ∙ sym (bit_byte s (i / 8) j e)
      go (no d) = bit_set_other s (i / 8) new j d

  above : (j : ℕ) → i + m ≤ j → j / 8 ≡ i / 8 → new / 2 ^ (j % 8) % 2 ≡ old / 2 ^ (j % 8) % 2
  above j n e =
      let f : i % 8 + m + (j % 8 - (i % 8 + m)) ≡ j % 8 = omega arith in
      let g = merge_above old (i % 8) m w (j % 8 - (i % 8 + m)) in
      rw f at g

  inside : (k : ℕ) → k < m → bit (set s (i / 8) new) (i + k) ≡ w / 2 ^ k % 2
  inside k n =
      let e : (i + k) / 8 ≡ i / 8 = omega arith in
      let f : (i + k) % 8 ≡ i % 8 + k = omega arith in
      bit_set s (i / 8) new (i + k) l e
      ∙ ap (λ (j : ℕ). new / 2 ^ j % 2) f
      ∙ merge_in old (i % 8) m w k n

  pub put_byte : set s (i / 8) (merge (get_or s (i / 8) 0) (i % 8) m w) ≡ put s i m w
  put_byte =
      is_put s (set s (i / 8) new) i m w
      (set_small s (i / 8) new h l (merge_lt old (i % 8) m w 8 (h.small (i / 8)) b))
      (length-set s (i / 8) new)
      (λ k n c. inside k n)
      (λ j n. kept j (λ e. merge_below old (i % 8) m w (j % 8) (omega arith)))
      (λ j n. kept j (above j n))

-- ---- four bytes

merge_whole : (x w : ℕ) → x < 256 → merge x 0 8 w ≡ w % 256
unfolding merge
merge_whole x w h = omega arith

-- a whole byte stored is eight bits put
set_byte : (s : List ℕ) (i w : ℕ) → Small s → i < length s → set s i (w % 256) ≡ put s (8 * i) 8 w
set_byte s i w h l =
    let e : 8 * i / 8 ≡ i = omega arith in
    let f : 8 * i % 8 ≡ 0 = omega arith in
    let p = put_byte s (8 * i) 8 w h (omega arith) (omega arith) in
    ap (λ (y : ℕ). set s i y) (sym (merge_whole (get_or s i 0) w (h.small i))) ∙ (rw (e, f) at p)

-- k bytes that were put, and the next one stored
set_next : (s : List ℕ) (i k w : ℕ) → i + k < length s
    → set (put s (8 * i) (8 * k) w) (i + k) (w / 2 ^ (8 * k) % 256) ≡ put s (8 * i) (8 * k + 8) w
set_next s i k w l =
    let p = put s (8 * i) (8 * k) w in
    let e : 8 * (i + k) ≡ 8 * i + 8 * k = omega arith in
    set_byte p (i + k) (w / 2 ^ (8 * k)) (put_small s (8 * i) (8 * k) w) (omega (arith, put_length s (8 * i) (8 * k) w))
    ∙ ap (λ (j : ℕ). put p j 8 (w / 2 ^ (8 * k))) e
    ∙ put_more s (8 * i) (8 * k) 8 w

-- four bytes stored are 32 bits put
pub set_four : (s : List ℕ) (i w : ℕ) → Small s → i + 3 < length s
    → set (set (set (set s i (w % 256)) (i + 1) (w / 256 % 256)) (i + 2) (w / 65536 % 256)) (i + 3) (w / 16777216 % 256) ≡ put s (8 * i) 32 w
set_four s i w h l =
    ap (λ (t : List ℕ). set (set (set t (i + 1) (w / 256 % 256)) (i + 2) (w / 65536 % 256)) (i + 3) (w / 16777216 % 256)) (set_byte s i w h (omega arith))
    ∙ ap (λ (t : List ℕ). set (set t (i + 2) (w / 65536 % 256)) (i + 3) (w / 16777216 % 256)) (set_next s i 1 w (omega arith))
    ∙ ap (λ (t : List ℕ). set t (i + 3) (w / 16777216 % 256)) (set_next s i 2 w (omega arith))
    ∙ set_next s i 3 w l

-- 32 bits put back with a field merged into them are the field put
module _ (s : List ℕ) (i a m v : ℕ) (b : a + m ≤ 32) where
  abbrev held : ℕ
  held = field s (8 * i) 32

  abbrev word : ℕ
  word = merge held a m v

  -- a bit that merging leaves
  left_of : (j : ℕ) → ((k : ℕ) → 8 * i + k ≡ j → k < 32 → word / 2 ^ k % 2 ≡ held / 2 ^ k % 2) → bit (put s (8 * i) 32 word) j ≡ bit s j
  left_of j same = go (dec_lt j (8 * i)) (dec_lt j (8 * i + 32)) (dec_lt j (8 * length s))
    where
      go : Dec (j < 8 * i) → Dec (j < 8 * i + 32) → Dec (j < 8 * length s) → bit (put s (8 * i) 32 word) j ≡ bit s j
      go (yes l) n r = put_before s (8 * i) 32 word j l
      go (no l) (no n) r = put_after s (8 * i) 32 word j (omega arith)
      go (no l) (yes n) (no r) = bit_end (put s (8 * i) 32 word) j (omega (arith, put_length s (8 * i) 32 word)) ∙ sym (bit_end s j (omega arith))
      go (no l) (yes n) (yes r) =
          let e : 8 * i + (j - 8 * i) ≡ j = omega arith in
          let p : bit (put s (8 * i) 32 word) (8 * i + (j - 8 * i)) ≡ bit s (8 * i + (j - 8 * i)) =
          put_in s (8 * i) 32 word (j - 8 * i) (omega arith) (omega arith)
          ∙ same (j - 8 * i) e (omega arith)
          ∙ field_bit s (8 * i) 32 (j - 8 * i) (omega arith) in
          rw e at p

  pub put_merged : put s (8 * i) 32 (merge (field s (8 * i) 32) a m v) ≡ put s (8 * i + a) m v
  put_merged =
      is_put s (put s (8 * i) 32 word) (8 * i + a) m v (put_small s (8 * i) 32 word) (put_length s (8 * i) 32 word)
      (λ k l r.
      let e : 8 * i + (a + k) ≡ 8 * i + a + k = omega arith in
      (rw e at (put_in s (8 * i) 32 word (a + k) (omega arith) (omega arith))) ∙ merge_in held a m v k l)
      (λ j l. left_of j (λ k e n. merge_below held a m v k (omega arith)))
      (λ j l. left_of j (λ k e n.
      let f : a + m + (k - (a + m)) ≡ k = omega arith in
      rw f at (merge_above held a m v (k - (a + m)))))

-- ---- eight bytes, by two stores of four: the second after the first, or so that it ends with the list
module _ (s : List ℕ) (i j x : ℕ) (a : i ≤ j) (b : j ≤ i + 4) (l : j + 3 < length s) (e : j < i + 4 → j + 4 ≡ length s) where
  abbrev one : List ℕ
  one = put s (8 * i) 32 x

  abbrev two : List ℕ
  two = put one (8 * j) 32 (x / 2 ^ (8 * (j - i)))

  in_halves : (k : ℕ) → k < 64 → 8 * i + k < 8 * length s → bit two (8 * i + k) ≡ x / 2 ^ k % 2
  in_halves k m n = go (dec_lt (8 * i + k) (8 * j)) (dec_lt (8 * i + k) (8 * j + 32))
    where
      go : Dec (8 * i + k < 8 * j) → Dec (8 * i + k < 8 * j + 32) → bit two (8 * i + k) ≡ x / 2 ^ k % 2
      go (yes h) r =
          put_before one (8 * j) 32 (x / 2 ^ (8 * (j - i))) (8 * i + k) h
          ∙ put_in s (8 * i) 32 x k (omega arith) n
      go (no h) (yes r) =
          let q = 8 * i + k - 8 * j in
          let f : 8 * j + q ≡ 8 * i + k = omega arith in
          let g : 8 * (j - i) + q ≡ k = omega arith in
          (rw f at (put_in one (8 * j) 32 (x / 2 ^ (8 * (j - i))) q (omega arith) (omega (arith, put_length s (8 * i) 32 x))))
          ∙ ap (λ (y : ℕ). y % 2) (P.shr-shr x (8 * (j - i)) q)
          ∙ ap (λ (z : ℕ). x / 2 ^ z % 2) g
      go (no h) (no r) = absurd (let t : j + 4 ≡ length s = e (omega arith) in omega arith)

  pub put_halves : put (put s (8 * i) 32 x) (8 * j) 32 (x / 2 ^ (8 * (j - i))) ≡ put s (8 * i) 64 x
  put_halves =
      is_put s two (8 * i) 64 x (put_small one (8 * j) 32 (x / 2 ^ (8 * (j - i))))
      (put_length one (8 * j) 32 (x / 2 ^ (8 * (j - i))) ∙ put_length s (8 * i) 32 x)
      in_halves
      (λ k m. put_before one (8 * j) 32 _ k (omega arith) ∙ put_before s (8 * i) 32 _ k m)
      (λ k m. put_after one (8 * j) 32 _ k (omega arith) ∙ put_after s (8 * i) 32 _ k (omega arith))
