-- A channel built bit by bit from its start: what is built of it after so many bits, and what joining more of them gives.
use mathlib.Core.Path.{◌≡◌, refl, sym, ◌∙◌, ap, ap₂, subst}
use mathlib.Core.List.{List}
use Prim.Native.Nat.{ℕ, suc, ◌+◌, ◌-◌, ◌*◌, ◌/◌, ◌%◌, ◌^◌, ◌≤◌, ◌<◌}
use native.Mathlib.Decide.{dec_lt}
use native.Mathlib.Nat.{mod-eq_of_lt, zero-mod, div-eq_of_lt, zero-div}
use native.Mathlib.Omega.{arith}
use lib.ListN.{length}
use lib.Pow as P
use Rattle.bits.specs.Bits.{bit, field, put, Small}
use Rattle.bits.proofs.Bytes.{same_bits}
use Rattle.bits.proofs.Fields.{field_bit, field_lt, field_split}
use Rattle.bits.proofs.Windows.{field_rest}
use Rattle.bits.proofs.Writes.{put_length, put_before, put_in}
use Rattle.block.specs.Check.{Right}
use Rattle.block.proofs.Word.{check_whole}
use Rattle.register.specs.Engine.{check_from}
use Rattle.channel.specs.Layout.{common, user_at, block_at}
use Rattle.channel.proofs.Blocks.{user_even, user_odd}
use Rattle.candidate.specs.Engine.{joined, sealed_of, Built, Ends, ClearedFrom}

-- ---- 64 bits stored from `from` on: the channel's n there, which end where more bits do, and zeros

module _ (s d : List ℕ) (at from n end : ℕ) (b : Built s at d) (start : from ≤ at) (stop : from + n ≡ end) (few : 8 * ((end + 7) / 8) ≤ from + 64)
    (h : end ≤ 8 * length s) where
  abbrev word : ℕ
  word = field s from n

  word_past : (k : ℕ) → n ≤ k → word / 2 ^ k % 2 ≡ 0
  word_past k m =
      let z : 2 ^ n ≤ 2 ^ k = P.pow_mono {i = n} {j = k} m in
      ap (λ (v : ℕ). v % 2) (div-eq_of_lt (omega (arith, field_lt s from n))) ∙ zero-mod 2

  at_bit : (k : ℕ) → k < 64 → from + k < 8 * length s → bit (put d from 64 word) (from + k) ≡ word / 2 ^ k % 2
  at_bit k m o = put_in d from 64 word k m (omega (arith, b.as_long))

  below : (i : ℕ) → i < end → bit (put d from 64 word) i ≡ bit s i
  below i m = go (dec_lt i from)
    where
      go : Dec (i < from) → bit (put d from 64 word) i ≡ bit s i
      go (yes o) = put_before d from 64 word i o ∙ b.lower i (omega arith)
      go (no o) =
          let z : from + (i - from) ≡ i = omega arith in
          rw z at (at_bit (i - from) (omega arith) (omega arith) ∙ field_bit s from n (i - from) (omega arith))

  zeros : (i : ℕ) → end ≤ i → i < 8 * ((end + 7) / 8) → bit (put d from 64 word) i ≡ 0
  zeros i m o =
      let z : from + (i - from) ≡ i = omega arith in
      rw z at (at_bit (i - from) (omega arith) (omega arith) ∙ word_past (i - from) (omega arith))

  pub built_stored : Built s end (put d from 64 (field s from n))
  built_stored = record { as_long = put_length d from 64 word ∙ b.as_long; lower = below; rest = zeros }

-- ---- more bits, joined to what is held of the byte in which they start

module _ (s d : List ℕ) (at held x w : ℕ) (b : Built s at d) (f : held ≡ field s (8 * (at / 8)) (at % 8)) (e : field s at w ≡ x) (l : w ≤ 54)
    (h : at + w ≤ 8 * length s) where
  abbrev from : ℕ
  from = 8 * (at / 8)

  abbrev width : ℕ
  width = at % 8 + w

  word_is : joined at held x ≡ field s from width
  unfolding joined
  word_is =
      let z : from + at % 8 ≡ at = omega arith in
      ap₂ (λ (y v : ℕ). y + v * 2 ^ (at % 8)) f (sym e ∙ ap (λ (i : ℕ). field s i w) (sym z)) ∙ sym (field_split s from (at % 8) w)

  pub built_more : Built s (at + w) (put d from 64 (joined at held x))
  built_more = rw word_is (built_stored s d at from width (at + w) b (omega arith) (omega arith) (omega arith) h)

-- what is held of that byte, by the last ten bits
pub held_of : (s d : List ℕ) (at ten : ℕ) → Ends s at ten d → 10 ≤ at → ten / 2 ^ (10 - at % 8) ≡ field s (8 * (at / 8)) (at % 8)
held_of s d at ten b l =
    let e : at - 10 + (10 - at % 8) ≡ 8 * (at / 8) = omega arith in
    let f : 10 - (10 - at % 8) ≡ at % 8 = omega arith in
    ap (λ (y : ℕ). y / 2 ^ (10 - at % 8)) b.last_ten
    ∙ field_rest s (at - 10) 10 (10 - at % 8) (omega arith)
    ∙ ap₂ (λ (i n : ℕ). field s i n) e f

-- the last ten of w bits more
pub next_ten : (s : List ℕ) (at w x : ℕ) → field s at w ≡ x → 10 ≤ w → x / 2 ^ (w - 10) ≡ field s (at + w - 10) 10
next_ten s at w x e l =
    let f : at + (w - 10) ≡ at + w - 10 = omega arith in
    let g : w - (w - 10) ≡ 10 = omega arith in
    ap (λ (y : ℕ). y / 2 ^ (w - 10)) (sym e) ∙ field_rest s at w (w - 10) (omega arith) ∙ ap₂ (λ (i n : ℕ). field s i n) f g

pub pushed : (s d d' : List ℕ) (at ten x w r : ℕ) → Ends s at ten d → field s at w ≡ x → 10 ≤ at → 10 ≤ w → w ≤ 54 → at + w ≤ 8 * length s
    → r ≡ x / 2 ^ (w - 10) → d' ≡ put d (8 * (at / 8)) 64 (joined at (ten / 2 ^ (10 - at % 8)) x) → Ends s (at + w) r d'
pushed s d d' at ten x w r b e l m n h f g =
    record {
      built = rw g (built_more s d at _ x w b.built (held_of s d at ten b l) e n h);
      last_ten = f ∙ next_ten s at w x e m;
    }

-- both are less than 2 ^ 10, and the first than its byte has bits there
pub held_less : (i ten : ℕ) → ten < 2 ^ 10 → ten / 2 ^ (10 - i % 8) < 2 ^ (i % 8)
held_less i ten l =
    let e : 10 ≡ i % 8 + (10 - i % 8) = omega arith in
    P.shr_lt (i % 8) (10 - i % 8) (subst (λ (k : ℕ). ten < 2 ^ k) e l)

pub ten_less : (w x : ℕ) → 10 ≤ w → x < 2 ^ w → x / 2 ^ (w - 10) < 2 ^ 10
ten_less w x m l =
    let e : w ≡ 10 + (w - 10) = omega arith in
    P.shr_lt 10 (w - 10) (subst (λ (k : ℕ). x < 2 ^ k) e l)

-- a block of two fields, in the eight bytes that end with it
pub pair_pushed : (s d d' : List ℕ) (at ten x r : ℕ) → Ends s at ten d → field s at 54 ≡ x → 10 ≤ at → at + 54 ≤ 8 * length s
    → r ≡ x / 2 ^ 44 → d' ≡ put d (8 * ((at + 61) / 8 - 8)) 64 ((ten + x * 2 ^ 10) / 2 ^ (7 - (at + 61) % 8)) → Ends s (at + 54) r d'
pair_pushed s d d' at ten x r b e l h f g =
    record {
      built =
          rw (g, word)
          (built_stored s d at (8 * ((at + 61) / 8 - 8)) (64 - k) (at + 54) b.built (omega arith) (omega arith) (omega arith) h);
      last_ten = f ∙ next_ten s at 54 x e (omega arith);
    }
  where
    k : ℕ
    k = 7 - (at + 61) % 8

    word : (ten + x * 2 ^ 10) / 2 ^ k ≡ field s (8 * ((at + 61) / 8 - 8)) (64 - k)
    word =
        let y : at - 10 + 10 ≡ at = omega arith in
        let z : at - 10 + k ≡ 8 * ((at + 61) / 8 - 8) = omega arith in
        ap (λ (v : ℕ). v / 2 ^ k)
        (ap₂ (λ (a c : ℕ). a + c * 2 ^ 10) b.last_ten (sym e ∙ ap (λ (i : ℕ). field s i 54) (sym y)) ∙ sym (field_split s (at - 10) 10 54))
        ∙ field_rest s (at - 10) 64 k (omega arith)
        ∙ ap (λ (i : ℕ). field s i (64 - k)) z

-- the first bits
pub built_first : (s d d' : List ℕ) (w x r : ℕ) → length d ≡ length s → field s 0 w ≡ x → 10 ≤ w → w ≤ 54 → w ≤ 8 * length s
    → r ≡ x / 2 ^ (w - 10) → d' ≡ put d (8 * 0) 64 x → Ends s w r d'
unfolding field joined
built_first s d d' w x r n e l m h f g =
    let z : 0 + w ≡ w = omega arith in
    let j : joined 0 0 x ≡ x = omega arith in
    let b : Built s 0 d = record { as_long = n; lower = λ i l. absurd (omega arith); rest = λ i l m. absurd (omega arith) } in
    record { built = rw (g, ← j) (rw z at (built_more s d 0 0 x w b refl e m (omega arith))); last_ten = f ∙ (rw z at (next_ten s 0 w x e l)) }

-- ---- the last bits, and zeros after them

pub built_all : (s d d' : List ℕ) (at : ℕ) → Built s at d → ClearedFrom d ((at + 7) / 8) d' → ((i : ℕ) → at ≤ i → bit s i ≡ 0)
    → Small s → Small d' → d' ≡ s
unfolding bit
built_all s d d' at b c z p q =
    same_bits d' s q p (c.same_length ∙ b.as_long) (λ i l. go i (dec_lt i at) (dec_lt (i / 8) ((at + 7) / 8)))
  where
    kept : (i : ℕ) → i / 8 < (at + 7) / 8 → bit d' i ≡ bit d i
    kept i m = ap (λ (y : ℕ). y / 2 ^ (i % 8) % 2) (c.before i' m)
      where
        i' : ℕ
        i' = i / 8

    go : (i : ℕ) → Dec (i < at) → Dec (i / 8 < (at + 7) / 8) → bit d' i ≡ bit s i
    go i (yes m) n = kept i (omega arith) ∙ b.lower i m
    go i (no m) (yes n) = kept i n ∙ b.rest i (omega arith) (omega arith) ∙ sym (z i (omega arith))
    go i (no m) (no n) =
        ap (λ (y : ℕ). y / 2 ^ (i % 8) % 2) (c.past (i / 8) (omega arith)) ∙ ap (λ (y : ℕ). y % 2) (zero-div (2 ^ (i % 8))) ∙ zero-mod 2 ∙ sym
        (z i (omega arith))

-- ---- a block with its check and tail, as one number

pub check_less : (r x n : ℕ) → check_from r x n < 16
unfolding check_from
check_less r x n = omega arith

pub sealed_number : (s : List ℕ) (i n x : ℕ) → Right s i n → field s i n ≡ x → field s i (n + 10) ≡ sealed_of x n
unfolding sealed_of
sealed_number s i n x r e =
    let low : field s i n % 2 ^ n ≡ field s i n = mod-eq_of_lt (field_lt s i n) in
    let ten : field s (i + n) 10 ≡ check_from 255 x n =
    field_split s (i + n) 4 6
    ∙ ap₂ (λ (a b : ℕ). a + b * 2 ^ 4) r.checked r.ended
    ∙ omega arith
    ∙ sym (check_whole s i n x (rw (← e) low)) in
    field_split s i n 10 ∙ ap₂ (λ (a b : ℕ). a + b * 2 ^ n) e ten

pub sealed_less : (x n : ℕ) → x < 2 ^ n → sealed_of x n < 2 ^ (n + 4)
unfolding sealed_of
sealed_less x n l =
    let p : 2 ^ (n + 4) ≡ 16 * 2 ^ n = ap (λ (k : ℕ). 2 ^ k) (omega arith) ∙ P.pow-add 2 4 n in
    rw p (below (check_from 255 x n) (2 ^ n) (check_less 255 x n) l)
  where
    below : (c m : ℕ) → c < 16 → x < m → x + c * m < 16 * m
    below c m h k =
        let e : suc c * m ≤ 16 * m = native.Mathlib.Nat.mul-le-mul_right m h in
        omega (arith, native.Mathlib.Nat.suc-mul c m)

-- its check
pub sealed_check : (x n : ℕ) → x < 2 ^ n → sealed_of x n / 2 ^ n ≡ check_from 255 x n
unfolding sealed_of
sealed_check x n l = ap (λ (y : ℕ). y / 2 ^ n) (omega arith) ∙ P.high (check_from 255 x n) n l

-- the fields of a block of two
pub pair_field : (s : List ℕ) (bw b f g : ℕ) → field s (user_at bw (2 * b)) 22 ≡ f → field s (user_at bw (2 * b + 1)) 22 ≡ g
    → field s (block_at bw b) 44 ≡ f + g * 2 ^ 22
unfolding block_at
pair_field s bw b f g p q =
    field_split s (common bw + 54 * b) 22 22 ∙ ap₂ (λ (x y : ℕ). x + y * 2 ^ 22) (rw (user_even bw b) at p) (rw (user_odd bw b) at q)

-- ---- for the code, at 64 bits

pub sealed_word : (x n c : ℕ) → n ≤ 54 → x < 2 ^ n → c ≡ check_from 255 x n → (x + c * 2 ^ n % 2 ^ 64 ≡ sealed_of x n) × (sealed_of x n < 2 ^ 58)
unfolding sealed_of
sealed_word x n c l h e =
    let k : c < 2 ^ 4 = rw e (check_less 255 x n) in
    let y : 2 ^ (n + 4) ≤ 2 ^ 58 = P.pow_mono {i = n + 4} {j = 58} (omega arith) in
    let z : x + check_from 255 x n * 2 ^ n < 2 ^ (n + 4) = unfold sealed_of in sealed_less x n h in
    (ap (λ (v : ℕ). x + v) (P.shl_exact {a = c} 4 n 64 k (omega arith)) ∙ rw e, omega arith)

pub joined_word : (i held x w : ℕ) → w ≤ 54 → held < 2 ^ (i % 8) → x < 2 ^ w → (held + x * 2 ^ (i % 8) % 2 ^ 64 ≡ joined i held x) × (joined i held x < 2 ^ 64)
unfolding joined
joined_word i held x w l h k =
    let a : x * 2 ^ (i % 8) % 2 ^ 64 ≡ x * 2 ^ (i % 8) = P.shl_exact {a = x} w (i % 8) 64 k (omega arith) in
    let b : x * 2 ^ (i % 8) < 2 ^ (w + i % 8) = P.shl_lt w (i % 8) k in
    let c : 2 ^ (w + i % 8) ≤ 2 ^ 61 = P.pow_mono {i = w + i % 8} {j = 61} (omega arith) in
    let d : 2 ^ (i % 8) ≤ 2 ^ 7 = P.pow_mono {i = i % 8} {j = 7} (omega arith) in
    (ap (λ (v : ℕ). held + v) a, omega arith)
