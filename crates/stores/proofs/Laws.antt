-- The laws of short texts as numbers, and of stores that begin in one another.
use mathlib.Core.Path.{◌≡◌, refl, sym, ap, subst, ◌∙◌}
use mathlib.Core.Bool.{Bool, true, false, cond, ◌&&◌}
use mathlib.Core.List.{List, [], ◌∷◌, ◌++◌, append_assoc}
use Prim.Native.Nat.{ℕ, zero, suc, ◌+◌, ◌-◌, ◌*◌, ◌/◌, ◌%◌, ◌^◌, ◌≤◌, ◌<◌, suc-le-suc}
use native.Mathlib.Nat.{zero-add, suc-add, pow-zero, pow-succ', div-one, mul_assoc, div-div-eq-div-mul, le_of_suc-le-suc}
use native.Mathlib.Omega.{arith}
use lib.Bits.{bit_and, and_block, and_mask, and_zero_r}
use lib.Count.{count_trailing_zeros, under}
use lib.Dec.{T, ltb, leb, leb→le, eqb, eqb→eq}
use lib.ListN.{length, take, drop, set, length-append, length-drop, take-append-drop}
use lib.Seq.{sets, set_comm, set-set, length-take-le, take-append_seam}
use borrow.Author.Tests.{ltb-true, ltb-false, le-ltb}
use lib.IntN.{pos, ◌-ℤ◌}
use Rattle.text.specs.Text.{Wrote, codes, dec, signed}
use Rattle.text.proofs.Laws.{after, kept, front, count, digit_alone, signed_low, signed_high}
use Rattle.resource.proofs.Test.{both_left, both_right, below, every_below}
use Rattle.stores.specs.Engine.{bytes_of, hundreds_of, pair_of, tens_of, values_of, zeros_in, four_of, lead_of, digits_of, ended_of}
use Rattle.stores.specs.Engine.{spaced_of, spaced_word, apart, minus_if, Over, Under}

-- ---- stores
set_before : (d : List ℕ) (i j x : ℕ) (t : List ℕ) → i < j → sets (set d i x) j t ≡ set (sets d j t) i x
set_before d i j x [] l = refl
set_before d i j x (y ∷ t) l =
    ap (λ (e : List ℕ). sets e (suc j) t) (set_comm d i j x y (λ (e : i ≡ j). omega (arith, e, l)))
    ∙ set_before (set d j y) i (suc j) x t (omega arith)

-- a text over one that is no longer
sets_over : (d : List ℕ) (at : ℕ) (s t : List ℕ) → length s ≤ length t → sets (sets d at s) at t ≡ sets d at t
sets_over d at [] t l = refl
sets_over d at (x ∷ s) [] l = absurd (omega (arith, l))
sets_over d at (x ∷ s) (y ∷ t) l =
    ap (λ (e : List ℕ). sets e (suc at) t)
    (sym (set_before (set d at x) at (suc at) y s (omega arith)) ∙ ap (λ (e : List ℕ). sets e (suc at) s) (set-set d at x y))
    ∙ sets_over (set d at y) (suc at) s t (le_of_suc-le-suc l)

sets_append : (d : List ℕ) (at : ℕ) (t u : List ℕ) → sets (sets d at t) (at + length t) u ≡ sets d at (t ++ u)
sets_append d at t u =
    let e = sets d at t in
    let f = sets e (at + length t) u in
    let p : Wrote d at t e (at + length t) = record { bytes = refl; next = refl } in
    let q : Wrote e (at + length t) u f (at + length t + length u) = record { bytes = refl; next = refl } in
    (after p q).bytes

-- a text that its own line holds, from there to where it belongs
pub moved : {d e t b f : List ℕ} {at n r : ℕ} → n ≤ length d → Wrote d 0 t e n → Wrote b at (take n e) f r → Wrote b at t f r
moved {d} {e} {t} l w v =
    let held : take (length t) e ≡ t = ap (take (length t)) (front (omega (arith, count w, l)) w) ∙ take-append_seam t (drop (length t) d) in
    rw (ap (λ (k : ℕ). take k e) (count w) ∙ held) at v

-- a text over the end of another, from its byte j on
pub over : {d e f : List ℕ} {at r o : ℕ} (a b : List ℕ) (j : ℕ) → j ≤ length a → length a ≤ j + length b → Wrote d at a e r
    → Wrote e (at + j) b f o → Wrote d at (take j a ++ b) f o
over {d} {e} {f} {at} {r} {o} a b j l h p q =
    let n : length (take j a) ≡ j = length-take-le j a l in
    let m : length (drop j a) ≡ length a - j = length-drop j a in
    let here : (t : List ℕ) → sets (sets d at (take j a)) (at + j) t ≡ sets d at (take j a ++ t) = λ t. rw n at (sets_append d at (take j a) t) in
    let first : sets d at a ≡ sets (sets d at (take j a)) (at + j) (drop j a) =
    ap (sets d at) (sym (take-append-drop j a)) ∙ sym (here (drop j a)) in
    record {
      bytes = q.bytes ∙ ap (λ (x : List ℕ). sets x (at + j) b) (p.bytes ∙ first)
          ∙ sets_over (sets d at (take j a)) (at + j) (drop j a) b (omega (arith, m, h)) ∙ here b;
      next = q.next ∙ rw (length-append (take j a) b, n) (omega arith);
    }

-- ---- bytes
pub bytes_length : (k w : ℕ) → length (bytes_of k w) ≡ k
bytes_length zero w = refl
bytes_length (suc k) w = ap suc (bytes_length k (w / 256))

pub bytes_append : (a b w : ℕ) → bytes_of (a + b) w ≡ bytes_of a w ++ bytes_of b (w / 256 ^ a)
bytes_append zero b w = rw (zero-add b, pow-zero 256, div-one w)
bytes_append (suc a) b w =
    rw (suc-add a b, pow-succ' 256 a, sym (div-div-eq-div-mul w 256 (256 ^ a)))
    (ap (λ (l : List ℕ). (w % 256) ∷ l) (bytes_append a b (w / 256)))

-- a shift by whole bytes, of at most four
pub pow_256 : (j : ℕ) → j ≤ 4 → 2 ^ (8 * j) ≡ 256 ^ j
pow_256 zero l = refl
pow_256 (suc zero) l = refl
pow_256 (suc (suc zero)) l = refl
pow_256 (suc (suc (suc zero))) l = refl
pow_256 (suc (suc (suc (suc zero)))) l = refl
pow_256 (suc (suc (suc (suc (suc j))))) l = absurd (omega (arith, l))

-- two texts in one number
pub joined : (a b x w : ℕ) → x < 256 ^ a → bytes_of (a + b) (x + 256 ^ a * w) ≡ bytes_of a x ++ bytes_of b w
joined zero b x w l = let e : x ≡ 0 = omega (arith, rw (pow-zero 256) at l) in rw (zero-add b, pow-zero 256, e) (ap (bytes_of b) (omega arith))
joined (suc a) b x w l =
    let h : x < 256 * 256 ^ a = rw (pow-succ' 256 a) at l in
    let m : 256 ^ suc a * w ≡ 256 * (256 ^ a * w) = rw (pow-succ' 256 a) (mul_assoc 256 (256 ^ a) w) in
    let low : (x + 256 * (256 ^ a * w)) % 256 ≡ x % 256 = omega arith in
    let high : (x + 256 * (256 ^ a * w)) / 256 ≡ x / 256 + 256 ^ a * w = omega arith in
    rw (suc-add a b, m, low, high) (ap (λ (l : List ℕ). (x % 256) ∷ l) (joined a b (x / 256) w (omega arith)))

-- a store of m bytes, and one of as many, j further on, of what is left of the number: the first j + m of its bytes
pub overlap : (m j : ℕ) (d : List ℕ) (at w : ℕ) → j ≤ m
    → sets (sets d at (bytes_of m w)) (at + j) (bytes_of m (w / 256 ^ j)) ≡ sets d at (bytes_of (j + m) w)
overlap m j d at w l =
    let s = bytes_of j w in
    let v = bytes_of m (w / 256 ^ j) in
    let u = bytes_of (m - j) (w / 256 ^ j) in
    let n : j + (m - j) ≡ m = omega arith in
    let first : bytes_of m w ≡ s ++ u = rw n at (bytes_append j (m - j) w) in
    let all : bytes_of (j + m) w ≡ s ++ v = bytes_append j m w in
    let here : (t : List ℕ) → sets (sets d at s) (at + j) t ≡ sets d at (s ++ t) = λ t. rw (bytes_length j w) at (sets_append d at s t) in
    rw (first, all, sym (here u), sym (here v))
    (sets_over (sets d at s) (at + j) u v (rw (bytes_length (m - j) (w / 256 ^ j), bytes_length m (w / 256 ^ j)) (omega arith)))

pub overlapped : {d e f : List ℕ} {at r o : ℕ} (m j w : ℕ) → j ≤ m → m ≤ 4 → Wrote d at (bytes_of m w) e r
    → Wrote e (at + j) (bytes_of m (w / 2 ^ (8 * j))) f o → Wrote d at (bytes_of (j + m) w) f o
overlapped {d} {e} {f} {at} {r} {o} m j w l h p q =
    let k : 2 ^ (8 * j) ≡ 256 ^ j = pow_256 j (omega arith) in
    record {
      bytes = q.bytes ∙ ap (λ (x : List ℕ). sets x (at + j) (bytes_of m (w / 2 ^ (8 * j)))) p.bytes ∙ rw k (overlap m j d at w l);
      next = q.next ∙ rw (bytes_length m (w / 2 ^ (8 * j)), bytes_length (j + m) w) (omega arith);
    }

-- ---- digits
abbrev pub same : List ℕ → List ℕ → Bool
same [] [] = true
same [] (y ∷ t) = false
same (x ∷ s) [] = false
same (x ∷ s) (y ∷ t) = eqb x y && same s t

pub same_equal : (s t : List ℕ) → T (same s t) → s ≡ t
same_equal [] [] h = refl
same_equal [] (y ∷ t) h = absurd h
same_equal (x ∷ s) [] h = absurd h
same_equal (x ∷ s) (y ∷ t) h =
    rw (eqb→eq x y (both_left (eqb x y) (same s t) h)) (ap (λ (l : List ℕ). y ∷ l) (same_equal s t (both_right (eqb x y) (same s t) h)))

within_test : ℕ → Bool
within_test n = leb (2559 * tens_of n) (256 * pair_of n)

most_test : ℕ → Bool
most_test n = ltb (values_of n) 168430090

zeros_test : ℕ → Bool
zeros_test n = eqb (zeros_in (values_of n)) (lead_of n)

text_test : ℕ → Bool
text_test n = same (bytes_of (4 - lead_of n) (digits_of n)) (dec n)

digits_test : ℕ → Bool
digits_test n = within_test n && (most_test n && (zeros_test n && text_test n))

digits_pass : T (below digits_test 10000)
unfolding digits_test within_test most_test zeros_test text_test hundreds_of pair_of tens_of values_of lead_of four_of digits_of dec zeros_in
    count_trailing_zeros
digits_pass = tt

pair_most : (n : ℕ) → n < 10000 → pair_of n < 8388608
unfolding pair_of hundreds_of
pair_most n l = omega arith

-- what it says of a number
pub record Values (n : ℕ) : Type 0 where
  pub within : 2559 * tens_of n ≤ 256 * pair_of n
  pub most : values_of n < 168430090
  pub zeros : zeros_in (values_of n) ≡ lead_of n
  pub text : bytes_of (4 - lead_of n) (digits_of n) ≡ dec n

t_true : (b : Bool) → T b → b ≡ true
t_true true h = refl
t_true false h = absurd h

pub values : (n : ℕ) → n < 10000 → Values n
unfolding digits_test within_test most_test zeros_test text_test
values n l =
    let all = every_below digits_test 10000 digits_pass n l in
    let more = both_right (within_test n) (most_test n && (zeros_test n && text_test n)) all in
    let rest = both_right (most_test n) (zeros_test n && text_test n) more in
    record {
      within = leb→le _ _ (both_left (within_test n) (most_test n && (zeros_test n && text_test n)) all);
      most = ltb-true (values_of n) 168430090 (t_true (most_test n) (both_left (most_test n) (zeros_test n && text_test n) more));
      zeros = eqb→eq _ _ (both_left (zeros_test n) (text_test n) rest);
      text = same_equal _ _ (both_right (zeros_test n) (text_test n) rest);
    }

-- the digits as bytes are the number in decimal
pub digits_bytes : (n : ℕ) → n < 10000 → bytes_of (4 - lead_of n) (digits_of n) ≡ dec n
digits_bytes n l = (values n l).text

-- a number below 2 ^ m that is not 0 has less than m zeros below
trailing_low : (k m n : ℕ) → 0 < n → n < 2 ^ m → count_trailing_zeros k n < m
unfolding count_trailing_zeros
trailing_low k zero n l h = absurd (omega (arith, l, rw (pow-zero 2) at h))
trailing_low zero (suc m) n l h = omega arith
trailing_low (suc k) (suc m) n l h = go (n % 2) refl (λ s. trailing_low k m (n / 2) s (omega (arith, half)))
  where
    half : n < 2 * 2 ^ m
    half = rw (pow-succ' 2 m) at h

    go : (b : ℕ) → n % 2 ≡ b → (0 < n / 2 → count_trailing_zeros k (n / 2) < m) → under b (count_trailing_zeros k (n / 2)) < suc m
    go zero e f = suc-le-suc (f (omega (arith, e, l)))
    go (suc b) e f = omega arith

-- ---- two numbers side by side: what is shifted out of the higher is masked, what is shifted out of the lower is gone
shifted_13 : (h s : ℕ) → h < 128
    → ((h + 8192 * s) / 4294967296 ≡ s / 524288) × ((h + 8192 * s) % 4294967296 % 128 ≡ h)
shifted_13 h s l =
    let e : (h + 8192 * s) / 8192 ≡ s = omega arith in
    (sym (div-div-eq-div-mul (h + 8192 * s) 8192 524288) ∙ ap (λ (z : ℕ). z / 524288) e, omega arith)

shifted_22 : (h s : ℕ) → h < 4194304
    → ((h + 4194304 * s) / 4294967296 ≡ s / 1024) × ((h + 4194304 * s) % 4294967296 ≡ s % 1024 * 4194304 + h)
shifted_22 h s l =
    let e : (h + 4194304 * s) / 4194304 ≡ s = omega arith in
    (sym (div-div-eq-div-mul (h + 4194304 * s) 4194304 1024) ∙ ap (λ (z : ℕ). z / 1024) e, omega arith)

split : (x : ℕ) → x ≡ x / 4294967296 * 2 ^ 32 + x % 4294967296
split x = omega arith

side : (x m : ℕ) → m < 4294967296 → bit_and x (m * 4294967296 + m) ≡ bit_and (x / 4294967296) m * 4294967296 + bit_and (x % 4294967296) m
side x m l = ap (λ (z : ℕ). bit_and z (m * 4294967296 + m)) (split x) ∙ and_block 32 (x / 4294967296) m (x % 4294967296) m (omega arith) l

pub hundreds_two : (a b : ℕ) → a < 10000 → b < 10000
    → bit_and ((a + 4294967296 * b) * 5243 / 2 ^ 19) 545460846719 ≡ hundreds_of a + 4294967296 * hundreds_of b
unfolding hundreds_of
hundreds_two a b l h =
    let x : (a + 4294967296 * b) * 5243 / 2 ^ 19 ≡ a * 5243 / 524288 + 8192 * (b * 5243) = omega arith in
    let s = shifted_13 (a * 5243 / 524288) (b * 5243) (omega arith) in
    let m : b * 5243 / 524288 % 128 ≡ b * 5243 / 524288 = omega arith in
    rw x (side (a * 5243 / 524288 + 8192 * (b * 5243)) 127 (omega arith)
    ∙ rw (s.0, and_mask (b * 5243 / 524288) 7, and_mask ((a * 5243 / 524288 + 8192 * (b * 5243)) % 4294967296) 7, s.1, m) (omega arith))

pub tens_two : (a b : ℕ) → a < 10000 → b < 10000
    → bit_and ((pair_of a + 4294967296 * pair_of b) * 103 / 2 ^ 10) 4222189076152335 ≡ tens_of a + 4294967296 * tens_of b
unfolding tens_of
tens_two a b l h =
    let p = pair_of a in
    let q = pair_of b in
    let most = pair_most a l in
    let x : (p + 4294967296 * q) * 103 / 2 ^ 10 ≡ p * 103 / 1024 + 4194304 * (q * 103) = omega arith in
    let s = shifted_22 (p * 103 / 1024) (q * 103) (omega arith) in
    let low : bit_and (q * 103 % 1024 * 4194304 + p * 103 / 1024) 983055 ≡ bit_and (p * 103 / 1024) 983055 =
    and_block 22 (q * 103 % 1024) 0 (p * 103 / 1024) 983055 (omega arith) (omega arith) ∙ rw (and_zero_r (q * 103 % 1024)) (omega arith) in
    rw x (side (p * 103 / 1024 + 4194304 * (q * 103)) 983055 (omega arith) ∙ rw (s.0, s.1, low) (omega arith))

pub record Side (y a b : ℕ) : Type 0 where
  pub hundreds : bit_and (y * 5243 / 524288) 545460846719 ≡ hundreds_of a + 4294967296 * hundreds_of b
  pub less : 100 * (hundreds_of a + 4294967296 * hundreds_of b) ≤ y
  pub pair : hundreds_of a + 4294967296 * hundreds_of b + 65536 * (y - 100 * (hundreds_of a + 4294967296 * hundreds_of b))
      ≡ pair_of a + 4294967296 * pair_of b
  pub most : pair_of a + 4294967296 * pair_of b < 36028797027352576
  pub tens : bit_and ((pair_of a + 4294967296 * pair_of b) * 103 / 1024) 4222189076152335 ≡ tens_of a + 4294967296 * tens_of b
  pub within : 2559 * (tens_of a + 4294967296 * tens_of b) ≤ 256 * (pair_of a + 4294967296 * pair_of b)
  pub result : 256 * (pair_of a + 4294967296 * pair_of b) - 2559 * (tens_of a + 4294967296 * tens_of b) ≡ values_of a + 4294967296 * values_of b

hundreds_less : (n : ℕ) → n < 10000 → 100 * hundreds_of n ≤ n
unfolding hundreds_of
hundreds_less n l = omega arith

pub side_by_side : (a b : ℕ) → a < 10000 → b < 10000 → Side (a + 4294967296 * b) a b
unfolding pair_of values_of
side_by_side a b l h =
    let m = hundreds_less a l in
    let n = hundreds_less b h in
    let p = pair_most a l in
    let q = pair_most b h in
    let v = (values a l).within in
    let w = (values b h).within in
    record {
      hundreds = hundreds_two a b l h;
      less = omega (arith, m, n);
      pair = omega (arith, m, n);
      most = omega (arith, p, q);
      tens = tens_two a b l h;
      within = omega (arith, v, w);
      result = omega (arith, v, w);
    }

pub lead_most : (n : ℕ) → lead_of n ≤ 3
unfolding lead_of
lead_most n = omega (arith, once (ltb n 10), once (ltb n 100), once (ltb n 1000))
  where
    once : (b : Bool) → cond b 1 0 ≤ 1
    once true = omega arith
    once false = omega arith

pub four_bound : (n : ℕ) → n < 10000 → four_of n < 4294967296
unfolding four_of
four_bound n l = omega (arith, (values n l).most)

-- with the byte after them
ended_by : (l x c : ℕ) → l ≤ 3 → x < 4294967296
    → (x / 2 ^ (8 * l) < 256 ^ (4 - l)) × ((x + c * 4294967296) / 2 ^ (8 * l) ≡ x / 2 ^ (8 * l) + 256 ^ (4 - l) * c)
ended_by zero x c l h = (omega arith, omega arith)
ended_by (suc zero) x c l h = (omega arith, omega arith)
ended_by (suc (suc zero)) x c l h = (omega arith, omega arith)
ended_by (suc (suc (suc zero))) x c l h = (omega arith, omega arith)
ended_by (suc (suc (suc (suc k)))) x c l h = absurd (omega (arith, l))

digits : (n : ℕ) → n < 10000 → bytes_of (4 - lead_of n) (four_of n / 2 ^ (8 * lead_of n)) ≡ dec n
unfolding digits_of
digits n l = digits_bytes n l

pub ended_bytes : (n c : ℕ) → n < 10000 → c < 256 → bytes_of (5 - lead_of n) (ended_of n c) ≡ dec n ++ (c ∷ [])
unfolding ended_of
ended_bytes n c l h =
    let m = lead_most n in
    let b = ended_by (lead_of n) (four_of n) c m (four_bound n l) in
    let k : 5 - lead_of n ≡ 4 - lead_of n + 1 = omega arith in
    let one : c % 256 ≡ c = omega arith in
    rw (k, b.1) (joined (4 - lead_of n) 1 (four_of n / 2 ^ (8 * lead_of n)) c b.0 ∙ rw (one, digits n l))

-- ---- integers
minus : (k w : ℕ) → bytes_of (suc k) (45 + 256 * w) ≡ 45 ∷ bytes_of k w
minus k w =
    let low : (45 + 256 * w) % 256 ≡ 45 = omega arith in
    let high : (45 + 256 * w) / 256 ≡ w = omega arith in
    rw (low, high)

pub apart_few : (u z : ℕ) → u < 10000 → z < 10000 → apart u z < 10000
unfolding apart
apart_few u z l h = go (ltb u z)
  where
    go : (b : Bool) → cond b (z - u) (u - z) < 10000
    go true = omega arith
    go false = omega arith

pub signed_parts : (u z : ℕ) → signed (pos u -ℤ pos z) ≡ minus_if u z ++ dec (apart u z)
unfolding apart minus_if
signed_parts u z = go (ltb u z) refl
  where
    go : (b : Bool) → ltb u z ≡ b → signed (pos u -ℤ pos z) ≡ cond b (codes "-") [] ++ dec (cond b (z - u) (u - z))
    go true e = signed_low u z (ltb-true u z e)
    go false e = signed_high u z (ltb-false u z e)

pub take_bytes : (j k w : ℕ) → j ≤ k → take j (bytes_of k w) ≡ bytes_of j w
take_bytes zero k w l = refl
take_bytes (suc j) zero w l = absurd (omega (arith, l))
take_bytes (suc j) (suc k) w l = ap (λ (t : List ℕ). (w % 256) ∷ t) (take_bytes j k (w / 256) (le_of_suc-le-suc l))

-- a text of which the first j bytes are kept
pub first_bytes_fact : {d e : List ℕ} {at r : ℕ} (a : List ℕ) (j m : ℕ) → j ≤ length a → length a ≤ j + m → Wrote d at a e r
    → Over m d at (take j a) e (at + j)
first_bytes_fact {d} {e} {at} {r} a j m l h p = record {
  over = λ u f o k q. over a u j l (omega (arith, h, k)) p q;
  next = ap (λ (n : ℕ). at + n) (sym (length-take-le j a l));
}

pub over_more : {d e f t u : List ℕ} {at r o : ℕ} (m k : ℕ) → m ≤ length u + k → Over m d at t e r → Over k e r u f o → Over k d at (t ++ u) f o
over_more {d} {e} {f} {t} {u} {at} {r} {o} m k l p q = record {
  over = λ w g z h x.
      subst (λ (v : List ℕ). Wrote d at v g z) (sym (append_assoc t u w))
      (p.over (u ++ w) g z (omega (arith, l, h, length-append u w)) (q.over w g z h x));
  next = q.next ∙ rw (p.next, length-append t u) (omega arith);
}

pub sign_over : (d : List ℕ) (at u z : ℕ) → Over 1 d at (minus_if u z) (set d at 45) (at + cond (ltb u z) 1 0)
unfolding minus_if
sign_over d at u z = go (ltb u z)
  where
    p : Wrote d at (45 ∷ []) (set d at 45) (at + 1)
    p = record { bytes = refl; next = refl }

    go : (b : Bool) → Over 1 d at (cond b (codes "-") []) (set d at 45) (at + cond b 1 0)
    go true = first_bytes_fact (45 ∷ []) 1 1 (omega arith) (omega arith) p
    go false = first_bytes_fact (45 ∷ []) 0 1 (omega arith) (omega arith) p

-- the digits of a number, up to three bytes too many
pub digits_over : {d e : List ℕ} {at r : ℕ} (n : ℕ) → n < 10000 → Wrote d at (bytes_of 4 (digits_of n)) e r
    → Over 3 d at (dec n) e (at + (4 - lead_of n))
digits_over {d} {e} {at} {r} n l p =
    let m = lead_most n in
    let k = bytes_length 4 (digits_of n) in
    let o = first_bytes_fact (bytes_of 4 (digits_of n)) (4 - lead_of n) 3 (omega (arith, m, k)) (omega (arith, m, k)) p in
    rw (take_bytes (4 - lead_of n) 4 (digits_of n) (omega (arith, m)), digits_bytes n l) at o

-- with a byte after it
pub ended_integer : {d e f : List ℕ} {at r o : ℕ} (u z c : ℕ) → u < 10000 → z < 10000 → c < 256 → Over 1 d at (minus_if u z) e r
    → Wrote e r (bytes_of (5 - lead_of (apart u z)) (ended_of (apart u z) c)) f o → Wrote d at (signed (pos u -ℤ pos z) ++ (c ∷ [])) f o
ended_integer {d} {e} {f} {at} {r} {o} u z c l h b p q =
    let n = apart u z in
    let t = ended_bytes n c (apart_few u z l h) b in
    let k = length-append (dec n) (c ∷ []) in
    rw (signed_parts u z, append_assoc (minus_if u z) (dec n) (c ∷ [])) (p.over (dec n ++ (c ∷ [])) f o (omega (arith, k)) (rw t at q))

-- two with a colon between
pub span_text : {d e f : List ℕ} {at r o : ℕ} (s t : List ℕ) → 2 ≤ length t → Over 3 d at s e r → Wrote (set e r 58) (r + 1) t f o
    → Wrote d at ((s ++ codes ":") ++ t) f o
span_text {d} {e} {f} {at} {r} {o} s t l p q =
    let colon : Wrote e r (58 ∷ []) (set e r 58) (r + 1) = record { bytes = refl; next = refl } in
    rw (append_assoc s (codes ":") t) (p.over (58 ∷ t) f o (omega (arith, l)) (after colon q))

pub signed_some : (u z : ℕ) → u < 10000 → z < 10000 → 1 ≤ length (signed (pos u -ℤ pos z))
signed_some u z l h =
    let n = apart u z in
    let m = lead_most n in
    let k : length (dec n) ≡ 4 - lead_of n =
    ap length (sym (digits_bytes n (apart_few u z l h))) ∙ bytes_length (4 - lead_of n) (digits_of n) in
    rw (signed_parts u z, length-append (minus_if u z) (dec n), k) (omega (arith, m))

pub halves : (v m n : ℕ) → m < 10000 → v ≡ values_of m + 4294967296 * values_of n → (v % 4294967296 ≡ values_of m) × (v / 4294967296 ≡ values_of n)
halves v m n l e = let k = (values m l).most in (omega (arith, e, k), omega (arith, e, k))

-- ---- stores from the right to the left: what is too much lies before
sets_apart : (d : List ℕ) (from q : ℕ) (s u : List ℕ) → from + length s ≤ q → sets (sets d q u) from s ≡ sets (sets d from s) q u
sets_apart d from q [] u l = refl
sets_apart d from q (x ∷ s) u l =
    ap (λ (e : List ℕ). sets e (suc from) s) (sym (set_before d from q x u (omega (arith, l))))
    ∙ sets_apart (set d from x) (suc from) q s u (omega (arith, l))

sets_within : (d : List ℕ) (from i : ℕ) (j s : List ℕ) → i + length j ≡ length s → sets (sets d (from + i) j) from s ≡ sets d from s
sets_within d from i j s l =
    let a = take i s in
    let b = drop i s in
    let n : length a ≡ i = length-take-le i s (omega (arith, l)) in
    let m : length b ≡ length s - i = length-drop i s in
    let here : (e : List ℕ) → sets (sets e from a) (from + i) b ≡ sets e from s =
    λ e. rw n at (sets_append e from a b) ∙ ap (sets e from) (take-append-drop i s) in
    sym (here (sets d (from + i) j))
    ∙ ap (λ (e : List ℕ). sets e (from + i) b) (sets_apart d from (from + i) a j (omega (arith, n)))
    ∙ sets_over (sets d from a) (from + i) j b (omega (arith, m, l))
    ∙ here d

-- of a text the part from its byte |j| on
pub last_bytes : {d e : List ℕ} {p r : ℕ} (j u : List ℕ) (at : ℕ) → at ≡ p + length j → Wrote d p (j ++ u) e r → Under (length j) d at u e r
last_bytes {d} {e} {p} {r} j u at k w = record {
  under = λ s f from h q.
      let i = length s - length j in
      let place : from + i ≡ p = omega (arith, q.next, k, h) in
      let end : from + length s ≡ at = sym q.next in
      let both : e ≡ sets (sets d p j) at u = w.bytes ∙ sym (sets_append d p j u) ∙ ap (λ (n : ℕ). sets (sets d p j) n u) (sym k) in
      let inner : sets (sets d p j) from s ≡ sets d from s =
      ap (λ (n : ℕ). sets (sets d n j) from s) (sym place) ∙ sets_within d from i j s (omega (arith, h)) in
      record {
        bytes = q.bytes ∙ ap (λ (x : List ℕ). sets x from s) both
            ∙ sets_apart (sets d p j) from at s u (omega (arith, end))
            ∙ ap (λ (x : List ℕ). sets x at u) inner
            ∙ ap (λ (n : ℕ). sets (sets d from s) n u) (sym end)
            ∙ sets_append d from s u;
        next = w.next ∙ rw (length-append j u, length-append s u) (omega (arith, k, end));
      };
  size = kept w;
}

-- what is written before a text, and what is before that
pub under_more : {d e f t u : List ℕ} {at mid r : ℕ} (m k : ℕ) → m ≤ length u + k → Under m d mid t e r → Under k e at u f mid
    → Under k d at (u ++ t) f r
under_more {d} {e} {f} {t} {u} {at} {mid} {r} m k l p q = record {
  under = λ s g from h w.
      subst (λ (x : List ℕ). Wrote d from x g r) (append_assoc s u t)
      (p.under (s ++ u) g from (omega (arith, l, h, length-append s u)) (q.under s g from h w));
  size = q.size ∙ p.size;
}

-- the digits of a number, up to three bytes too many before them
pub digits_under : {d e : List ℕ} {p r : ℕ} (n at : ℕ) → n < 10000 → at ≡ p + lead_of n → Wrote d p (bytes_of 4 (four_of n)) e r → Under 3 d at (dec n) e r
digits_under {d} {e} {p} {r} n at l k w =
    let m = lead_most n in
    let a = bytes_of (lead_of n) (four_of n) in
    let b = bytes_of (4 - lead_of n) (four_of n / 256 ^ lead_of n) in
    let sum : lead_of n + (4 - lead_of n) ≡ 4 = omega (arith, m) in
    let parts : bytes_of 4 (four_of n) ≡ a ++ b = rw sum at (bytes_append (lead_of n) (4 - lead_of n) (four_of n)) in
    let right : b ≡ dec n = rw (sym (pow_256 (lead_of n) (omega (arith, m)))) (digits n l) in
    let len = bytes_length (lead_of n) (four_of n) in
    let u = last_bytes a b at (omega (arith, k, len)) (rw parts at w) in
    record { under = λ s f from h q. rw right at (u.under s f from (omega (arith, h, len, m)) q); size = u.size }

pub under_weak : {d e t : List ℕ} {at r : ℕ} (m k : ℕ) → m ≤ k → Under m d at t e r → Under k d at t e r
under_weak m k l p = record { under = λ s f from h q. p.under s f from (omega (arith, l, h)) q; size = p.size }

pub one_under : (d : List ℕ) (at x : ℕ) → Under 0 d at (x ∷ []) (set d at x) (at + 1)
one_under d at x =
    let w : Wrote d at (x ∷ []) (set d at x) (at + 1) = record { bytes = refl; next = refl } in
    last_bytes [] (x ∷ []) at (omega arith) w

-- a minus before
pub minus_under : {d e t : List ℕ} {at r : ℕ} → Under 3 d (at + 1) t e r → Under 3 d at (codes "-" ++ t) (set e at 45) r
minus_under {d} {e} {t} {at} {r} p =
    under_weak 2 3 (omega arith) (under_more 3 2 (omega arith) p (under_weak 0 2 (omega arith) (one_under e at 45)))

-- the digits of a number that end at r
pub four_under : {d e : List ℕ} {p mid at r : ℕ} (n : ℕ) → n < 10000 → p + 4 ≡ r → at + (4 - lead_of n) ≡ r
    → Wrote d p (bytes_of 4 (four_of n)) e mid → Under 3 d at (dec n) e r
four_under {d} {e} {p} {mid} {at} {r} n l h k w =
    let m = lead_most n in
    let b = bytes_length 4 (four_of n) in
    let end : mid ≡ r = w.next ∙ rw b h in
    digits_under n at l (omega (arith, h, k, m)) (rw end at w)

-- two with a colon between and a byte after
pub run_under : {d e f g h : List ℕ} {at a b r : ℕ} (s t : List ℕ) (c : ℕ) → b ≡ a + 1 → Under 0 d r (c ∷ []) e (r + 1) → Under 3 e b t f r
    → Under 0 f a (58 ∷ []) g b → Under 3 g at s h a → Under 3 d at ((s ++ codes ":") ++ (t ++ (c ∷ []))) h (r + 1)
run_under {d} {e} {f} {g} {h} {at} {a} {b} {r} s t c l x y z w =
    let right = under_more 0 3 (omega arith) x y in
    let mid = under_more 3 2 (omega arith) right (under_weak 0 2 (omega arith) z) in
    rw (append_assoc s (codes ":") (t ++ (c ∷ []))) (under_more 2 3 (omega arith) mid w)

spaced_test : ℕ → Bool
spaced_test n = same (bytes_of (1 - cond (ltb n 10) 1 0 + 2) (spaced_of n)) (dec n ++ codes " ")

pub spaced_bytes : (n : ℕ) → n < 100 → bytes_of (1 - cond (ltb n 10) 1 0 + 2) (spaced_of n) ≡ dec n ++ codes " "
unfolding spaced_test spaced_of dec
spaced_bytes n l = same_equal _ _ (every_below spaced_test 100 tt n l)

-- with the number of its bytes
word_test : ℕ → Bool
word_test n = leb (spaced_word n / 16777216) 3 && same (bytes_of (spaced_word n / 16777216) (spaced_word n)) (dec n ++ codes " ")

word_pass : (n : ℕ) → n < 40 → T (word_test n)
unfolding word_test spaced_word spaced_of dec
word_pass n l = every_below word_test 40 tt n l

pub word_bytes : (n : ℕ) → n < 40 → bytes_of (spaced_word n / 16777216) (spaced_word n) ≡ dec n ++ codes " "
unfolding word_test
word_bytes n l = same_equal _ _ (both_right (leb (spaced_word n / 16777216) 3) _ (word_pass n l))

pub word_few : (n : ℕ) → n < 40 → spaced_word n / 16777216 ≤ 3
unfolding word_test
word_few n l = leb→le (spaced_word n / 16777216) 3 (both_left (leb (spaced_word n / 16777216) 3) _ (word_pass n l))

-- a number alone
pub minus_bytes : (u z : ℕ) → u < z → z < 10000
    → bytes_of (5 - lead_of (z - u)) (45 + 256 * digits_of (z - u)) ≡ signed (pos u -ℤ pos z)
minus_bytes u z l h =
    let m = lead_most (z - u) in
    let k : 5 - lead_of (z - u) ≡ suc (4 - lead_of (z - u)) = omega arith in
    rw (k, signed_low u z l) (minus (4 - lead_of (z - u)) (digits_of (z - u)) ∙ ap (λ (t : List ℕ). 45 ∷ t) (digits_bytes (z - u) (omega arith)))

-- one of ten and more has two digits or more
pub lead_few : (n : ℕ) → 10 ≤ n → lead_of n ≤ 2
unfolding lead_of
lead_few n l = rw (le-ltb n 10 l) (omega (arith, once (ltb n 100), once (ltb n 1000)))
  where
    once : (b : Bool) → cond b 1 0 ≤ 1
    once true = omega arith
    once false = omega arith

pub one_digit : {d e : List ℕ} {at r : ℕ} (n : ℕ) → n < 10 → Wrote d at ((48 + n) ∷ []) e r → Wrote d at (dec n) e r
unfolding dec
one_digit n l q = digit_alone 19 n l q
