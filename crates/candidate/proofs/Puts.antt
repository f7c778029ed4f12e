-- What putting fields leaves as it was, and where in a channel none is put.
use mathlib.Core.Path.{◌≡◌, refl, ◌∙◌}
use mathlib.Core.Logic.{⊎_elim}
use mathlib.Core.Bool.{Bool, true, false, cond}
use mathlib.Core.List.{List}
use Prim.Native.Nat.{ℕ, zero, suc, ◌+◌, ◌-◌, ◌*◌, ◌/◌, ◌%◌, ◌^◌, ◌≤◌, ◌<◌}
use native.Mathlib.Decide.{dec_lt}
use native.Mathlib.Nat.{eq-or-lt_of_le}
use native.Mathlib.Omega.{arith}
use lib.Dec.{ltb}
use lib.ListN.{length}
use Rattle.bits.specs.Bits.{bit, field, put}
use Rattle.bits.proofs.Fields.{field_ext}
use Rattle.bits.proofs.Writes.{put_length, put_before, put_after, field_put}
use Rattle.channel.specs.Layout.{firsts, first_bits, second_at, second_bits, has_second, common, subfields, value_at, user_at, block_at, covered}
use Rattle.channel.proofs.Values.{value_first, value_second, value_inside}
use Rattle.channel.proofs.Blocks.{user_inside, covered_le}
use Rattle.candidate.specs.Engine.{puts}

-- ---- what a put leaves

-- bit i is none of the w from x
abbrev pub Off : ℕ → ℕ → ℕ → Type 0
Off x w i = x ≤ i → i < x + w → ⊥

pub put_off : (d : List ℕ) (x w v i : ℕ) → Off x w i → bit (put d x w v) i ≡ bit d i
put_off d x w v i h = go (dec_lt i x) (dec_lt i (x + w))
  where
    go : Dec (i < x) → Dec (i < x + w) → bit (put d x w v) i ≡ bit d i
    go (yes l) e = put_before d x w v i l
    go (no l) (yes m) = absurd (h (omega arith) m)
    go (no l) (no m) = put_after d x w v i (omega arith)

module _ (at : ℕ → ℕ) (w : ℕ) (v : ℕ → ℕ) (d : List ℕ) where
  pub puts_length : (n : ℕ) → length (puts at w v n d) ≡ length d
  unfolding puts
  puts_length zero = refl
  puts_length (suc n) = put_length (puts at w v n d) (at n) w (v n) ∙ puts_length n

  pub puts_off : (n i : ℕ) → ((k : ℕ) → k < n → Off (at k) w i) → bit (puts at w v n d) i ≡ bit d i
  unfolding puts
  puts_off zero i h = refl
  puts_off (suc n) i h =
      put_off (puts at w v n d) (at n) w (v n) i (h n (omega arith)) ∙ puts_off n i (λ k l. h k (omega arith))

  -- each number is read back where it was put, if they rise and do not overlap
  pub puts_field : ((j k : ℕ) → j < k → at j + w ≤ at k) → (n : ℕ) → ((k : ℕ) → k < n → at k + w ≤ 8 * length d)
      → (k : ℕ) → k < n → field (puts at w v n d) (at k) w ≡ v k % 2 ^ w
  unfolding puts
  puts_field apart zero inside k l = absurd (omega arith)
  puts_field apart (suc n) inside k l =
      ⊎_elim
      (λ (e : k ≡ n).
      rw e (field_put (puts at w v n d) (at n) w (v n) (omega (arith, inside n (omega arith), puts_length n))))
      (λ (m : k < n).
      field_ext (put (puts at w v n d) (at n) w (v n)) (puts at w v n d) (at k) (at k) w
      (λ j i. put_before (puts at w v n d) (at n) w (v n) (at k + j) (omega (arith, apart k n m)))
      ∙ puts_field apart n (λ j i. inside j (omega arith)) k m)
      (eq-or-lt_of_le {n = k} {m = n} (omega arith))

-- ---- where nothing is put

pub value_after : (bw k : ℕ) → 17 ≤ value_at bw k
unfolding value_at second_at first_bits
value_after bw k = go (ltb k (firsts bw))
  where
    go : (t : Bool) → 17 ≤ cond t (17 + 9 * k) (17 + 9 * firsts bw + 10 + 9 * (k - firsts bw))
    go true = omega arith
    go false = omega arith

-- a value lies before the first check or after its tail, and before the second check
pub value_place : (bw k : ℕ) → k < subfields bw → (i : ℕ) → value_at bw k ≤ i → i < value_at bw k + 9
    → (Off (first_bits bw) 10 i) × (has_second bw ≡ true → Off (second_at bw + second_bits bw) 10 i) × (i < common bw)
unfolding second_at
value_place bw k l i p q = go (dec_lt k (firsts bw))
  where
    go : Dec (k < firsts bw) → (Off (first_bits bw) 10 i) × (has_second bw ≡ true → Off (first_bits bw + 10 + second_bits bw) 10 i) × (i < common bw)
    go (yes m) =
        let a = value_first bw k m in
        (λ x y. omega (arith, a.1), λ e x y. omega (arith, a.1), omega (arith, value_inside bw k l))
    go (no m) =
        let a = value_second bw k (omega arith) l in
        (λ x y. omega (arith, a.0), λ e x y. omega (arith, a.1), omega (arith, value_inside bw k l))

-- a User field lies outside every block's check and tail
pub user_place : (bw n i : ℕ) → i < n → (j : ℕ) → user_at bw i ≤ j → j < user_at bw i + 22 → (b : ℕ) → Off (block_at bw b + covered n b) 10 j
unfolding block_at
user_place bw n i l j p q b x y =
    let u = user_inside bw n i l in
    go (dec_lt b (i / 2)) (dec_lt (i / 2) b)
  where
    go : Dec (b < i / 2) → Dec (i / 2 < b) → ⊥
    go (yes m) e = omega (arith, (user_inside bw n i l).0, covered_le n b)
    go (no m) (yes k) = omega (arith, (user_inside bw n i l).1, covered_le n (i / 2))
    go (no m) (no k) =
        let e : b ≡ i / 2 = omega arith in
        let z : common bw + 54 * (i / 2) + covered n (i / 2) ≤ j = rw e at x in
        omega (arith, (user_inside bw n i l).1)
