-- Facts of the layout, each once over the bandwidth: bounds, positions and their subfields, sums, the row.
use mathlib.Core.Path.{◌≡◌, refl, ◌∙◌}
use mathlib.Core.Bool.{Bool, true, false, cond, ◌||◌}
use mathlib.Core.List.{List}
use Prim.Native.Nat.{ℕ, zero, suc, ◌+◌, ◌-◌, ◌*◌, ◌/◌, ◌%◌, ◌≤◌, ◌<◌}
use native.Mathlib.Decide.{dec_lt}
use native.Mathlib.Numerals.{add-one}
use native.Mathlib.Omega.{arith}
use lib.Dec.{eqb, ltb, eqb→eq}
use lib.ListN.{length, get_or, take, replicate}
use lib.Pow.{pow_mono}
use borrow.Author.Tests.{lt-ltb, eq-eqb, ne_eqb}
use Rattle.answer.proofs.Lists.{length_build, get_d_build, take_filled}
use Rattle.bits.proofs.Fields.{field_lt}
use Rattle.resource.specs.Values.{fields_of}
use Rattle.resource.proofs.Fields.{fields_most}
use Rattle.resource.proofs.Test.{every_below}
use Rattle.channel.specs.Layout.{positions, present, firsts, seconds, first_bits, second_at, second_bits, has_second, common}
use Rattle.channel.specs.Layout.{subfields, subfields_in, value_at, value, row_at, row, row_in16, total, count, end_of}

-- ---- bounds

-- channel 1 is always there, channel 2 from 40 MHz up
pub present_1 : (bw : ℕ) → present bw 1 ≡ true
unfolding present
present_1 bw = refl

pub present_wide : (bw c : ℕ) → 0 < bw → present bw c ≡ true
unfolding present
present_wide bw c h = rw (lt-ltb 0 bw h) (go (eqb c 1))
  where
    go : (b : Bool) → b || true ≡ true
    go true = refl
    go false = refl

pub absent_2 : present 0 2 ≡ false
unfolding present
absent_2 = refl

pub positions_le : (bw : ℕ) → bw ≤ 4 → positions bw ≤ 16
unfolding positions
positions_le bw h = pow_mono {i = bw} {j = 4} h

pub firsts_le : (bw : ℕ) → firsts bw ≤ 2
unfolding firsts
firsts_le bw = go (ltb bw 2)
  where
    go : (b : Bool) → cond b 1 2 ≤ 2
    go true = omega arith
    go false = omega arith

pub seconds_le : (bw : ℕ) → seconds bw ≤ 6
unfolding seconds
seconds_le bw = go (eqb bw 3) (eqb bw 4)
  where
    go : (b c : Bool) → cond b 2 (cond c 6 0) ≤ 6
    go true c = omega arith
    go false true = omega arith
    go false false = omega arith

pub subfields_le : (bw : ℕ) → subfields bw ≤ 8
unfolding subfields
subfields_le bw = omega (arith, firsts_le bw, seconds_le bw)

pub subfields_in_le : (bw c : ℕ) → subfields_in bw c ≤ subfields bw
unfolding subfields_in
subfields_in_le bw c = go (present bw c)
  where
    go : (b : Bool) → cond b (subfields bw) 0 ≤ subfields bw
    go true = omega arith
    go false = omega arith

-- what the common field holds, in order
pub first_inside : (bw : ℕ) → first_bits bw + 10 ≤ common bw
unfolding common second_at
first_inside bw = omega arith

pub second_inside : (bw : ℕ) → has_second bw ≡ true → second_at bw + second_bits bw + 10 ≡ common bw
unfolding common
second_inside bw e = rw e (omega arith)

pub common_ge : (bw : ℕ) → 27 ≤ common bw
unfolding first_bits
common_ge bw = omega (arith, first_inside bw)

pub common_le : (bw : ℕ) → common bw ≤ 109
unfolding common second_at second_bits first_bits
common_le bw = go (has_second bw)
  where
    go : (b : Bool) → 17 + 9 * firsts bw + 10 + cond b (9 * seconds bw + 10) 0 ≤ 109
    go true = omega (arith, firsts_le bw, seconds_le bw)
    go false = omega (arith, firsts_le bw)

-- 257 bytes hold any channel's blocks
pub end_le : (bw n : ℕ) → n ≤ 72 → end_of bw n ≤ 2053
unfolding end_of
end_le bw n h = omega (arith, common_le bw)

-- ---- positions and their subfields

-- 20 MHz has one position, and channel 1 its subfield
pub one_position : positions 0 ≡ 1
unfolding positions
one_position = refl

one_subfield : 0 < subfields_in 0 1
unfolding subfields_in present subfields firsts seconds
one_subfield = omega arith

-- from 40 MHz up each channel has half of the positions
half_test : ℕ → Bool
half_test k = eqb (2 * subfields (k + 1)) (positions (k + 1))

pub half : (bw : ℕ) → 0 < bw → bw ≤ 4 → 2 * subfields bw ≡ positions bw
unfolding half_test subfields firsts seconds positions
half bw h l =
    let e : bw - 1 + 1 ≡ bw = omega arith in
    let t : 2 * subfields (bw - 1 + 1) ≡ positions (bw - 1 + 1) = eqb→eq _ _ (every_below half_test 4 tt (bw - 1) (omega arith)) in
    rw e at t

pub subfields_wide : (bw c : ℕ) → 0 < bw → subfields_in bw c ≡ subfields bw
unfolding subfields_in
subfields_wide bw c h = rw (present_wide bw c h)

-- each position has its subfield, in its own channel
pub position_subfield : (bw p : ℕ) → bw ≤ 4 → p < positions bw → p / 2 < subfields_in bw (1 + p % 2)
position_subfield bw p l h = go (dec_lt 0 bw)
  where
    lone : (bw p : ℕ) → bw ≡ 0 → p ≡ 0 → p / 2 < subfields_in bw (1 + p % 2)
    lone bw p e f = rw (e, f) one_subfield

    go : Dec (0 < bw) → p / 2 < subfields_in bw (1 + p % 2)
    go (yes a) = rw (subfields_wide bw (1 + p % 2) a) (omega (arith, half bw a l))
    go (no a) =
        let e : bw ≡ 0 = omega arith in
        let n : positions bw ≡ 1 = rw e one_position in
        lone bw p e (omega arith)

-- and each subfield its position

module _ (bw k : ℕ) (l : bw ≤ 4) where
  lone_1 : bw ≡ 0 → k < subfields_in bw 1 → 2 * k < positions bw
  unfolding subfields_in subfields firsts seconds present positions
  lone_1 e m = let n : k < 1 = rw e at m in rw e (omega arith)

  lone_2 : bw ≡ 0 → k < subfields_in bw 2 → 2 * k + 1 < positions bw
  unfolding subfields_in subfields firsts seconds present positions
  lone_2 e m = let n : k < 0 = rw e at m in absurd (omega arith)

  pub place_1 : k < subfields_in bw 1 → 2 * k < positions bw
  place_1 m = go (dec_lt 0 bw)
    where
      go : Dec (0 < bw) → 2 * k < positions bw
      go (yes h) = omega (arith, half bw h l, subfields_wide bw 1 h)
      go (no h) = lone_1 (omega arith) m

  pub place_2 : k < subfields_in bw 2 → 2 * k + 1 < positions bw
  place_2 m = go (dec_lt 0 bw)
    where
      go : Dec (0 < bw) → 2 * k + 1 < positions bw
      go (yes h) = omega (arith, half bw h l, subfields_wide bw 2 h)
      go (no h) = lone_2 (omega arith) m

-- ---- sums

pub total_next : (f : ℕ → ℕ) (n : ℕ) → total f n + f n ≡ total f (n + 1)
unfolding total
total_next f n = rw add-one refl

pub total_cong : (f g : ℕ → ℕ) (n : ℕ) → ((k : ℕ) → k < n → f k ≡ g k) → total f n ≡ total g n
unfolding total
total_cong f g zero h = refl
total_cong f g (suc n) h = rw (total_cong f g n (λ k l. h k (omega arith)), h n (omega arith))

pub total_le : (f : ℕ → ℕ) (m n : ℕ) → ((k : ℕ) → f k ≤ m) → total f n ≤ m * n
unfolding total
total_le f m zero h = omega arith
total_le f m (suc n) h = let t = total_le f m n h in omega (arith, h n)

-- "At most 16 positions of 9 fields": 72 in a channel
pub count_le : (bw c : ℕ) (s : List ℕ) → count bw c s ≤ 72
unfolding count
count_le bw c s =
    omega (arith, total_le (λ k. fields_of (value bw s k)) 9 (subfields_in bw c) (λ k. fields_most (value bw s k)), subfields_in_le bw c, subfields_le bw)

-- ---- the row

pub row_length : (bw : ℕ) (a b : List ℕ) → length (row bw a b) ≡ positions bw
unfolding row
row_length bw a b = length_build (row_at bw a b) (positions bw)

pub row_at_lem : (bw : ℕ) (a b : List ℕ) (p : ℕ) → p < positions bw → get_or (row bw a b) p 0 ≡ row_at bw a b p
unfolding row
row_at_lem bw a b p h = get_d_build (row_at bw a b) (positions bw) p 0 h

-- channel 1's values at the even positions, channel 2's at the odd ones
pub row_even : (bw : ℕ) (a b : List ℕ) (k : ℕ) → 2 * k < positions bw → get_or (row bw a b) (2 * k) 0 ≡ value bw a k
unfolding row_at
row_even bw a b k h =
    let e : 2 * k % 2 ≡ 0 = omega arith in
    let f : 2 * k / 2 ≡ k = omega arith in
    row_at_lem bw a b (2 * k) h ∙ rw (eq-eqb (2 * k % 2) 0 e, f)

pub row_odd : (bw : ℕ) (a b : List ℕ) (k : ℕ) → 2 * k + 1 < positions bw → get_or (row bw a b) (2 * k + 1) 0 ≡ value bw b k
unfolding row_at
row_odd bw a b k h =
    let f : (2 * k + 1) / 2 ≡ k = omega arith in
    row_at_lem bw a b (2 * k + 1) h ∙ rw (ne_eqb ((2 * k + 1) % 2) 0 (λ e. omega arith), f)

pub value_lt : (bw : ℕ) (s : List ℕ) (k : ℕ) → value bw s k < 512
unfolding value
value_lt bw s k = field_lt s (value_at bw k) 9

pub row_lt : (bw : ℕ) (a b : List ℕ) (p : ℕ) → row_at bw a b p < 512
unfolding row_at
row_lt bw a b p = go (eqb (p % 2) 0)
  where
    go : (t : Bool) → cond t (value bw a (p / 2)) (value bw b (p / 2)) < 512
    go true = value_lt bw a (p / 2)
    go false = value_lt bw b (p / 2)

-- the sixteen: the row in front, 0 past it

pub row16_front : (bw : ℕ) (a b : List ℕ) → take (positions bw) (row_in16 bw a b) ≡ row bw a b
unfolding row_in16 row
row16_front bw a b = take_filled (row_at bw a b) (positions bw) (replicate 16 0)
