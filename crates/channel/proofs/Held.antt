-- The numbers that hold the common fields are the channels' parts, and the values in them are the row.
use mathlib.Core.Path.{◌≡◌, refl, sym, ◌∙◌, ap, ap₂}
use mathlib.Core.Bool.{Bool, true, false, cond, false≢true}
use mathlib.Core.List.{List}
use Prim.Native.Nat.{ℕ, ◌+◌, ◌-◌, ◌*◌, ◌/◌, ◌%◌, ◌^◌, ◌≤◌, ◌<◌}
use native.Mathlib.Decide.{dec_lt, ℕ_discrete}
use native.Mathlib.Nat.{div-one}
use native.Mathlib.Omega.{arith}
use lib.Dec.{eqb, ltb}
use lib.ListN.{length, get_or, set, replicate, length-set}
use lib.Pow as P
use lib.Seq.{get_or-set_same, get_or-set_other}
use borrow.Author.Tests.{lt-ltb, le-ltb, eq-eqb, ne_eqb}
use Rattle.answer.specs.Lists.{filled}
use Rattle.answer.proofs.Lists.{filled_is, filled_start, filled_step, filled_cong}
use Rattle.bits.specs.Bits.{field}
use Rattle.bits.proofs.Fields.{field_part, field_split}
use Rattle.bits.proofs.Windows.{field_low, field_rest}
use Rattle.channel.specs.Layout.{positions, present, firsts, seconds, first_bits, second_at, second_bits, has_second, common, subfields, subfields_in}
use Rattle.channel.specs.Layout.{value_at, value, row_at, row_in16}
use Rattle.channel.specs.declared.Parts.{Parts}
use Rattle.channel.specs.Engine.{first_width, first_part, second_width, second_part, parts_of, value_in, part_at, Turns}
use Rattle.channel.proofs.Laws.{present_wide, absent_2, positions_le, one_position, half, position_subfield, subfields_in_le}
use Rattle.channel.proofs.Values.{value_first, value_second}

-- ---- the parts

-- what is held reaches past the tail
pub first_held : (bw : ℕ) → second_at bw ≤ first_width bw
unfolding first_width second_at first_bits firsts
first_held bw = go (ltb bw 2)
  where
    go : (t : Bool) → 17 + 9 * cond t 1 2 + 10 ≤ cond t 40 48
    go true = omega arith
    go false = omega arith

pub second_held : (bw : ℕ) → has_second bw ≡ true → second_bits bw + 10 ≤ second_width bw
unfolding has_second second_bits second_width seconds
second_held bw e = go (eqb bw 3) (eqb bw 4) e
  where
    go : (t u : Bool) → ltb 0 (cond t 2 (cond u 6 0)) ≡ true → 9 * cond t 2 (cond u 6 0) + 10 ≤ cond t 35 (cond u 64 0)
    go true u e = omega arith
    go false true e = omega arith
    go false false e = absurd (false≢true e)

-- the part itself, with check and tail, is the number's low end
pub first_low : (bw : ℕ) (s : List ℕ) → first_part bw s % 2 ^ second_at bw ≡ field s 0 (second_at bw)
unfolding first_part
first_low bw s = field_low s 0 (first_width bw) (second_at bw) (first_held bw)

pub second_low : (bw : ℕ) (s : List ℕ) → has_second bw ≡ true → second_part bw s % 2 ^ (second_bits bw + 10) ≡ field s (second_at bw) (second_bits bw + 10)
unfolding second_part
second_low bw s e = field_low s (second_at bw) (second_width bw) (second_bits bw + 10) (second_held bw e)

-- the bytes of a channel that has its common field
pub common_narrow : (bw n : ℕ) → bw < 2 → common bw ≤ 8 * n → 5 ≤ n
unfolding common second_at first_bits firsts
common_narrow bw n l h =
    let k : 17 + 9 * cond (ltb bw 2) 1 2 + 10 ≤ 8 * n = omega arith in
    let m : 17 + 9 * 1 + 10 ≤ 8 * n = rw (lt-ltb bw 2 l) at k in
    omega arith

pub common_wide : (bw n : ℕ) → 2 ≤ bw → common bw ≤ 8 * n → 6 ≤ n
unfolding common second_at first_bits firsts
common_wide bw n l h =
    let k : 17 + 9 * cond (ltb bw 2) 1 2 + 10 ≤ 8 * n = omega arith in
    let m : 17 + 9 * 2 + 10 ≤ 8 * n = rw (le-ltb bw 2 l) at k in
    omega arith

pub common_160 : (bw n : ℕ) → bw ≡ 3 → common bw ≤ 8 * n → 10 ≤ n
unfolding common second_at first_bits firsts has_second second_bits seconds
common_160 bw n e h = let k : common 3 ≤ 8 * n = rw e at h in omega arith

pub common_320 : (bw n : ℕ) → bw ≡ 4 → common bw ≤ 8 * n → 14 ≤ n
unfolding common second_at first_bits firsts has_second second_bits seconds
common_320 bw n e h = let k : common 4 ≤ 8 * n = rw e at h in omega arith

-- the second part, by bandwidth
module _ (bw : ℕ) (s : List ℕ) where
  pub part_160 : (x : ℕ) → bw ≡ 3 → x ≡ field s (8 * 2) 64 → x / 2 ^ 29 ≡ second_part bw s
  unfolding second_part second_width second_at first_bits firsts
  part_160 x e f = rw e (ap (λ (y : ℕ). y / 2 ^ 29) f ∙ field_rest s 16 64 29 (omega arith))

  pub part_320 : (x : ℕ) → bw ≡ 4 → x ≡ field s 45 64 → x ≡ second_part bw s
  unfolding second_part second_width second_at first_bits firsts
  part_320 x e f = rw e f

  pub part_none : (bw ≡ 3 → ⊥) → (bw ≡ 4 → ⊥) → 0 ≡ second_part bw s
  unfolding second_part second_width field
  part_none d e = rw (ne_eqb bw 3 d, ne_eqb bw 4 e) refl

-- both channels' parts
module _ (bw : ℕ) (a b : List ℕ) where
  pub parts_one : (x : ℕ) → bw ≡ 0 → x ≡ first_part bw a → record { first1 = x; first2 = 0; second1 = 0; second2 = 0 } ≡ parts_of bw a b
  unfolding parts_of
  parts_one x z e =
      let f : second_part bw a ≡ 0 = sym (part_none bw a (λ d. omega arith) (λ d. omega arith)) in
      let g : second_part bw b ≡ 0 = sym (part_none bw b (λ d. omega arith) (λ d. omega arith)) in
      let h : present bw 2 ≡ false = rw z absent_2 in
      rw (e, f, g, h)

  pub parts_two : (x y z w : ℕ) → (bw ≡ 0 → ⊥) → x ≡ first_part bw a → y ≡ first_part bw b → z ≡ second_part bw a → w ≡ second_part bw b
      → record { first1 = x; first2 = y; second1 = z; second2 = w } ≡ parts_of bw a b
  unfolding parts_of
  parts_two x y z w d e f g h = rw (e, f, g, h, present_wide bw 2 (omega arith))

-- two words have the 64 bits from bit 45
up_three : (x : ℕ) → x * 2 ^ 3 % 2 ^ 64 ≡ x % 2 ^ 61 * 2 ^ 3
up_three x = omega arith

pub from_45 : (s : List ℕ) (a b : ℕ) → a ≡ field s (8 * 2) 32 → b ≡ field s (8 * 6) 64 → a / 2 ^ 29 + b * 2 ^ 3 % 2 ^ 64 ≡ field s 45 64
from_45 s a b e f =
    let g : a / 2 ^ 29 ≡ field s 45 3 = ap (λ (x : ℕ). x / 2 ^ 29) e ∙ field_rest s 16 32 29 (omega arith) in
    let h : b % 2 ^ 61 ≡ field s 48 61 = ap (λ (x : ℕ). x % 2 ^ 61) f ∙ field_low s 48 64 61 (omega arith) in
    ap₂ (λ (x y : ℕ). x + y) g (up_three b ∙ ap (λ (y : ℕ). y * 2 ^ 3) h) ∙ sym (field_split s 45 3 61)

-- ---- their values

pub value_in_lem : (bw : ℕ) (s : List ℕ) (k : ℕ) → k < subfields bw → value_in bw (first_part bw s) (second_part bw s) k ≡ value bw s k
unfolding value_in value first_part second_part
value_in_lem bw s k h = go (dec_lt k (firsts bw))
  where
    go : Dec (k < firsts bw)
        → cond (ltb k (firsts bw)) (field s 0 (first_width bw) / 2 ^ 17 / 2 ^ (9 * k) % 512)
        (field s (second_at bw) (second_width bw) / 2 ^ (9 * (k - firsts bw)) % 512) ≡ field s (value_at bw k) 9
    go (yes l) =
        let v = value_first bw k l in
        let e : second_at bw ≡ first_bits bw + 10 = unfold second_at in refl in
        rw (lt-ltb k (firsts bw) l)
        (ap (λ (x : ℕ). x % 512) (P.shr-shr (field s 0 (first_width bw)) 17 (9 * k))
        ∙ field_part s 0 (first_width bw) (17 + 9 * k) 9 (omega (arith, v.0, v.1, e, first_held bw))
        ∙ ap (λ (i : ℕ). field s i 9) (omega (arith, v.0)))
    go (no l) =
        let v = value_second bw k (omega arith) h in
        rw (le-ltb k (firsts bw) (omega arith))
        (field_part s (second_at bw) (second_width bw) (9 * (k - firsts bw)) 9 (omega (arith, v.0, v.1, second_held bw v.2))
        ∙ ap (λ (i : ℕ). field s i 9) (sym v.0))

-- ---- the row

part_row : (bw : ℕ) (a b : List ℕ) (q : ℕ) → bw ≤ 4 → q < positions bw → part_at bw (parts_of bw a b) q ≡ row_at bw a b q
unfolding part_at parts_of row_at
part_row bw a b q l h = go (ℕ_discrete (q % 2) 0) (position_subfield bw q l h)
  where
    wide : q % 2 ≡ 1 → 0 < bw
    wide e = not_lone (ℕ_discrete bw 0)
      where
        not_lone : Dec (bw ≡ 0) → 0 < bw
        not_lone (yes z) =
            let m : q < 1 = rw (z, one_position) at h in
            absurd (omega arith)
        not_lone (no z) = omega arith

    go : Dec (q % 2 ≡ 0) → q / 2 < subfields_in bw (1 + q % 2)
        → cond (eqb (q % 2) 0) (value_in bw (first_part bw a) (second_part bw a) (q / 2))
        (value_in bw (cond (present bw 2) (first_part bw b) 0) (second_part bw b) (q / 2))
        ≡ cond (eqb (q % 2) 0) (value bw a (q / 2)) (value bw b (q / 2))
    go (yes e) m =
        rw (eq-eqb (q % 2) 0 e) (value_in_lem bw a (q / 2) (omega (arith, subfields_in_le bw (1 + q % 2))))
    go (no d) m =
        rw (ne_eqb (q % 2) 0 d, present_wide bw 2 (wide (omega arith))) (value_in_lem bw b (q / 2) (omega (arith, subfields_in_le bw (1 + q % 2))))

pub row_of_parts : (bw : ℕ) (a b : List ℕ) → bw ≤ 4 → filled (part_at bw (parts_of bw a b)) (positions bw) (replicate 16 0) ≡ row_in16 bw a b
unfolding row_in16
row_of_parts bw a b l = filled_cong _ _ (positions bw) (replicate 16 0) (λ q h. part_row bw a b q l h)

-- ---- the turns

module _ (w : List ℕ) (p x y : ℕ) where
  pub turns_none : Turns w p 0 x y w
  turns_none =
      record {
        same_size = refl;
        from_x = λ k l. absurd (omega arith);
        from_y = λ k l. absurd (omega arith);
        before = λ i l. refl;
        past = λ i l. refl;
      }

  pub turns_next : (n u v : ℕ) (r : List ℕ) → p + 2 * n + 1 < length w → u ≡ x / 2 ^ (9 * n) % 512 → v ≡ y / 2 ^ (9 * n) % 512 → Turns w p n x y r
      → Turns w p (n + 1) x y (set (set r (p + 2 * n) u) (p + 2 * n + 1) v)
  turns_next n u v r l eu ev t =
      record {
        same_size = length-set r₁ (p + 2 * n + 1) v ∙ one;
        from_x = λ k m. go_x k (dec_lt k n) m;
        from_y = λ k m. go_y k (dec_lt k n) m;
        before = λ i m. other i (λ e. omega arith) (λ e. omega arith) ∙ t.before i m;
        past = λ i m. other i (λ e. omega arith) (λ e. omega arith) ∙ t.past i (omega arith);
      }
    where
      r₁ : List ℕ
      r₁ = set r (p + 2 * n) u

      one : length r₁ ≡ length w
      one = length-set r (p + 2 * n) u ∙ t.same_size

      other : (i : ℕ) → (i ≡ p + 2 * n → ⊥) → (i ≡ p + 2 * n + 1 → ⊥) → get_or (set r₁ (p + 2 * n + 1) v) i 0 ≡ get_or r i 0
      other i d e = get_or-set_other r₁ (p + 2 * n + 1) i v 0 e ∙ get_or-set_other r (p + 2 * n) i u 0 d

      now_x : get_or (set r₁ (p + 2 * n + 1) v) (p + 2 * n) 0 ≡ x / 2 ^ (9 * n) % 512
      now_x =
          get_or-set_other r₁ (p + 2 * n + 1) (p + 2 * n) v 0 (λ e. omega arith)
          ∙ get_or-set_same r (p + 2 * n) u 0 (omega (arith, t.same_size)) ∙ eu

      now_y : get_or (set r₁ (p + 2 * n + 1) v) (p + 2 * n + 1) 0 ≡ y / 2 ^ (9 * n) % 512
      now_y = get_or-set_same r₁ (p + 2 * n + 1) v 0 (omega (arith, one)) ∙ ev

      top_x : (k : ℕ) → k ≡ n → get_or (set r₁ (p + 2 * n + 1) v) (p + 2 * k) 0 ≡ x / 2 ^ (9 * k) % 512
      top_x k e = rw e now_x

      top_y : (k : ℕ) → k ≡ n → get_or (set r₁ (p + 2 * n + 1) v) (p + 2 * k + 1) 0 ≡ y / 2 ^ (9 * k) % 512
      top_y k e = rw e now_y

      go_x : (k : ℕ) → Dec (k < n) → k < n + 1 → get_or (set r₁ (p + 2 * n + 1) v) (p + 2 * k) 0 ≡ x / 2 ^ (9 * k) % 512
      go_x k (yes h) m = other (p + 2 * k) (λ e. omega arith) (λ e. omega arith) ∙ t.from_x k h
      go_x k (no h) m = top_x k (omega arith)

      go_y : (k : ℕ) → Dec (k < n) → k < n + 1 → get_or (set r₁ (p + 2 * n + 1) v) (p + 2 * k + 1) 0 ≡ y / 2 ^ (9 * k) % 512
      go_y k (yes h) m = other (p + 2 * k + 1) (λ e. omega arith) (λ e. omega arith) ∙ t.from_y k h
      go_y k (no h) m = top_y k (omega arith)

-- ---- the row that the code fills

-- at 20 MHz one value
lone_value : (p : Parts) → p.first1 / 2 ^ 17 % 512 ≡ part_at 0 p 0
unfolding part_at value_in firsts
lone_value p = ap (λ (x : ℕ). x % 512) (sym (div-one (p.first1 / 2 ^ 17)))

pub lone_row : (bw : ℕ) (p : Parts) (w : List ℕ) (v : ℕ) → bw ≡ 0 → length w ≡ 16 → v ≡ p.first1 / 2 ^ 17 % 512
    → set w 0 v ≡ filled (part_at bw p) (positions bw) w
lone_row bw p w v z l e =
    rw (z, one_position)
    (ap (λ (u : List ℕ). set u 0 v) (filled_start (part_at 0 p) w) ∙ filled_step (part_at 0 p) 0 v w (omega arith) (e ∙ lone_value p))

-- values that take turns
by_turns : (f g : ℕ → ℕ) (r : List ℕ) (n : ℕ) → ((k : ℕ) → k < n → get_or r (2 * k) 0 ≡ f k) → ((k : ℕ) → k < n → get_or r (2 * k + 1) 0 ≡ g k)
    → (i : ℕ) → i < 2 * n → get_or r i 0 ≡ cond (eqb (i % 2) 0) (f (i / 2)) (g (i / 2))
by_turns f g r n x y i l = go (ℕ_discrete (i % 2) 0)
  where
    go : Dec (i % 2 ≡ 0) → get_or r i 0 ≡ cond (eqb (i % 2) 0) (f (i / 2)) (g (i / 2))
    go (yes e) =
        let j : i ≡ 2 * (i / 2) = omega arith in
        rw (eq-eqb (i % 2) 0 e) (ap (λ (q : ℕ). get_or r q 0) j ∙ x (i / 2) (omega arith))
    go (no d) =
        let j : i ≡ 2 * (i / 2) + 1 = omega arith in
        rw (ne_eqb (i % 2) 0 d) (ap (λ (q : ℕ). get_or r q 0) j ∙ y (i / 2) (omega arith))

both : (bw : ℕ) → subfields bw ≡ firsts bw + seconds bw
unfolding subfields
both bw = refl

-- from 40 MHz up the first parts' values, then the second parts'
module _ (bw : ℕ) (p : Parts) (w q r : List ℕ) (h : 0 < bw) (l : bw ≤ 4) (e : length w ≡ 16)
    (t : Turns w 0 (firsts bw) (p.first1 / 2 ^ 17) (p.first2 / 2 ^ 17) q) (u : Turns q (2 * firsts bw) (seconds bw) p.second1 p.second2 r) where
  even : (k : ℕ) → k < subfields bw → get_or r (2 * k) 0 ≡ value_in bw p.first1 p.second1 k
  unfolding value_in
  even k m = go (dec_lt k (firsts bw))
    where
      go : Dec (k < firsts bw) → get_or r (2 * k) 0
          ≡ cond (ltb k (firsts bw)) (p.first1 / 2 ^ 17 / 2 ^ (9 * k) % 512) (p.second1 / 2 ^ (9 * (k - firsts bw)) % 512)
      go (yes i) =
          rw (lt-ltb k (firsts bw) i) (u.before (2 * k) (omega arith) ∙ ap (λ (j : ℕ). get_or q j 0) (omega arith) ∙ t.from_x k i)
      go (no i) =
          rw (le-ltb k (firsts bw) (omega arith))
          (ap (λ (j : ℕ). get_or r j 0) (omega arith) ∙ u.from_x (k - firsts bw) (omega (arith, both bw)))

  odd : (k : ℕ) → k < subfields bw → get_or r (2 * k + 1) 0 ≡ value_in bw p.first2 p.second2 k
  unfolding value_in
  odd k m = go (dec_lt k (firsts bw))
    where
      go : Dec (k < firsts bw) → get_or r (2 * k + 1) 0
          ≡ cond (ltb k (firsts bw)) (p.first2 / 2 ^ 17 / 2 ^ (9 * k) % 512) (p.second2 / 2 ^ (9 * (k - firsts bw)) % 512)
      go (yes i) =
          rw (lt-ltb k (firsts bw) i) (u.before (2 * k + 1) (omega arith) ∙ ap (λ (j : ℕ). get_or q j 0) (omega arith) ∙ t.from_y k i)
      go (no i) =
          rw (le-ltb k (firsts bw) (omega arith))
          (ap (λ (j : ℕ). get_or r j 0) (omega arith) ∙ u.from_y (k - firsts bw) (omega (arith, both bw)))

  pub wide_row : r ≡ filled (part_at bw p) (positions bw) w
  unfolding part_at
  wide_row =
      filled_is (part_at bw p) 0 (positions bw) r w (u.same_size ∙ t.same_size) (omega (arith, positions_le bw l))
      (λ i m. by_turns (value_in bw p.first1 p.second1) (value_in bw p.first2 p.second2) r (subfields bw) even odd i (omega (arith, half bw h l)))
      (λ i m. u.past i (omega (arith, half bw h l, both bw)) ∙ t.past i (omega (arith, half bw h l, both bw)))
