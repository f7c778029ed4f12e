-- Every carried row has channels that carry it, with every check right: overflow 0, the row's values, each User field 0.
use mathlib.Core.Path.{◌≡◌, refl, sym, ◌∙◌, ap}
use mathlib.Core.Bool.{Bool, true, false, cond, false≢true}
use mathlib.Core.List.{List, [], ◌∷◌}
use Prim.Native.Nat.{ℕ, ◌+◌, ◌-◌, ◌*◌, ◌/◌, ◌%◌, ◌^◌, ◌≤◌, ◌<◌}
use native.Mathlib.Decide.{dec_lt, ℕ_discrete}
use native.Mathlib.Nat.{mod-eq_of_lt}
use native.Mathlib.Omega.{arith}
use lib.ListN.{length, replicate, length-replicate}
use lib.Seq.{ext_get_or}
use borrow.Author.Tests.{lt-ltb, le-ltb}
use Rattle.std.specs.Prelude.{Ok}
use Rattle.answer.proofs.Order.{pass_left, pass_right, or_pass, if_pass}
use Rattle.answer.proofs.Least.{least_none}
use Rattle.bits.specs.Bits.{field, Small}
use Rattle.bits.proofs.Fields.{field_part}
use Rattle.resource.specs.Values.{carried, fields_of}
use Rattle.resource.proofs.Fields.{carried_high, fields_most}
use Rattle.answer.specs.Lists.{at}
use Rattle.channel.specs.Layout.{positions, present, overflow, ltf_symbols, subfields, subfields_in, value, row_at, row, total, count, user_at, blocks}
use Rattle.channel.proofs.Laws.{place_1, place_2, present_1, absent_2, subfields_le, subfields_in_le, common_le}
use Rattle.channel.proofs.Laws.{total_cong, total_le, row_length, row_at_lem, position_subfield, end_le}
use Rattle.faults.specs.Checks.{too_long, cut_common, wrong_common, not_carried, cut_users, wrong_users}
use Rattle.faults.proofs.Passing.{too_long_pass, pass_too_long, pass_cut_common, pass_wrong_common, pass_overflow_differs}
use Rattle.faults.proofs.Passing.{pass_not_carried, pass_cut_users, pass_wrong_users}
use Rattle.stations.specs.Stations.{station_of, repeated, first_repeated, station_twice}
use Rattle.halves.specs.Table.{check1, check2, check3, check4, check5, check6, check9, check10, check11, outcome6}
use Rattle.halves.specs.Engine.{outcome9to11}
use Rattle.frame_words.specs.Words.{position_in}
use Rattle.frame_words.proofs.Determine.{value_1, value_2}
use Rattle.candidate.specs.Engine.{payload, sealed}
use Rattle.candidate.proofs.Contents.{Contents}
use Rattle.candidate.proofs.Built.{sealed_carries, sealed_length, sealed_small}
use Rattle.candidate.proofs.Held.{blank}
use Rattle.claims.specs.Rows.{CarriedRow, CarryRow}

-- a carried value has nine bits
nine_bits : (v : ℕ) → carried v ≡ true → v % 2 ^ 9 ≡ v
nine_bits v e = go (dec_lt v 304)
  where
    go : Dec (v < 304) → v % 2 ^ 9 ≡ v
    go (yes l) = mod-eq_of_lt (omega arith)
    go (no l) = absurd (false≢true (sym (carried_high v (omega arith)) ∙ e))

nil_small : Small []
nil_small = record { small = λ k. omega arith }

module _ (bw : ℕ) (r : List ℕ) where
  -- channel c's k-th value, and the User fields that its values give
  abbrev val : ℕ → ℕ → ℕ
  val c k = at r (position_in c k)

  abbrev fields : ℕ → ℕ
  fields c = total (λ k. fields_of (val c k)) (subfields_in bw c)

  -- in 257 bytes, which always suffice
  abbrev made : ℕ → List ℕ
  made c = sealed bw (fields c) (payload bw 0 (val c) (subfields bw) (λ i. 0) (fields c) (replicate 257 0))

  -- none where the bandwidth has no such channel
  abbrev pub carrying : ℕ → List ℕ
  carrying c = cond (present bw c) (made c) []

-- ---- one channel

module _ (bw : ℕ) (r : List ℕ) (w : CarriedRow bw r) (c : ℕ) (inside : (k : ℕ) → k < subfields_in bw c → position_in c k < positions bw) where
  abbrev s : List ℕ
  s = carrying bw r c

  abbrev n : ℕ
  n = fields bw r c

  n_le : n ≤ 72
  n_le =
      omega (arith, total_le (λ k. fields_of (val bw r c k)) 9 (subfields_in bw c) (λ k. fields_most (val bw r c k)), subfields_in_le bw c, subfields_le bw)

  made_length : length (made bw r c) ≡ 257
  made_length = sealed_length bw n 0 (val bw r c) (subfields bw) (λ i. 0) (replicate 257 0) ∙ length-replicate {A = ℕ} 257 0

  is_made : present bw c ≡ true → s ≡ made bw r c
  is_made p = rw p

  there_length : present bw c ≡ true → length s ≡ 257
  there_length p = ap length (is_made p) ∙ made_length

  away_length : present bw c ≡ false → length s ≡ 0
  away_length p = rw p

  s_short : length s ≤ 512
  s_short = go (present bw c) refl
    where
      go : (t : Bool) → present bw c ≡ t → length s ≤ 512
      go true p = omega (arith, there_length p)
      go false p = omega (arith, away_length p)

  pub carrying_small : Small s
  carrying_small = go (present bw c)
    where
      go : (t : Bool) → Small (cond t (made bw r c) [])
      go true = sealed_small bw n _
      go false = nil_small

  -- what the channel carries, where it is there
  carries : present bw c ≡ true → Contents bw (0 % 2 ^ 17) (λ k. val bw r c k % 2 ^ 9) n (λ i. 0 % 2 ^ 22) s
  carries p =
      rw p
      (sealed_carries bw 0 (val bw r c) n (λ i. 0) (replicate 257 0) (blank 257)
      (omega (arith, end_le bw n n_le, length-replicate {A = ℕ} 257 0)))

  -- only a channel that is there has subfields
  has_subfield : (k : ℕ) → k < subfields_in bw c → (present bw c ≡ true) × (k < subfields bw)
  unfolding subfields_in
  has_subfield k l = go (present bw c) l
    where
      go : (t : Bool) → k < cond t (subfields bw) 0 → (t ≡ true) × (k < subfields bw)
      go true m = (refl, m)
      go false m = absurd (omega arith)

  has_field : (i : ℕ) → i < n → present bw c ≡ true
  unfolding subfields_in total
  has_field i l = go (present bw c) l
    where
      go : (t : Bool) → i < total (λ k. fields_of (val bw r c k)) (cond t (subfields bw) 0) → t ≡ true
      go true m = refl
      go false m = absurd (omega arith)

  the_value : (k : ℕ) → k < subfields_in bw c → value bw s k ≡ val bw r c k
  the_value k l =
      let h = has_subfield k l in
      (carries h.0).the_value k h.1 ∙ nine_bits (val bw r c k) (w.each (position_in c k) (inside k l))

  the_count : count bw c s ≡ n
  unfolding count
  the_count = total_cong (λ k. fields_of (value bw s k)) (λ k. fields_of (val bw r c k)) (subfields_in bw c) (λ k l. ap fields_of (the_value k l))

  -- every STA-ID is 0
  no_station : (i : ℕ) → i < count bw c s → field s (user_at bw i) 11 ≡ 0
  no_station i l =
      let m : i < n = omega (arith, the_count) in
      let f : field s (user_at bw i) 22 ≡ 0 = (carries (has_field i m)).the_field i m in
      let e : user_at bw i + 0 ≡ user_at bw i = omega arith in
      let g = field_part s (user_at bw i) 22 0 11 (omega arith) in
      omega (arith, rw e at g)

  -- ---- its own checks
  pass_2 : too_long bw c s ≡ Ok tt
  pass_2 = pass_too_long bw c s s_short away_length

  pass_3 : cut_common bw c s ≡ Ok tt
  pass_3 = pass_cut_common bw c s (λ p. omega (arith, there_length p, common_le bw))

  pass_4 : wrong_common bw c s ≡ Ok tt
  pass_4 = pass_wrong_common bw c s (λ p. (carries p).common_right)

  pass_6 : not_carried bw c s ≡ Ok tt
  pass_6 = pass_not_carried bw c s (λ k l. ap carried (the_value k l) ∙ w.each (position_in c k) (inside k l))

  pass_9 : cut_users bw c s ≡ Ok tt
  pass_9 =
      pass_cut_users bw c s
      (λ h. let l : 0 < n = omega (arith, the_count) in rw the_count (omega (arith, there_length (has_field 0 l), end_le bw n n_le)))

  pass_10 : wrong_users bw c s ≡ Ok tt
  unfolding blocks
  pass_10 =
      pass_wrong_users bw c s
      (rw the_count (λ b l. (carries (has_field 0 (omega arith))).block_right b l))

-- ---- both

module _ (bw : ℕ) (r : List ℕ) (w : CarriedRow bw r) where
  abbrev a : List ℕ
  a = carrying bw r 1

  abbrev b : List ℕ
  b = carrying bw r 2

  inside_1 : (k : ℕ) → k < subfields_in bw 1 → position_in 1 k < positions bw
  inside_1 k l = omega (arith, place_1 bw k w.known l)

  inside_2 : (k : ℕ) → k < subfields_in bw 2 → position_in 2 k < positions bw
  inside_2 k l = omega (arith, place_2 bw k w.known l)

  -- the value at each position is the row's
  at_even : (k : ℕ) → k < subfields_in bw 1 → row_at bw a b (2 * k) ≡ at r (2 * k)
  at_even k l = value_1 bw a b k ∙ the_value bw r w 1 inside_1 k l ∙ ap (at r) (omega arith)

  at_odd : (k : ℕ) → k < subfields_in bw 2 → row_at bw a b (2 * k + 1) ≡ at r (2 * k + 1)
  at_odd k l = value_2 bw a b k ∙ the_value bw r w 2 inside_2 k l

  at_each : (p : ℕ) → p < positions bw → row_at bw a b p ≡ at r p
  at_each p l = go (ℕ_discrete (p % 2) 0) (position_subfield bw p w.known l)
    where
      go : Dec (p % 2 ≡ 0) → p / 2 < subfields_in bw (1 + p % 2) → row_at bw a b p ≡ at r p
      go (yes e) m =
          let f : 2 * (p / 2) ≡ p = omega arith in
          let g : 1 + p % 2 ≡ 1 = omega arith in
          rw f at (at_even (p / 2) (rw g at m))
      go (no e) m =
          let f : 2 * (p / 2) + 1 ≡ p = omega arith in
          let g : 1 + p % 2 ≡ 2 = omega arith in
          rw f at (at_odd (p / 2) (rw g at m))

  carried_row : row bw a b ≡ r
  carried_row =
      ext_get_or 0 (row bw a b) r (row_length bw a b ∙ sym w.as_many)
      (λ p l. let m : p < positions bw = omega (arith, row_length bw a b) in row_at_lem bw a b p m ∙ at_each p m)

  -- ---- 1 to 6
  no_overflow : (c : ℕ) → ((k : ℕ) → k < subfields_in bw c → position_in c k < positions bw) → present bw c ≡ true → overflow (carrying bw r c) ≡ 0
  no_overflow c i p = (carries bw r w c i p).the_overflow

  few : ltf_symbols a ≤ 4
  few =
      let e : overflow a ≡ 0 = no_overflow 1 inside_1 (present_1 bw) in
      omega (arith, field_part a 0 17 6 3 (omega arith))

  pub passes_common : outcome6 bw a b ≡ Ok tt
  unfolding outcome6 check1 check2 check3 check4 check5 check6
  passes_common =
      or_pass _ _
      (or_pass _ _
      (or_pass _ _
      (or_pass _ _
      (or_pass _ _
      (if_pass _ _ (le-ltb 4 bw w.known))
      (or_pass _ _ (pass_2 bw r w 1 inside_1) (pass_2 bw r w 2 inside_2)))
      (or_pass _ _ (pass_3 bw r w 1 inside_1) (pass_3 bw r w 2 inside_2)))
      (or_pass _ _ (pass_4 bw r w 1 inside_1) (pass_4 bw r w 2 inside_2)))
      (pass_overflow_differs bw a b
      (record { few_symbols = few; overflow_same = λ p. no_overflow 1 inside_1 (present_1 bw) ∙ sym (no_overflow 2 inside_2 p) })))
      (or_pass _ _ (pass_6 bw r w 1 inside_1) (pass_6 bw r w 2 inside_2))

  -- ---- 9 to 11
  stations : (j : ℕ) → j < count bw 1 a + count bw 2 b → station_of bw a b (count bw 1 a) j ≡ 0
  stations j l = go (dec_lt j (count bw 1 a))
    where
      go : Dec (j < count bw 1 a) → station_of bw a b (count bw 1 a) j ≡ 0
      go (yes m) = rw (lt-ltb j (count bw 1 a) m) (no_station bw r w 1 inside_1 j m)
      go (no m) = rw (le-ltb j (count bw 1 a) (omega arith)) (no_station bw r w 2 inside_2 (j - count bw 1 a) (omega arith))

  none_twice : (id : ℕ → ℕ) (j : ℕ) → id j ≡ 0 → repeated id j ≡ false
  none_twice id j e = rw e

  pub passes_users : outcome9to11 bw a b ≡ Ok tt
  unfolding outcome9to11 check9 check10 check11 station_twice first_repeated
  passes_users =
      let n = count bw 1 a in
      let m = count bw 2 b in
      or_pass _ _
      (or_pass _ _
      (or_pass _ _ (pass_9 bw r w 1 inside_1) (pass_9 bw r w 2 inside_2))
      (or_pass _ _ (pass_10 bw r w 1 inside_1) (pass_10 bw r w 2 inside_2)))
      (if_pass _ _
      (le-ltb _ (n + m)
      (omega (arith, least_none (repeated (station_of bw a b n)) (n + m) (λ j l. none_twice (station_of bw a b n) j (stations j l))))))

  carry : CarryRow bw r a b
  carry = record { the_row = carried_row; one_to_six = passes_common }

-- some channels, of bytes that can be lent, carry the row and pass 1 to 6; and 9 to 11 too, so that only the layout is in question
pub some_channels : (bw : ℕ) (r : List ℕ) → CarriedRow bw r
    → (a : List ℕ) × (b : List ℕ) × CarryRow bw r a b × Small a × Small b × (outcome9to11 bw a b ≡ Ok tt)
some_channels bw r w = (
  carrying bw r 1,
  carrying bw r 2,
  carry bw r w,
  carrying_small bw r w 1 (inside_1 bw r w),
  carrying_small bw r w 2 (inside_2 bw r w),
  passes_users bw r w,
)

-- "At 20 MHz channel 2 is lent empty": by 2
pub empty_at_20 : (r a b : List ℕ) → CarryRow 0 r a b → b ≡ []
unfolding outcome6 check2
empty_at_20 r a b h =
    let f = pass_left _ (check3 0 a b) (pass_left _ (check4 0 a b) (pass_left _ (check5 0 a b) (pass_left _ (check6 0 a b) h.one_to_six))) in
    let g = pass_right (too_long 0 1 a) (too_long 0 2 b) (pass_right (check1 0) _ f) in
    nothing b ((too_long_pass 0 2 b g).1 absent_2)
  where
    nothing : (s : List ℕ) → length s ≡ 0 → s ≡ []
    nothing [] e = refl
    nothing (x ∷ s) e = absurd (omega arith)
