-- The channel that is built, part by part: each is the number that the code joins to what it has.
use mathlib.Core.Path.{◌≡◌, refl, sym, ◌∙◌, ap}
use mathlib.Core.Bool.{Bool, true, false, cond}
use mathlib.Core.List.{List}
use Prim.Native.Nat.{ℕ, ◌+◌, ◌-◌, ◌*◌, ◌/◌, ◌%◌, ◌^◌, ◌≤◌, ◌<◌}
use native.Mathlib.Decide.{ℕ_discrete}
use native.Mathlib.Omega.{arith}
use lib.Dec.{ltb}
use lib.ListN.{length}
use borrow.Author.Tests.{lt-ltb, le-ltb, ne_eqb}
use Rattle.answer.specs.Lists.{at}
use Rattle.bits.specs.Bits.{field, Small}
use Rattle.bits.proofs.Windows.{field_low, field_rest}
use Rattle.channel.specs.Layout.{firsts, seconds, first_bits, second_at, second_bits, has_second, common, subfields, subfields_in, user_at, block_at}
use Rattle.channel.specs.Layout.{blocks, covered, end_of}
use Rattle.channel.proofs.Laws.{common_ge}
use Rattle.channel.proofs.Blocks.{user_even}
use Rattle.frame_words.specs.Words.{position_in}
use Rattle.candidate.specs.Engine.{gathered, first_of, second_of, sealed_of, second_part, first_part_in, second_part_in, Made, Lent, FieldsIn}
use Rattle.candidate.specs.Engine.{overflow_in, value_in, count_in, needed}
use Rattle.candidate.specs.Engine.{channel_in, candidate}
use Rattle.candidate.proofs.Built.{sealed_small}
use Rattle.candidate.proofs.Held.{needed_1, needed_2, present_length, Holds, all_subfields, candidate_carries, candidate_zero}
use Rattle.candidate.proofs.Joined.{sealed_number, pair_field}
use Rattle.candidate.proofs.Numbers.{gathered_cong}
use Rattle.candidate.proofs.Said.{said_field, first_part, second_part_lem}

pub candidate_small : (bw : ℕ) (w : List ℕ) (c : ℕ) → Small (candidate bw w c)
unfolding candidate channel_in
candidate_small bw w c = sealed_small bw (count_in bw w c) _

-- the last block's, of one field
last_covered : (n : ℕ) → n % 2 ≡ 1 → covered n (n / 2) ≡ 22
unfolding covered
last_covered n m = rw (le-ltb (2 * (n / 2) + 1) n (omega arith))

-- the first part's bits
pub first_width : (bw : ℕ) → (second_at bw ≡ first_bits bw + 10) × (26 ≤ first_bits bw) × (first_bits bw ≤ 35)
unfolding second_at first_bits firsts
first_width bw = go (ltb bw 2)
  where
    go : (t : Bool) → (17 + 9 * cond t 1 2 + 10 ≡ 17 + 9 * cond t 1 2 + 10) × (26 ≤ 17 + 9 * cond t 1 2) × (17 + 9 * cond t 1 2 ≤ 35)
    go true = (refl, omega arith, omega arith)
    go false = (refl, omega arith, omega arith)

module _ (bw : ℕ) (w row : List ℕ) (c : ℕ) (l : Lent bw w row c) where
  abbrev s : List ℕ
  s = candidate bw w c

  pub the_holds : Holds bw w c
  the_holds = record { there = l.there; enough = go (ℕ_discrete c 1) }
    where
      one : (c : ℕ) → c ≡ 1 → end_of bw (count_in bw w c) ≤ 8 * needed bw w
      one c e = rw e (needed_1 bw w)

      two : (c : ℕ) → c ≡ 2 → end_of bw (count_in bw w c) ≤ 8 * needed bw w
      two c e = rw e (needed_2 bw w)

      go : Dec (c ≡ 1) → end_of bw (count_in bw w c) ≤ 8 * needed bw w
      go (yes e) = one c e
      go (no e) = two c (omega (arith, l.first_or_second))

  -- its bytes reach its end
  pub reach : end_of bw (count_in bw w c) ≤ 8 * length s
  reach = omega (arith, the_holds.enough, present_length bw w c l.there)

  -- the numbers by the row
  on_row : (k : ℕ) → k < subfields bw → at row (position_in c k) ≡ value_in w c k
  on_row k m = (l.the_row k (rw (all_subfields bw w c the_holds) m)).1

  -- the numbers that the code makes of it
  pub first_on : (v x : ℕ) → v ≡ overflow_in w → x ≡ sealed_of (first_of bw v (λ k. at row (position_in c k))) (first_bits bw) → x ≡ first_part_in bw w c
  unfolding first_of first_part_in
  first_on v x e f =
      f
      ∙ ap (λ (o : ℕ). sealed_of (o % 2 ^ 17 + gathered (λ k. at row (position_in c k)) (firsts bw) * 2 ^ 17) (first_bits bw)) e
      ∙ ap (λ (g : ℕ). sealed_of (overflow_in w % 2 ^ 17 + g * 2 ^ 17) (first_bits bw))
      (gathered_cong (λ k. at row (position_in c k)) (value_in w c) (firsts bw) (λ k m. on_row k (unfold subfields in omega arith)))

  pub second_on : (y : ℕ) → y ≡ second_part bw (λ k. at row (position_in c k)) → y ≡ second_part_in bw w c
  unfolding second_of second_part second_part_in
  second_on y e =
      e
      ∙ ap (λ (g : ℕ). cond (has_second bw) (sealed_of g (second_bits bw)) 0)
      (gathered_cong (λ k. at row (position_in c (firsts bw + k))) (λ k. value_in w c (firsts bw + k)) (seconds bw)
      (λ k m. on_row (firsts bw + k) (unfold subfields in omega arith)))

  -- the row is long enough for them
  pub row_room : 2 * subfields bw + c ≤ length row + 2
  unfolding subfields firsts
  row_room =
      let m : subfields bw - 1 < subfields_in bw c = rw (all_subfields bw w c the_holds) (unfold subfields firsts in last (ltb bw 2)) in
      omega (arith, (l.the_row (subfields bw - 1) m).0, l.first_or_second)
    where
      last : (t : Bool) → cond t 1 2 + seconds bw - 1 < cond t 1 2 + seconds bw
      last true = omega arith
      last false = omega arith

  pub row_firsts : 2 * firsts bw + c ≤ length row + 2
  unfolding subfields
  row_firsts = omega (arith, row_room)

  -- ---- the parts

  pub first_field : field s 0 (second_at bw) ≡ sealed_of (first_of bw (overflow_in w) (value_in w c)) (first_bits bw)
  unfolding second_at
  first_field =
      sealed_number s 0 (first_bits bw) _ (candidate_carries bw w c the_holds).common_right.first_right (first_part bw w c the_holds)

  pub second_field : has_second bw ≡ true → field s (second_at bw) (second_bits bw + 10) ≡ sealed_of (second_of bw (value_in w c)) (second_bits bw)
  second_field e =
      sealed_number s (second_at bw) (second_bits bw) _ ((candidate_carries bw w c the_holds).common_right.second_right e) (second_part_lem bw w c the_holds)

  module _ (f : List ℕ) (u : FieldsIn bw w c f) where
    field_at : (i : ℕ) → i < length f → field s (user_at bw i) 22 ≡ at f i
    field_at i m = said_field bw w c the_holds i (omega (arith, u.counted)) ∙ sym (u.each i m)

    pair_block : (b : ℕ) → 2 * b + 1 < length f → field s (block_at bw b) 54 ≡ sealed_of (at f (2 * b) + at f (2 * b + 1) * 2 ^ 22) 44
    pair_block b m =
        let e : covered (length f) b ≡ 44 = unfold covered in rw (lt-ltb (2 * b + 1) (length f) m) in
        let r = (candidate_carries bw w c the_holds).block_right b (unfold blocks in omega (arith, u.counted)) in
        sealed_number s (block_at bw b) 44 _ (rw (← u.counted, e) at r) (pair_field s bw b _ _ (field_at (2 * b) (omega arith)) (field_at (2 * b + 1) m))

    last_block : length f % 2 ≡ 1 → field s (block_at bw (length f / 2)) 32 ≡ sealed_of (at f (length f - 1)) 22
    unfolding block_at
    last_block m =
        let b = length f / 2 in
        let e = last_covered (length f) m in
        let r = (candidate_carries bw w c the_holds).block_right b (unfold blocks in omega (arith, u.counted)) in
        let z : 2 * b ≡ length f - 1 = omega arith in
        sealed_number s (common bw + 54 * b) 22 _ (rw (← u.counted, e) at r)
        ((rw (user_even bw b) at (field_at (2 * b) (omega arith))) ∙ ap (at f) z)

    -- whoever has its numbers has all of the channel
    pub candidate_made : (x y : ℕ) → x ≡ first_part_in bw w c → y ≡ second_part_in bw w c → Made bw x y f (candidate bw w c)
    unfolding second_part first_part_in second_part_in
    candidate_made x y ex ey = record {
      the_first = first_field ∙ sym ex;
      the_second = λ e. second_field e ∙ sym (ey ∙ rw e);
      the_blocks = record { pairs = pair_block; last = last_block };
      past = λ i o. candidate_zero bw w c the_holds i (omega (arith, ap (end_of bw) u.counted));
      bytes = candidate_small bw w c;
    }

-- ---- where the blocks stand

pub block_0 : (bw : ℕ) → block_at bw 0 ≡ common bw
unfolding block_at
block_0 bw = omega arith

pub block_next : (bw b : ℕ) → block_at bw b + 54 ≡ block_at bw (b + 1)
unfolding block_at
block_next bw b = omega arith

-- their bits are there where n fields' are
pub pair_reach : (bw n b : ℕ) → 2 * b + 1 < n → (10 ≤ block_at bw b) × (block_at bw b + 54 ≤ end_of bw n)
unfolding block_at end_of
pair_reach bw n b m = (omega (arith, common_ge bw), omega arith)

pub end_even : (bw n : ℕ) → n % 2 ≡ 0 → block_at bw (n / 2) ≡ end_of bw n
unfolding block_at end_of
end_even bw n e = omega arith

pub end_odd : (bw n : ℕ) → n % 2 ≡ 1 → block_at bw (n / 2) + 32 ≡ end_of bw n
unfolding block_at end_of
end_odd bw n e = omega arith

-- ---- the second part, by the bandwidth

pub before_common : (bw : ℕ) → second_at bw ≤ common bw
unfolding common
before_common bw = omega arith

pub second_160 : (bw : ℕ) → bw ≡ 3 → (second_bits bw ≡ 18) × (has_second bw ≡ true) × (second_at bw ≡ 45) × (common bw ≡ 73)
unfolding second_bits has_second seconds second_at first_bits firsts common
second_160 bw e = rw e (refl, refl, refl, refl)

pub second_320 : (bw : ℕ) → bw ≡ 4 → (second_bits bw ≡ 54) × (has_second bw ≡ true) × (second_at bw ≡ 45) × (common bw ≡ 109)
unfolding second_bits has_second seconds second_at first_bits firsts common
second_320 bw e = rw e (refl, refl, refl, refl)

pub no_second : (bw : ℕ) → (bw ≡ 3 → ⊥) → (bw ≡ 4 → ⊥) → second_at bw ≡ common bw
unfolding has_second seconds common
no_second bw p q = rw (ne_eqb bw 3 p, ne_eqb bw 4 q) (omega arith)

-- at 320 MHz in two halves
pub low_320 : (s : List ℕ) (x : ℕ) → field s 45 64 ≡ x → field s 45 32 ≡ x % 2 ^ 32
low_320 s x e = sym (field_low s 45 64 32 (omega arith)) ∙ ap (λ (y : ℕ). y % 2 ^ 32) e

pub high_320 : (s : List ℕ) (x : ℕ) → field s 45 64 ≡ x → field s 77 32 ≡ x / 2 ^ 32
high_320 s x e = sym (field_rest s 45 64 32 (omega arith)) ∙ ap (λ (y : ℕ). y / 2 ^ 32) e
