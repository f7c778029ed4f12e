-- How long the candidate is, what it carries, and that it is zero past its end.
use mathlib.Core.Path.{◌≡◌, refl, ◌∙◌}
use mathlib.Core.Bool.{Bool, true, false, cond}
use mathlib.Core.List.{List}
use Prim.Native.Nat.{ℕ, zero, suc, ◌*◌, ◌/◌, ◌%◌, ◌^◌, ◌≤◌}
use native.Mathlib.Nat.{zero-div}
use native.Mathlib.Omega.{arith}
use lib.Dec.{ltb}
use lib.ListN.{length, get_or, replicate, length-replicate}
use borrow.Author.Tests.{ltb-true, ltb-false}
use Rattle.bits.specs.Bits.{bit}
use Rattle.resource.specs.Values.{fields_of}
use Rattle.resource.proofs.Fields.{fields_most}
use Rattle.channel.specs.Layout.{present, subfields, subfields_in, end_of}
use Rattle.channel.proofs.Laws.{present_1, subfields_le, subfields_in_le, total_le, end_le}
use Rattle.candidate.specs.Engine.{overflow_in, value_in, count_in, field_in, needed, bytes_in, channel_in, candidate}
use Rattle.candidate.specs.Length.{longer, bytes_for}
use Rattle.candidate.proofs.Contents.{Contents}
use Rattle.candidate.proofs.Built.{sealed_carries, sealed_zero, sealed_length}

-- ---- lengths

pub count_in_le : (bw : ℕ) (w : List ℕ) (c : ℕ) → count_in bw w c ≤ 72
unfolding count_in
count_in_le bw w c =
    omega (arith, total_le (λ k. fields_of (value_in w c k)) 9 (subfields_in bw c) (λ k. fields_most (value_in w c k)), subfields_in_le bw c, subfields_le bw)

pub larger_ge : (x y : ℕ) → (x ≤ longer x y) × (y ≤ longer x y)
unfolding longer
larger_ge x y = go (ltb x y) refl
  where
    go : (t : Bool) → ltb x y ≡ t → (x ≤ cond t y x) × (y ≤ cond t y x)
    go true e = (omega (arith, ltb-true x y e), omega arith)
    go false e = (omega arith, omega (arith, ltb-false x y e))

larger_le : (x y z : ℕ) → x ≤ z → y ≤ z → longer x y ≤ z
unfolding longer
larger_le x y z p q = go (ltb x y)
  where
    go : (t : Bool) → cond t y x ≤ z
    go true = q
    go false = p

pub bytes_for_le : (bw n m : ℕ) → n ≤ 72 → m ≤ 72 → bytes_for bw n m ≤ 257
unfolding bytes_for
bytes_for_le bw n m p q = omega (arith, larger_le (end_of bw n) (end_of bw m) 2053 (end_le bw n p) (end_le bw m q))

pub needed_le : (bw : ℕ) (w : List ℕ) → needed bw w ≤ 257
unfolding needed
needed_le bw w = bytes_for_le bw (count_in bw w 1) (count_in bw w 2) (count_in_le bw w 1) (count_in_le bw w 2)

pub needed_1 : (bw : ℕ) (w : List ℕ) → end_of bw (count_in bw w 1) ≤ 8 * needed bw w
unfolding needed bytes_for
needed_1 bw w = omega (arith, (larger_ge (end_of bw (count_in bw w 1)) (end_of bw (count_in bw w 2))).0)

pub needed_2 : (bw : ℕ) (w : List ℕ) → end_of bw (count_in bw w 2) ≤ 8 * needed bw w
unfolding needed bytes_for
needed_2 bw w = omega (arith, (larger_ge (end_of bw (count_in bw w 1)) (end_of bw (count_in bw w 2))).1)

pub candidate_length : (bw : ℕ) (w : List ℕ) (c : ℕ) → length (candidate bw w c) ≡ bytes_in bw w c
unfolding candidate channel_in
candidate_length bw w c =
    sealed_length bw (count_in bw w c) (overflow_in w) (value_in w c) (subfields_in bw c) (field_in bw w c) (replicate (bytes_in bw w c) 0)
    ∙ length-replicate {A = ℕ} (bytes_in bw w c) 0

pub present_length : (bw : ℕ) (w : List ℕ) (c : ℕ) → present bw c ≡ true → length (candidate bw w c) ≡ needed bw w
unfolding bytes_in
present_length bw w c p = candidate_length bw w c ∙ rw p

pub absent_length : (bw : ℕ) (w : List ℕ) (c : ℕ) → present bw c ≡ false → length (candidate bw w c) ≡ 0
unfolding bytes_in
absent_length bw w c p = candidate_length bw w c ∙ rw p

-- ---- what the candidate carries

zeros_at : (n k : ℕ) → get_or (replicate {A = ℕ} n 0) k 0 ≡ 0
zeros_at zero k = refl
zeros_at (suc n) zero = refl
zeros_at (suc n) (suc k) = zeros_at n k

-- zeros have no bit set
pub blank : (n i : ℕ) → bit (replicate n 0) i ≡ 0
unfolding bit
blank n i = rw (zeros_at n (i / 8), zero-div (2 ^ (i % 8)))

-- its own channel's end is reached
pub record Holds (bw : ℕ) (w : List ℕ) (c : ℕ) : Type 0 where
  pub there : present bw c ≡ true
  pub enough : end_of bw (count_in bw w c) ≤ 8 * needed bw w

abbrev pub ContentsSaid : ℕ → List ℕ → ℕ → List ℕ → Type 0
ContentsSaid bw w c s =
    Contents bw (overflow_in w % 2 ^ 17) (λ k. value_in w c k % 2 ^ 9) (count_in bw w c) (λ i. field_in bw w c i % 2 ^ 22) s

module _ (bw : ℕ) (w : List ℕ) (c : ℕ) (h : Holds bw w c) where
  reached : end_of bw (count_in bw w c) ≤ 8 * length (replicate {A = ℕ} (bytes_in bw w c) 0)
  unfolding bytes_in
  reached = rw (length-replicate {A = ℕ} (bytes_in bw w c) 0, h.there) h.enough

  pub all_subfields : subfields_in bw c ≡ subfields bw
  unfolding subfields_in
  all_subfields = rw h.there

  pub candidate_carries : ContentsSaid bw w c (candidate bw w c)
  unfolding candidate channel_in
  candidate_carries =
      rw all_subfields
      (sealed_carries bw (overflow_in w) (value_in w c) (count_in bw w c) (field_in bw w c) (replicate (bytes_in bw w c) 0)
      (blank (bytes_in bw w c)) reached)

  pub candidate_zero : (i : ℕ) → end_of bw (count_in bw w c) ≤ i → bit (candidate bw w c) i ≡ 0
  unfolding candidate channel_in
  candidate_zero =
      rw all_subfields
      (sealed_zero bw (overflow_in w) (value_in w c) (count_in bw w c) (field_in bw w c) (replicate (bytes_in bw w c) 0)
      (blank (bytes_in bw w c)) reached)

pub holds_1 : (bw : ℕ) (w : List ℕ) → Holds bw w 1
holds_1 bw w = record { there = present_1 bw; enough = needed_1 bw w }

pub holds_2 : (bw : ℕ) (w : List ℕ) → present bw 2 ≡ true → Holds bw w 2
holds_2 bw w p = record { there = p; enough = needed_2 bw w }
