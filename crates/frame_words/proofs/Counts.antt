-- The User fields of a channel, counted by its own values and by the row's, are the same, and so is the position that gives one.
use mathlib.Core.Path.{◌≡◌, refl, sym, ◌∙◌, ap}
use mathlib.Core.List.{List}
use Prim.Native.Nat.{ℕ, ◌+◌, ◌-◌, ◌*◌, ◌/◌, ◌≤◌, ◌<◌}
use native.Mathlib.Omega.{arith}
use lib.ListN.{length}
use Rattle.resource.specs.Values.{fields_of}
use Rattle.answer.specs.Lists.{at}
use Rattle.channel.specs.Layout.{subfields_in, value, row, count}
use Rattle.channel.proofs.Counts.{by_channel, halves}
use Rattle.channel.proofs.Laws.{place_1, place_2, total_cong, row_length, row_even, row_odd}
use Rattle.records.specs.Owns.{fields_before, ComesFrom}
use Rattle.frame_words.specs.Words.{before, giver, position_in}
use Rattle.frame_words.proofs.Givers.{giver_is, before_next}

-- ---- one channel, of bytes s, whose values are the row's at its positions
module _ (bw c : ℕ) (r s : List ℕ) (o : 0 < c) (l : c < 3)
    (same : (k : ℕ) → k < subfields_in bw c → at r (2 * k + (c - 1)) ≡ value bw s k)
    (size : (length r + 2 - c) / 2 ≡ subfields_in bw c) where
  -- the fields of the row's first n positions are those before the value that comes next
  before_row : (n : ℕ) → (n + 2 - c) / 2 ≤ subfields_in bw c → fields_before c (at r) n ≡ before bw s ((n + 2 - c) / 2)
  before_row n m =
      by_channel c o l (λ p. fields_of (at r p)) (fields_before c (at r)) refl (λ n. refl) n
      ∙ total_cong (λ k. fields_of (at r (2 * k + (c - 1)))) (λ k. fields_of (value bw s k)) ((n + 2 - c) / 2)
      (λ k i. ap fields_of (same k (omega arith)))

  count_fields : fields_before c (at r) (length r) ≡ count bw c s
  unfolding count
  count_fields = before_row (length r) (omega arith) ∙ ap (before bw s) size

  -- the position that a field comes from is that of the value which gives it
  giver_position : (j p k : ℕ) → ComesFrom (at r) (length r) c j p k → position_in c (giver bw c s j) ≡ p
  giver_position j p k w =
      let i = w.inside in
      let q = w.channel in
      let m : p / 2 < subfields_in bw c = omega arith in
      let h : (p + 2 - c) / 2 ≡ p / 2 = omega arith in
      let d : 2 * (p / 2) + (c - 1) ≡ p = omega arith in
      let b : fields_before c (at r) p ≡ before bw s (p / 2) = before_row p (omega arith) ∙ ap (before bw s) h in
      let v : fields_of (at r p) ≡ fields_of (value bw s (p / 2)) = ap (λ (x : ℕ). fields_of (at r x)) (sym d) ∙ ap fields_of (same (p / 2) m) in
      let g : giver bw c s j ≡ p / 2 =
      giver_is bw c s (p / 2) m j (omega (arith, w.follows)) (omega (arith, w.follows, w.kth, before_next bw c s (p / 2) m)) in
      rw g (omega arith)

-- ---- both channels of a frame
module _ (bw : ℕ) (a b : List ℕ) (l : bw ≤ 4) where
  abbrev r : List ℕ
  r = row bw a b

  same_1 : (k : ℕ) → k < subfields_in bw 1 → at r (2 * k + (1 - 1)) ≡ value bw a k
  same_1 k m = ap (at r) (omega arith) ∙ row_even bw a b k (place_1 bw k l m)

  same_2 : (k : ℕ) → k < subfields_in bw 2 → at r (2 * k + (2 - 1)) ≡ value bw b k
  same_2 k m = row_odd bw a b k (place_2 bw k l m)

  sizes : ((length r + 2 - 1) / 2 ≡ subfields_in bw 1) × ((length r + 2 - 2) / 2 ≡ subfields_in bw 2)
  sizes = (omega (arith, row_length bw a b, (halves bw l).0), omega (arith, row_length bw a b, (halves bw l).1))

  -- each channel's fields by the row are its own count
  pub row_count_1 : fields_before 1 (at r) (length r) ≡ count bw 1 a
  row_count_1 = count_fields bw 1 r a (omega arith) (omega arith) same_1 sizes.0

  pub row_count_2 : fields_before 2 (at r) (length r) ≡ count bw 2 b
  row_count_2 = count_fields bw 2 r b (omega arith) (omega arith) same_2 sizes.1

  pub given_1 : (j p k : ℕ) → ComesFrom (at r) (length r) 1 j p k → position_in 1 (giver bw 1 a j) ≡ p
  given_1 = giver_position bw 1 r a (omega arith) (omega arith) same_1 sizes.0

  pub given_2 : (j p k : ℕ) → ComesFrom (at r) (length r) 2 j p k → position_in 2 (giver bw 2 b j) ≡ p
  given_2 = giver_position bw 2 r b (omega arith) (omega arith) same_2 sizes.1
