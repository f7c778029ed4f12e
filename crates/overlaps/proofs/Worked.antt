-- The pairs that the engine works out are 02's: every pair of entries that share a subcarrier and are not of one resource, once, in rising order.
use mathlib.Core.Path.{◌≡◌}
use mathlib.Core.Logic.{◌⊎◌, inl, inr, ⊎_elim}
use mathlib.Core.Bool.{not, ◌&&◌}
use mathlib.Core.List.{List}
use Prim.Native.Nat.{ℕ, ◌+◌, ◌*◌, ◌/◌, ◌%◌, ◌≤◌, ◌<◌}
use native.Mathlib.Omega.{arith}
use lib.Bits.{bit_and}
use lib.Dec.{T, T_not, not_T, ltb, ltb→lt, lt→ltb, eqb, eqb→eq, eqb_refl}
use mir.Facts.{and_yes, yes_and}
use Rattle.answer.specs.Tally.{tally}
use Rattle.resource.proofs.Test.{below_or}
use Rattle.trigger_values.specs.UserInfo.{value_in}
use Rattle.trigger_values.specs.Values.{resource_of, taken}
use Rattle.overlaps.specs.Overlaps.{entries_in, info_at, entry_resource, Overlap, earlier, later}
use Rattle.masks.specs.Engine.{mask_of, meet, hit}
use Rattle.overlaps.specs.Engine.{mask_at}
use Rattle.overlaps.specs.Worked.{pair_count, pair_bytes, Worked}
use Rattle.overlaps.proofs.Cells.{meeting_share, share_meeting}
use Rattle.overlaps.proofs.Distinct.{same_mask, one_mask}
use Rattle.overlaps.proofs.Reported.{tally_past, two_each, Nth, nth, in_order, one_pair}

-- ---- masks meet exactly where the resources of the bandwidth's values overlap
module _ (bw v w : ℕ) (l : bw ≤ 2) (t : T (taken bw v)) (u : T (taken bw w)) where
  meets_overlap : T (meet (mask_of v) (mask_of w)) → Overlap bw (resource_of v) (resource_of w)
  unfolding meet
  meets_overlap h =
      let a = mask_of v in
      let b = mask_of w in
      let s = and_yes (not (eqb a b)) (not (eqb (bit_and a b) 0)) h in (
        λ e. T_not (eqb a b) s.0 (rw (one_mask bw v w t u e) (eqb_refl b)),
        meeting_share bw v w l t u (λ e. T_not (eqb (bit_and a b) 0) s.1 (rw e tt)),
      )

  overlap_meets : Overlap bw (resource_of v) (resource_of w) → T (meet (mask_of v) (mask_of w))
  unfolding meet
  overlap_meets (d, s) =
      let a = mask_of v in
      let b = mask_of w in
      yes_and (not (eqb a b)) (not (eqb (bit_and a b) 0))
      (not_T (eqb a b) (λ e. d (same_mask bw v w t u (eqb→eq a b e))))
      (not_T (eqb (bit_and a b) 0) (λ e. share_meeting bw v w l t u s (eqb→eq (bit_and a b) 0 e)))

-- ---- a pair that is hit
module _ (m : ℕ → ℕ) (n q : ℕ) where
  hit_says : T (hit m n q) → (q / 32 < q % 32) × (q % 32 < n) × T (meet (m (q / 32)) (m (q % 32)))
  unfolding hit
  hit_says h =
      let s = and_yes (ltb (q / 32) (q % 32) && ltb (q % 32) n) (meet (m (q / 32)) (m (q % 32))) h in
      let r = and_yes (ltb (q / 32) (q % 32)) (ltb (q % 32) n) s.0 in
      (ltb→lt (q / 32) (q % 32) r.0, ltb→lt (q % 32) n r.1, s.1)

  says_hit : q / 32 < q % 32 → q % 32 < n → T (meet (m (q / 32)) (m (q % 32))) → T (hit m n q)
  unfolding hit
  says_hit i j k =
      yes_and (ltb (q / 32) (q % 32) && ltb (q % 32) n) (meet (m (q / 32)) (m (q % 32)))
      (yes_and (ltb (q / 32) (q % 32)) (ltb (q % 32) n) (lt→ltb (q / 32) (q % 32) i) (lt→ltb (q % 32) n j)) k

-- ---- a list of entries that the bandwidth takes
module _ (bw : ℕ) (es : List ℕ) (l : bw ≤ 2) (few : entries_in es ≤ 32) (t : (i : ℕ) → i < entries_in es → T (taken bw (value_in (info_at es i)))) where
  pair : (k : ℕ) → k < pair_count es → Nth (mask_at es) (entries_in es) k (pair_bytes es)
  unfolding pair_count pair_bytes
  pair k h = nth (mask_at es) (entries_in es) (32 * entries_in es) k h

  overlap : (k : ℕ) → k < pair_count es
      → (i : ℕ) × (j : ℕ) × (earlier (pair_bytes es) k ≡ i + 1) × (later (pair_bytes es) k ≡ j + 1) × (i < j) × (j < entries_in es)
      × Overlap bw (entry_resource es i) (entry_resource es j)
  unfolding mask_at entry_resource
  overlap k h =
      let p = pair k h in
      let i = p.q / 32 in
      let j = p.q % 32 in
      let s = hit_says (mask_at es) (entries_in es) p.q p.is_hit in
      let o = meets_overlap bw (value_in (info_at es i)) (value_in (info_at es j)) l (t i (omega (arith, s.0, s.1))) (t j s.1) s.2 in
      (i, j, p.one, p.other, s.0, s.1, o)

  every : (i j : ℕ) → i < j → j < entries_in es → Overlap bw (entry_resource es i) (entry_resource es j)
      → (k : ℕ) × (k < pair_count es) × (earlier (pair_bytes es) k ≡ i + 1) × (later (pair_bytes es) k ≡ j + 1)
  unfolding mask_at entry_resource pair_count
  every i j h g o =
      let n = entries_in es in
      let f = hit (mask_at es) n in
      let q = 32 * i + j in
      let a : q / 32 ≡ i = omega arith in
      let b : q % 32 ≡ j = omega arith in
      let m : T (meet (mask_at es i) (mask_at es j))
      = overlap_meets bw (value_in (info_at es i)) (value_in (info_at es j)) l (t i (omega arith)) (t j g) o in
      let s : T (f q) = says_hit (mask_at es) n q (omega arith) (omega arith) (rw (a, b) m) in
      let k = tally_past f q (32 * n) s (omega arith) in
      let p = pair (tally f q) k in
      let e : p.q ≡ q = one_pair f p.q q p.is_hit s p.before in
      (tally f q, k, omega (arith, p.one, e), omega (arith, p.other, e))

  rising : (k m : ℕ) → k < m → m < pair_count es
      → (earlier (pair_bytes es) k < earlier (pair_bytes es) m)
      ⊎ ((earlier (pair_bytes es) k ≡ earlier (pair_bytes es) m) × (later (pair_bytes es) k < later (pair_bytes es) m))
  rising k m h g =
      let p = pair k (omega arith) in
      let r = pair m g in
      let i = in_order (hit (mask_at es) (entries_in es)) p.q r.q (omega (arith, p.before, r.before)) in
      ⊎_elim
      (λ (a : p.q / 32 < r.q / 32). inl (omega (arith, p.one, r.one)))
      (λ (a : r.q / 32 ≤ p.q / 32). inr (omega (arith, p.one, r.one), omega (arith, p.other, r.other)))
      (below_or (p.q / 32) (r.q / 32))

pub worked : (bw : ℕ) (es : List ℕ) → Worked bw es
unfolding pair_count pair_bytes
worked bw es = record {
  two_each = two_each (mask_at es) (entries_in es) (32 * entries_in es);
  reported = λ l few t. record { overlap = overlap bw es l few t; every = every bw es l few t; rising = rising bw es l few t };
}
