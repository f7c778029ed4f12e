-- All values of a frame's row are carried exactly where both channels pass 6.
use mathlib.Core.Path.{◌≡◌, sym, ◌∙◌, ap}
use mathlib.Core.Bool.{true}
use mathlib.Core.List.{List}
use Prim.Native.Nat.{ℕ, ◌+◌, ◌*◌, ◌/◌, ◌%◌, ◌≤◌, ◌<◌}
use native.Mathlib.Decide.{ℕ_discrete}
use native.Mathlib.Omega.{arith}
use lib.ListN.{length, replicate}
use Rattle.answer.proofs.Every.{every_at, all_every}
use Rattle.answer.proofs.Order.{pass_left, pass_right, or_pass}
use Rattle.std.specs.Prelude.{Ok}
use Rattle.resource.specs.Values.{carried}
use Rattle.answer.specs.Lists.{at}
use Rattle.answer.proofs.Lists.{get_d_filled}
use Rattle.channel.specs.Layout.{positions, subfields_in, row_at, row, row_in16}
use Rattle.channel.proofs.Laws.{place_1, place_2, positions_le, row_length, row_at_lem, row_even, row_odd, position_subfield}
use Rattle.faults.specs.Checks.{not_carried}
use Rattle.faults.proofs.Passing.{not_carried_pass, pass_not_carried}
use Rattle.halves.specs.Table.{check6}
use Rattle.halves.specs.Engine.{all_carried}
use Rattle.halves.proofs.Rows.{sixteen}

module _ (bw : ℕ) (a b : List ℕ) (l : bw ≤ 4) where
  -- each channel's values are the row's
  pub carried_passes : all_carried (row bw a b) ≡ true → check6 bw a b ≡ Ok tt
  unfolding all_carried check6
  carried_passes e =
      let h : (p : ℕ) → p < positions bw → carried (at (row bw a b) p) ≡ true =
      λ p m. every_at (λ p. carried (at (row bw a b) p)) (length (row bw a b)) e p (omega (arith, row_length bw a b)) in
      or_pass _ _
      (pass_not_carried bw 1 a (λ k m. ap carried (sym (row_even bw a b k (place_1 bw k l m))) ∙ h (2 * k) (place_1 bw k l m)))
      (pass_not_carried bw 2 b (λ k m. ap carried (sym (row_odd bw a b k (place_2 bw k l m))) ∙ h (2 * k + 1) (place_2 bw k l m)))

  -- what stands past the row does not matter
  pub sixteen_passes : all_carried (row_in16 bw a b) ≡ true → check6 bw a b ≡ Ok tt
  unfolding all_carried
  sixteen_passes e =
      carried_passes
      (all_every (λ p. carried (at (row bw a b) p)) (length (row bw a b))
      (λ p m.
      let n : p < positions bw = omega (arith, row_length bw a b) in
      let f : at (row bw a b) p ≡ at (row_in16 bw a b) p =
      row_at_lem bw a b p n ∙ sym (unfold row_in16 in get_d_filled (row_at bw a b) (positions bw) (replicate 16 0) p 0 n) in
      ap carried f
      ∙ every_at (λ p. carried (at (row_in16 bw a b) p)) (length (row_in16 bw a b)) e p (omega (arith, positions_le bw l, sixteen bw a b l))))

  -- and the row's values are the channels'
  pub passes_carried : check6 bw a b ≡ Ok tt → all_carried (row bw a b) ≡ true
  unfolding all_carried check6
  passes_carried e = all_every (λ p. carried (at (row bw a b) p)) (length (row bw a b)) (λ p m. at_position p (omega (arith, row_length bw a b)))
    where
      even : (k : ℕ) → k < subfields_in bw 1 → carried (at (row bw a b) (2 * k)) ≡ true
      even k m = ap carried (row_even bw a b k (place_1 bw k l m)) ∙ not_carried_pass bw 1 a (pass_left (not_carried bw 1 a) (not_carried bw 2 b) e) k m

      odd : (k : ℕ) → k < subfields_in bw 2 → carried (at (row bw a b) (2 * k + 1)) ≡ true
      odd k m = ap carried (row_odd bw a b k (place_2 bw k l m)) ∙ not_carried_pass bw 2 b (pass_right (not_carried bw 1 a) (not_carried bw 2 b) e) k m

      at_position : (p : ℕ) → p < positions bw → carried (at (row bw a b) p) ≡ true
      at_position p m = go (ℕ_discrete (p % 2) 0) (position_subfield bw p l m)
        where
          go : Dec (p % 2 ≡ 0) → p / 2 < subfields_in bw (1 + p % 2) → carried (at (row bw a b) p) ≡ true
          go (yes z) s =
              let i : 2 * (p / 2) ≡ p = omega arith in
              ap (λ (q : ℕ). carried (at (row bw a b) q)) (sym i) ∙ even (p / 2) (rw z at s)
          go (no z) s =
              let i : 2 * (p / 2) + 1 ≡ p = omega arith in
              let o : p % 2 ≡ 1 = omega arith in
              ap (λ (q : ℕ). carried (at (row bw a b) q)) (sym i) ∙ odd (p / 2) (rw o at s)
