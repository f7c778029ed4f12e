-- The plan's counts of a frame's row are its channels' own.
use mathlib.Core.Path.{◌≡◌, refl, sym, ◌∙◌, ap}
use mathlib.Core.List.{List}
use Prim.Native.Nat.{ℕ, ◌+◌, ◌-◌, ◌*◌, ◌/◌, ◌≤◌, ◌<◌}
use native.Mathlib.Omega.{arith}
use Rattle.resource.specs.Values.{fields_of}
use Rattle.answer.specs.Lists.{at}
use Rattle.kinds.specs.Fields.{fields_to}
use Rattle.channel.specs.Layout.{positions, row, total, count}
use Rattle.channel.proofs.Laws.{total_cong}
use Rattle.channel.proofs.Counts.{by_channel, count_even, count_odd}

by_positions : (c : ℕ) → 0 < c → c < 3 → (f : ℕ → ℕ) (n : ℕ) → fields_to c f n ≡ total (λ k. fields_of (f (2 * k + (c - 1)))) ((n + 2 - c) / 2)
by_positions c o l f = by_channel c o l (λ p. fields_of (f p)) (fields_to c f) refl (λ n. refl)

module _ (bw : ℕ) (a b : List ℕ) (l : bw ≤ 4) where
  pub count_1 : count bw 1 a ≡ fields_to 1 (at (row bw a b)) (positions bw)
  count_1 =
      let n : (positions bw + 1) / 2 ≡ (positions bw + 2 - 1) / 2 = omega arith in
      count_even bw a b l
      ∙ ap (total (λ k. fields_of (at (row bw a b) (2 * k)))) n
      ∙ total_cong (λ k. fields_of (at (row bw a b) (2 * k))) (λ k. fields_of (at (row bw a b) (2 * k + (1 - 1)))) ((positions bw + 2 - 1) / 2)
      (λ k m. ap (λ (p : ℕ). fields_of (at (row bw a b) p)) (omega arith))
      ∙ sym (by_positions 1 (omega arith) (omega arith) (at (row bw a b)) (positions bw))

  pub count_2 : count bw 2 b ≡ fields_to 2 (at (row bw a b)) (positions bw)
  count_2 =
      let n : positions bw / 2 ≡ (positions bw + 2 - 2) / 2 = omega arith in
      count_odd bw a b l
      ∙ ap (total (λ k. fields_of (at (row bw a b) (2 * k + 1)))) n
      ∙ sym (by_positions 2 (omega arith) (omega arith) (at (row bw a b)) (positions bw))
