-- A frame's row has the values of both its channels.
use mathlib.Core.Path.{◌≡◌, ◌∙◌, ap}
use mathlib.Core.List.{List}
use Prim.Native.Nat.{ℕ, ◌≤◌}
use native.Mathlib.Omega.{arith}
use lib.ListN.{length, get_or}
use Rattle.channel.specs.Layout.{positions, row}
use Rattle.channel.proofs.Laws.{positions_le, place_1, place_2, row_length, row_even, row_odd}
use Rattle.frame_words.specs.Engine.{Holds}

module _ (bw : ℕ) (a b : List ℕ) (l : bw ≤ 4) where
  long : length (row bw a b) ≡ positions bw
  long = row_length bw a b

  pub row_short : (r : List ℕ) → r ≡ row bw a b → length r ≤ 16
  row_short r e = rw (e, long) (positions_le bw l)

  pub holds_1 : (r : List ℕ) → r ≡ row bw a b → Holds bw 1 a r
  holds_1 r e =
      rw e
      (record {
        inside = λ k m. omega (arith, place_1 bw k l m, long);
        holds = λ k m. ap (λ (p : ℕ). get_or (row bw a b) p 0) (omega arith) ∙ row_even bw a b k (place_1 bw k l m);
      })

  pub holds_2 : (r : List ℕ) → r ≡ row bw a b → Holds bw 2 b r
  holds_2 r e =
      rw e
      (record {
        inside = λ k m. omega (arith, place_2 bw k l m, long);
        holds = λ k m. ap (λ (p : ℕ). get_or (row bw a b) p 0) (omega arith) ∙ row_odd bw a b k (place_2 bw k l m);
      })
