-- What each way through a comparison comes to.
use mathlib.Core.Path.{◌≡◌, ap}
use mathlib.Core.List.{List, [], ◌++◌, append-nil}
use Prim.Native.Nat.{ℕ, ◌≤◌, ◌<◌}
use native.Mathlib.Omega.{arith}
use borrow.Author.Tests.{lt-ltb, le-ltb, ne_eqb}
use lib.ListN.{length}
use Rattle.answer.specs.Answer.{no}
use Rattle.answer.specs.declared.Answer.{Answer}
use Rattle.answer.specs.Answer.{Outcome}
use Rattle.answer.specs.declared.Refusal.{Refusal}
use Rattle.answer.specs.Answer.{answer_of}
use Rattle.std.specs.Prelude.{Ok, Err}
use Rattle.text.specs.Text.{Wrote}
use Rattle.text.proofs.Laws.{dry, count, front}
use Rattle.halves.specs.Table.{outcome11}
use Rattle.compared.specs.Reading.{refused_with, reading_of}
use Rattle.compared.specs.Differences.{by, differences, comparison}
use Rattle.compared.specs.Text.{item_line, difference_line, difference_lines, comparison_text, room_outcome, text_answer, text_after}
use Rattle.compare.specs.Engine.{bandwidth_text, refusals_text}

-- ---- what is said instead of differences
module _ (bw : ℕ) (a b : List ℕ) (bw' : ℕ) (c d : List ℕ) where
  pub first_refused : (x : Refusal) (o : Outcome) → outcome11 bw a b ≡ Err x → outcome11 bw' c d ≡ o
      → refusals_text (answer_of x) o ≡ comparison_text bw a b bw' c d
  unfolding comparison_text comparison refusals_text difference_lines difference_line item_line
  first_refused x (Ok u) e f = rw (e, f)
  first_refused x (Err y) e f = rw (e, f, append-nil)

  pub second_refused : (y : Refusal) → outcome11 bw a b ≡ Ok tt → outcome11 bw' c d ≡ Err y
      → difference_line 0 (by 2 (refused_with (answer_of y))) ≡ comparison_text bw a b bw' c d
  unfolding comparison_text comparison difference_lines difference_line item_line
  second_refused y e f = rw (e, f, append-nil)

  pub bandwidths_differ : outcome11 bw a b ≡ Ok tt → outcome11 bw' c d ≡ Ok tt → (bw ≡ bw' → ⊥) → bandwidth_text bw bw' ≡ comparison_text bw a b bw' c d
  unfolding comparison_text comparison bandwidth_text differences reading_of difference_lines difference_line item_line
  bandwidths_differ e f n = rw (e, f, ne_eqb bw bw' n, append-nil)

-- ---- a text t in a lent buffer d
module _ (t d : List ℕ) where
  pub too_short : {e : List ℕ} {n : ℕ} → Wrote [] 0 t e n → length (e ++ d) < n → (no 23 0 n ≡ text_answer t (length d)) × (e ++ d ≡ text_after t d)
  unfolding text_answer text_after room_outcome
  too_short {e} {n} w h =
      let z : e ≡ [] = dry w in
      let h' : length d < n = rw z at h in
      let l : length d < length t = omega (arith, count w) in
      (rw (lt-ltb (length d) (length t) l) (ap (no 23 0) (count w)), rw (z, lt-ltb (length d) (length t) l))

  pub at_once : {f : List ℕ} {r : ℕ} → Wrote d 0 t f r → r ≤ length d → (no 0 0 r ≡ text_answer t (length d)) × (f ≡ text_after t d)
  unfolding text_answer text_after room_outcome
  at_once {f} {r} v h =
      let l : length t ≤ length d = omega (arith, count v) in
      (rw (le-ltb (length d) (length t) l) (ap (no 0 0) (count v)), rw (le-ltb (length d) (length t) l) (front l v))

  pub counted : {e f : List ℕ} {n r : ℕ} → Wrote [] 0 t e n → n ≤ length (e ++ d) → Wrote (e ++ d) 0 t f r
      → (no 0 0 r ≡ text_answer t (length d)) × (f ≡ text_after t d)
  counted {e} {f} {n} {r} w h v =
      let z : e ≡ [] = dry w in
      let h' : n ≤ length d = rw z at h in
      let v' : Wrote d 0 t f r = rw z at v in
      at_once v' (omega (arith, count w, count v'))
