-- A text in a lent buffer, accepted or 23; and no text without a line.
use mathlib.Core.Path.{◌≡◌, refl}
use mathlib.Core.Bool.{true}
use mathlib.Core.List.{List, [], ◌∷◌}
use Prim.Native.Nat.{ℕ, ◌≤◌}
use native.Mathlib.Omega.{arith}
use lib.Dec.{ltb}
use lib.ListN.{length, take, drop}
use lib.Seq.{take-append_seam, drop-append_seam}
use borrow.Author.Tests.{le-ltb}
use Rattle.answer.specs.Answer.{no}
use Rattle.answer.specs.Order.{first_of, Judged}
use Rattle.std.specs.Prelude.{Ok}
use Rattle.answer.proofs.Numbers.{Gives, none, more, only_if, distinct, absent, judged, zero_pass}
use Rattle.answer.proofs.Order.{or_end, after_kept}
use Rattle.answer.specs.declared.Refusal.TheVariants.{BufferTooShort}
use Rattle.compared.specs.Differences.{Difference}
use Rattle.compared.specs.Text.{side_text, difference_line, difference_lines, room_outcome, text_answer, text_after}

-- ---- the text t and room for n bytes
module _ (t : List ℕ) (n : ℕ) where
  one_row : first_of (room_outcome (length t) n ∷ []) ≡ room_outcome (length t) n
  unfolding first_of
  one_row = or_end (room_outcome (length t) n)

  only_23 : Gives (23 ∷ []) (room_outcome (length t) n ∷ [])
  unfolding room_outcome
  only_23 = more (only_if (ltb n (length t)) (BufferTooShort (length t))) none

  numbers_distinct : distinct (0 ∷ 23 ∷ []) ≡ true
  unfolding distinct absent
  numbers_distinct = refl

  pub text_judged : Judged (23 ∷ []) (room_outcome (length t) n ∷ []) (length t) (text_answer t n)
  unfolding text_answer
  text_judged = rw one_row at (judged only_23 numbers_distinct (length t))

  pub accepted_room : (text_answer t n).number ≡ 0 → room_outcome (length t) n ≡ Ok tt
  unfolding text_answer
  accepted_room = rw one_row at (zero_pass only_23 numbers_distinct (length t))

  pub room_enough : length t ≤ n → text_answer t n ≡ no 0 0 (length t)
  unfolding text_answer room_outcome
  room_enough l = rw (le-ltb n (length t) l)

-- ---- the text t and the lent buffer d
module _ (t d : List ℕ) where
  pub text_kept : ((text_answer t (length d)).number ≡ 0 → ⊥) → text_after t d ≡ d
  unfolding text_answer text_after
  text_kept h = after_kept (room_outcome (length t) (length d)) (length t) _ d h

  module _ (z : (text_answer t (length d)).number ≡ 0) where
    pub text_there : take (text_answer t (length d)).place (text_after t d) ≡ t
    unfolding text_answer text_after
    text_there = rw (accepted_room t (length d) z) (take-append_seam t (drop (length t) d))

    pub past_there : drop (text_answer t (length d)).place (text_after t d) ≡ drop (text_answer t (length d)).place d
    unfolding text_answer text_after
    past_there = rw (accepted_room t (length d) z) (drop-append_seam t (drop (length t) d))

-- ---- every difference has its line
pub no_bytes : (n : ℕ) (ds : List Difference) → length (difference_lines n ds) ≡ 0 → ds ≡ []
unfolding difference_lines difference_line side_text
no_bytes n [] e = refl
no_bytes n (d ∷ ds) e = absurd (omega arith)
