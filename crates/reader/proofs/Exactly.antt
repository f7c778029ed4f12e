-- "given exactly when (nothing earlier applies)": each number of the reader's table, with its channel and place.
use mathlib.Core.Path.{◌≡◌, refl}
use mathlib.Core.Bool.{true}
use mathlib.Core.List.{List, ◌∷◌}
use Prim.Native.Nat.{ℕ, ◌<◌}
use lib.Dec.{ltb}
use lib.ListN.{get_or}
use Rattle.answer.specs.Order.{Applies, Judged, Answers}
use Rattle.answer.specs.declared.Answer.{Answer}
use Rattle.std.specs.Prelude.{Ok}
use Rattle.answer.proofs.Numbers.{Only, only_if, Gives, none, more, distinct, absent, zero_pass, number_applies, applies_number, judged}
use Rattle.answer.specs.declared.Refusal.TheVariants.{TooFewWords}
use Rattle.answer.specs.declared.Refusal.{Refusal}
use Rattle.answer.specs.Answer.{answer_of}
use Rattle.halves.proofs.Exactly.{checks11_then}
use Rattle.frame_words.specs.Words.{word_count}
use Rattle.reader.specs.Table.{no_room, check12, read_checks, read_outcome, read_numbers}
use Rattle.reader.specs.Result.{read_answer}

module _ (bw : ℕ) (a b : List ℕ) where
  only_12 : (room : ℕ) → Only 12 (check12 bw a b room)
  unfolding check12 no_room
  only_12 room = only_if (ltb room (word_count bw a b)) (TooFewWords (word_count bw a b))

  pub table_gives : (room : ℕ) → Gives read_numbers (read_checks bw a b room)
  table_gives room = checks11_then bw a b (more (only_12 room) none)

  numbers_distinct : distinct (0 ∷ read_numbers) ≡ true
  unfolding distinct absent
  numbers_distinct = refl

  -- the answer has number 0 exactly when no check of the table applies ..
  pub accepted_exactly : (room : ℕ) → (read_answer bw a b room).number ≡ 0 → read_outcome bw a b room ≡ Ok tt
  unfolding read_answer read_outcome
  accepted_exactly room = zero_pass (table_gives room) numbers_distinct (word_count bw a b)

  -- .. and number k + 1 exactly when check k + 1 does and none before it; the channel and place are then that check's
  pub refused_exactly : (room k : ℕ) → k < 12 → (read_answer bw a b room).number ≡ get_or read_numbers k 0
      → Answers (read_checks bw a b room) k (read_answer bw a b room)
  unfolding read_answer read_outcome
  refused_exactly room k l = number_applies (table_gives room) numbers_distinct (word_count bw a b) k l

  pub applies_exactly : (room k : ℕ) (x : Refusal) → Applies (read_checks bw a b room) k x
      → (read_answer bw a b room ≡ answer_of x) × ((answer_of x).number ≡ get_or read_numbers k 0)
  unfolding read_answer read_outcome
  applies_exactly room k x = applies_number (table_gives room) numbers_distinct (word_count bw a b) k x

  -- so the answer is one by the table
  pub read_judged : (room : ℕ) → Judged read_numbers (read_checks bw a b room) (word_count bw a b) (read_answer bw a b room)
  unfolding read_answer read_outcome
  read_judged room = judged (table_gives room) numbers_distinct (word_count bw a b)
