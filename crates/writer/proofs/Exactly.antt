-- "The writer's order is 1, 13, 14": each number given exactly when its row of the table says and nothing earlier applies.
--
use mathlib.Core.Path.{◌≡◌, refl, sym, ◌∙◌, ap}
use mathlib.Core.Bool.{true, not, ◌&&◌}
use mathlib.Core.List.{List, [], ◌∷◌}
use Prim.Native.Nat.{ℕ, ◌<◌}
use lib.Dec.{ltb}
use lib.ListN.{get_or}
use Rattle.answer.specs.Answer.{answer_at}
use Rattle.answer.specs.Order.{Applies, first_of, Judged, Answers}
use Rattle.answer.specs.declared.Answer.{Answer}
use Rattle.answer.specs.Answer.{Outcome}
use Rattle.std.specs.Prelude.{Ok}
use Rattle.answer.proofs.Numbers.{Only, only_if, only_or, Gives, distinct, absent, zero_pass, number_applies, applies_number, judged, none, more}
use Rattle.answer.proofs.First.{first_chain}
use Rattle.answer.specs.declared.Refusal.TheVariants.{UnknownBandwidth, NoFrameReads, TooFewBytes}
use Rattle.answer.specs.declared.Refusal.{Refusal}
use Rattle.answer.specs.Answer.{answer_of}
use Rattle.channel.specs.Layout.{present}
use Rattle.halves.specs.Table.{check1}
use Rattle.candidate.specs.Engine.{needed}
use Rattle.writer.specs.Worked.{some_read}
use Rattle.writer.specs.Result.{check13, check14, write_outcome, write_answer, write_numbers, write_checks}
use Rattle.writer.specs.Room.{no_channel_room}

pub write_checks_first : (bw : ℕ) (w : List ℕ) (n m : ℕ) → first_of (write_checks bw w n m) ≡ write_outcome bw w n m
unfolding write_outcome
write_checks_first bw w n m = first_chain (check1 bw) (check13 bw w ∷ check14 bw w n m ∷ [])

module _ (bw : ℕ) (w : List ℕ) (n m : ℕ) where
  pub only_1 : Only 1 (check1 bw)
  unfolding check1
  only_1 = only_if (ltb 4 bw) UnknownBandwidth

  pub only_13 : Only 13 (check13 bw w)
  unfolding check13
  only_13 = only_if (not (some_read bw w)) NoFrameReads

  pub only_14 : Only 14 (check14 bw w n m)
  unfolding check14 no_channel_room
  only_14 =
      only_or (only_if (ltb n (needed bw w)) (TooFewBytes 1 (needed bw w))) (only_if (present bw 2 && ltb m (needed bw w)) (TooFewBytes 2 (needed bw w)))

  rows_give : Gives write_numbers (write_checks bw w n m)
  rows_give = more only_1 (more only_13 (more only_14 none))

  numbers_distinct : distinct (0 ∷ write_numbers) ≡ true
  unfolding distinct absent
  numbers_distinct = refl

  answer_rows : answer_at (first_of (write_checks bw w n m)) (needed bw w) ≡ write_answer bw w n m
  unfolding write_answer
  answer_rows = ap (λ (o : Outcome). answer_at o (needed bw w)) (write_checks_first bw w n m)

  -- number 0 exactly when none of the rows applies
  pub accepted_exactly : (write_answer bw w n m).number ≡ 0 → write_outcome bw w n m ≡ Ok tt
  accepted_exactly e =
      sym (write_checks_first bw w n m)
      ∙ zero_pass rows_give numbers_distinct (needed bw w) (ap (λ (x : Answer). x.number) answer_rows ∙ e)

  -- each other number exactly when its row applies and none before it; channel and place are then that row's
  pub refused_exactly : (k : ℕ) → k < 3 → (write_answer bw w n m).number ≡ get_or write_numbers k 0 → Answers (write_checks bw w n m) k (write_answer bw w n m)
  refused_exactly k l e =
      rw answer_rows at
      (number_applies rows_give numbers_distinct (needed bw w) k l (ap (λ (x : Answer). x.number) answer_rows ∙ e))

  pub applies_exactly : (k : ℕ) (x : Refusal) → Applies (write_checks bw w n m) k x
      → (write_answer bw w n m ≡ answer_of x) × ((answer_of x).number ≡ get_or write_numbers k 0)
  applies_exactly k x a =
      let r = applies_number rows_give numbers_distinct (needed bw w) k x a in
      (sym answer_rows ∙ r.0, r.1)

  -- so the answer is one by these rows
  pub write_judged : Judged write_numbers (write_checks bw w n m) (needed bw w) (write_answer bw w n m)
  write_judged = rw answer_rows at (judged rows_give numbers_distinct (needed bw w))
