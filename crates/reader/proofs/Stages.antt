-- The reader's table in the groups in which the code runs it, and what passing them says.
use mathlib.Core.Path.{◌≡◌, sym, ◌∙◌, ap}
use mathlib.Core.List.{List, [], ◌∷◌}
use Prim.Native.Nat.{ℕ, ◌≤◌}
use borrow.Author.Tests.{ltb-false}
use Rattle.answer.specs.Answer.{◌or◌}
use Rattle.answer.specs.Order.{first_of}
use Rattle.answer.specs.declared.Answer.{Answer}
use Rattle.answer.specs.Answer.{Outcome}
use Rattle.std.specs.Prelude.{Ok, Err}
use Rattle.answer.proofs.First.{first_append}
use Rattle.answer.proofs.Order.{pass_left, pass_right, pass_if, or_refuse, or_end}
use Rattle.answer.specs.declared.Refusal.{Refusal}
use Rattle.plan.specs.Engine.{plan_outcome}
use Rattle.channel.specs.Layout.{row}
use Rattle.halves.specs.Table.{checks11, outcome11}
use Rattle.halves.specs.Engine.{outcome9to11}
use Rattle.halves.proofs.Stages.{Common, common_pass, outcome11_stages}
use Rattle.frame_words.specs.Words.{word_count}
use Rattle.reader.specs.Table.{no_room, check12, read_outcome}

pub read_outcome_stages : (bw : ℕ) (a b : List ℕ) (room : ℕ) → read_outcome bw a b room ≡ outcome11 bw a b or check12 bw a b room
unfolding read_outcome outcome11
read_outcome_stages bw a b room =
    first_append (checks11 bw a b) (check12 bw a b room ∷ [])
    ∙ ap (λ (o : Outcome). first_of (checks11 bw a b) or o) (unfold first_of in or_end (check12 bw a b room))

-- a refusal of 1 to 11 is the reading's
pub reading_stopped : (bw : ℕ) (a b : List ℕ) (room : ℕ) (x : Refusal) → outcome11 bw a b ≡ Err x → read_outcome bw a b room ≡ Err x
reading_stopped bw a b room x e = read_outcome_stages bw a b room ∙ or_refuse _ (check12 bw a b room) x e

-- the second half is all of it where the first passes
pub reading_rest : (bw : ℕ) (a b : List ℕ) (room : ℕ) → outcome11 bw a b ≡ outcome9to11 bw a b
    → read_outcome bw a b room ≡ outcome9to11 bw a b or check12 bw a b room
reading_rest bw a b room e = read_outcome_stages bw a b room ∙ ap (λ (o : Outcome). o or check12 bw a b room) e

pub room_pass : (bw : ℕ) (a b : List ℕ) (room : ℕ) → check12 bw a b room ≡ Ok tt → word_count bw a b ≤ room
unfolding check12 no_room
room_pass bw a b room e = ltb-false room (word_count bw a b) (pass_if _ _ e)

pub record Sound (bw : ℕ) (a b : List ℕ) (room : ℕ) : Type 0 where
  pub common : Common bw a b
  pub room_enough : word_count bw a b ≤ room

pub read_outcome_pass : (bw : ℕ) (a b : List ℕ) (room : ℕ) → read_outcome bw a b room ≡ Ok tt → Sound bw a b room
read_outcome_pass bw a b room e =
    let f = sym (read_outcome_stages bw a b room) ∙ e in
    let g = sym (outcome11_stages bw a b) ∙ pass_left (outcome11 bw a b) _ f in
    record {
      common = common_pass bw a b (pass_left _ (plan_outcome (row bw a b)) (pass_left _ (outcome9to11 bw a b) g));
      room_enough = room_pass bw a b room (pass_right (outcome11 bw a b) (check12 bw a b room) f);
    }
