-- The reading from its two halves.
use mathlib.Core.Path.{◌≡◌, sym, ◌∙◌, ap}
use mathlib.Core.List.{List}
use Prim.Native.Nat.{ℕ, ◌≤◌}
use lib.ListN.{length}
use Rattle.answer.specs.Answer.{answer_at, after}
use Rattle.answer.proofs.Order.{pass_left, pass_right}
use Rattle.answer.specs.declared.Answer.{Answer}
use Rattle.answer.specs.Answer.{Outcome}
use Rattle.answer.specs.declared.Refusal.{Refusal}
use Rattle.std.specs.Prelude.{Ok, Err}
use Rattle.channel.specs.Layout.{row}
use Rattle.channel.proofs.Laws.{row_length}
use Rattle.plan.specs.declared.Rest.{Rest}
use Rattle.plan.specs.Engine.{with_kinds}
use Rattle.halves.specs.Engine.{outcome1to8, with_plan, planned_of, Plans, outcome9to11}
use Rattle.halves.proofs.Stages.{common_pass}
use Rattle.halves.proofs.Half.{Made, planned_out, planned_made, planned_refuse, planned_rest, lent_plan}
use Rattle.halves.proofs.Rows.{sixteen}
use Rattle.frame_words.specs.Words.{word_count, words_of}
use Rattle.reader.specs.Table.{check12, read_outcome}
use Rattle.word_bytes.specs.Lent.{puts}
use Rattle.reader.specs.Result.{read_answer, put_after}
use Rattle.reader.specs.Engine.{Planned8, users_outcome, users_answer, users_after}
use Rattle.reader.proofs.Stages.{reading_stopped, reading_rest, room_pass}

-- of what the first half has told
module _ (bw : ℕ) (a b : List ℕ) {x : Rest} {r k : List ℕ} (w : Plans bw a b x r k) where
  out : {o : Outcome} → x.outcome ≡ o → (planned_of bw a b).outcome ≡ o
  out f = planned_out bw a b ∙ unfold outcome1to8 in (sym w.answers ∙ f)

  -- refused by the first
  pub first_refuses : (room : ℕ) (y : Refusal) → x.outcome ≡ Err y → read_outcome bw a b room ≡ Err y
  first_refuses room y f = reading_stopped bw a b room y (planned_refuse bw a b y (out f))

  module _ (f : x.outcome ≡ Ok tt) where
    -- the second's, where the first passes
    pub second_says : (room : ℕ) → read_outcome bw a b room ≡ users_outcome bw a b room
    second_says room = reading_rest bw a b room (planned_rest bw a b (out f))

    pub second_answers : (room : ℕ) → users_answer bw a b room ≡ read_answer bw a b room
    unfolding users_answer read_answer
    second_answers room = ap (λ (o : Outcome). answer_at o (word_count bw a b)) (sym (second_says room))

    pub second_writes : (put : List ℕ → ℕ → ℕ → List ℕ) (room : ℕ) (w : List ℕ) → users_after put bw a b room w ≡ put_after put bw a b room w
    unfolding users_after put_after
    second_writes put room w = ap (λ (o : Outcome). after o (puts put w 0 (words_of bw a b)) w) (sym (second_says room))

    made : Made bw a b (with_plan r (with_kinds x k))
    unfolding with_plan with_kinds
    made = planned_made bw a b _ (unfold with_plan with_kinds in lent_plan bw a b x r k w f) f

    pub known : bw ≤ 4
    known = (common_pass bw a b made.common).known

    pub row_16 : length r ≡ 16
    row_16 = ap length (w.the_row f) ∙ sixteen bw a b known

    -- what the plan of a frame hands on
    pub handed : (s : List ℕ) → s ≡ row bw a b → Planned8 bw a b s x.shared x.fields1 x.fields2
    unfolding with_plan with_kinds
    handed s q =
        let m = made in
        let c = common_pass bw a b m.common in
        record {
          known = c.known;
          short = c.short;
          the_row = q;
          formats = rw q (record { format = λ i l. m.formats i (rw (row_length bw a b) at l) });
          most1 = m.most1;
          most2 = m.most2;
          count1 = m.count1;
          count2 = m.count2;
        }

-- what passing 9 to 12 says: 9 to 11 pass, and there is room enough
pub users_pass : (bw : ℕ) (a b : List ℕ) (room : ℕ) → users_outcome bw a b room ≡ Ok tt → outcome9to11 bw a b ≡ Ok tt
users_pass bw a b room e = pass_left (outcome9to11 bw a b) (check12 bw a b room) e

pub room_enough : (bw : ℕ) (a b : List ℕ) (room : ℕ) → users_outcome bw a b room ≡ Ok tt → word_count bw a b ≤ room
room_enough bw a b room e = room_pass bw a b room (pass_right (outcome9to11 bw a b) (check12 bw a b room) e)
