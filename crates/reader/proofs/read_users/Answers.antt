-- `reader::read_users` meets its contract.
use Rattle.std.proofs.Common.{ℕ, List, ◌+◌, ◌≡◌, sym, ◌∙◌, ap, ap₂, arith}
use Rattle.std.specs.Prelude.{Ok, OnErr, IfErr, IsErrAnd}
use Rattle.answer.specs.Answer.{no, ◌or◌}
use Rattle.answer.specs.Answer.{Outcome}
use Rattle.answer.proofs.Lists.{front_filled}
use Rattle.frame_words.specs.Words.{words_of}
use Rattle.frame_words.proofs.Counted.{counted}
use Rattle.reader.specs.Table.{no_room, check12}
use Rattle.reader.specs.Engine.{users_outcome, users_answer, users_after}
use Rattle.reader.proofs.Halves.{users_pass, room_enough}
use Rattle.reader.proofs.Room.{room_told}
use Rattle.channel.specs.Layout.{count}
use Rattle.halves.specs.Engine.{outcome9to11}
use Rattle.reader.proofs.read_users.Goals as goal

-- 9 to 12
says : (bw : ℕ) (a b : List ℕ) (n m room : ℕ) (r o : Outcome) → n ≡ count bw 1 a → m ≡ count bw 2 b → o ≡ outcome9to11 bw a b
    → OnErr o (r ≡ o) → (o ≡ Ok tt → no_room (10 + (n + m)) room ≡ Ok tt → r ≡ Ok tt)
    → (o ≡ Ok tt → IfErr (no_room (10 + (n + m)) room) (λ x. IsErrAnd r (λ y. y ≡ x))) → r ≡ users_outcome bw a b room
unfolding check12
says bw a b n m room r o e f g k p x =
    room_told o r (10 + (n + m)) room k p x ∙ ap₂ (λ (o : Outcome) (need : ℕ). o or no_room need room) g (counted bw a b n m e f)

pub returns-in-Err-clause-value : goal.returns-in-Err-clause-value
unfolding users_answer users_after
returns-in-Err-clause-value g c =
    let e = sym (says _ _ _ _ _ _ _ _ c.requires.0.count1 c.requires.0.count2 c.take_checked-seen.ensures.value c.then_room-outcome.ensures.earlier
    c.then_room-outcome.ensures.passed c.then_room-outcome.ensures.refused) ∙ c.in-Err.is in
    rw e c.into.ensures

pub returns-in-Err-clause-words_after : goal.returns-in-Err-clause-words_after
unfolding users_answer users_after
returns-in-Err-clause-words_after g c =
    let e = sym (says _ _ _ _ _ _ _ _ c.requires.0.count1 c.requires.0.count2 c.take_checked-seen.ensures.value c.then_room-outcome.ensures.earlier
    c.then_room-outcome.ensures.passed c.then_room-outcome.ensures.refused) ∙ c.in-Err.is in
    rw e

pub put_frame_to-requires : goal.put_frame_to-requires
put_frame_to-requires g c =
    let e = sym (says _ _ _ _ _ _ _ _ c.requires.0.count1 c.requires.0.count2 c.take_checked-seen.ensures.value c.then_room-outcome.ensures.earlier
    c.then_room-outcome.ensures.passed c.then_room-outcome.ensures.refused) ∙ c.in_default.is
    in (
      omega (arith, room_enough c.args.bw c.args.a.now c.args.b.now c.args.room e, c.requires.2),
      omega (arith, c.take_checked-seen.auto.fields),
      c.requires.0.known,
      c.requires.0.the_row,
      c.requires.0.formats,
      c.requires.0.count1,
      c.requires.0.count2,
      front_filled _ (c.args.n + c.args.m) c.args.fields.now c.take_checked-seen.new.fields
          (c.take_checked-seen.ensures.fields_after (c.take_checked-seen.ensures.value ∙ users_pass c.args.bw c.args.a.now c.args.b.now c.args.room
          e)),
    )

pub returns-clause-value : goal.returns-clause-value
unfolding users_answer users_after words_of
returns-clause-value g c =
    let e = sym (says _ _ _ _ _ _ _ _ c.requires.0.count1 c.requires.0.count2 c.take_checked-seen.ensures.value c.then_room-outcome.ensures.earlier
    c.then_room-outcome.ensures.passed c.then_room-outcome.ensures.refused)
    ∙ c.in_default.is in
    rw e (c.accepted.ensures ∙ ap (no 0 0) (counted c.args.bw c.args.a.now c.args.b.now c.args.n c.args.m c.requires.0.count1 c.requires.0.count2))

pub returns-clause-words_after : goal.returns-clause-words_after
unfolding users_answer users_after words_of
returns-clause-words_after g c =
    let e = sym (says _ _ _ _ _ _ _ _ c.requires.0.count1 c.requires.0.count2 c.take_checked-seen.ensures.value c.then_room-outcome.ensures.earlier
    c.then_room-outcome.ensures.passed c.then_room-outcome.ensures.refused) ∙
    c.in_default.is in
    rw (e, ← c.requires.0.the_row) c.put_frame_to.ensures.written
