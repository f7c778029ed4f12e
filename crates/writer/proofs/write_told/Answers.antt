-- `writer::write_told` meets its contract.
use Rattle.std.proofs.Common.{◌+◌, ◌≡◌, ◌∙◌, ap, arith, length}
use Rattle.answer.specs.Answer.{no}
use Rattle.channel.proofs.Laws.{present_1}
use Rattle.candidate.specs.Engine.{count_in, needed}
use Rattle.candidate.proofs.Held.{count_in_le, present_length}
use Rattle.judge.proofs.Decided.{told_decides}
use Rattle.writer.specs.Engine.{Given}
use Rattle.writer.specs.Result.{write_outcome, write_answer, channel_after}
use Rattle.writer.proofs.Steps.{needed_is, told_outcome, Room, writing_room, from, given_turned}
use Rattle.writer.proofs.write_told.Goals as goal

pub bytes_for-need-requires : goal.bytes_for-need-requires
bytes_for-need-requires c = (rw c.requires.3 (count_in_le c.args.bw c.args.words.now 1), rw c.requires.4 (count_in_le c.args.bw c.args.words.now 2))

pub returns-in-Err : goal.returns-in-Err
unfolding write_answer channel_after
returns-in-Err c =
    let the_need : c.bytes_for-need.result ≡ needed c.args.bw c.args.words.now =
    needed_is c.args.bw c.args.words.now c.args.told.fields1 c.args.told.fields2 c.bytes_for-need.result
    c.requires.3 c.requires.4 c.bytes_for-need.ensures.value in
    let judged : write_outcome c.args.bw c.args.words.now (length c.args.cc1.now) (length c.args.cc2.now) ≡ c.no_channel_room-outcome.result =
    told_outcome c.args.bw c.args.words.now (length c.args.cc1.now) (length c.args.cc2.now) c.bytes_for-need.result _ c.requires.0 c.requires.2
    (the_need) c.no_channel_room-outcome.ensures in
    let e = judged ∙ c.in-Err.is in record {
      value = rw e c.into.ensures;
      cc1_after = rw e;
      cc2_after = rw e;
    }

pub slice_bounds-put_both-count : goal.slice_bounds-put_both-count
slice_bounds-put_both-count c =
    let counted : length c.args.words.now ≡ 10 + (count_in c.args.bw c.args.words.now 1 + count_in c.args.bw c.args.words.now 2) =
    ((told_decides c.args.bw c.args.words.now c.requires.0).yes c.requires.2).counted in
    omega (arith, c.turn_users.auto.words, counted)

pub slice_bounds-put_both-start : goal.slice_bounds-put_both-start
slice_bounds-put_both-start c =
    let counted : length c.args.words.now ≡ 10 + (count_in c.args.bw c.args.words.now 1 + count_in c.args.bw c.args.words.now 2) =
    ((told_decides c.args.bw c.args.words.now c.requires.0).yes c.requires.2).counted in
    omega (arith, c.turn_users.auto.words, counted)

pub put_both-requires : goal.put_both-requires
put_both-requires c =
    let the_need : c.bytes_for-need.result ≡ needed c.args.bw c.args.words.now =
    needed_is c.args.bw c.args.words.now c.args.told.fields1 c.args.told.fields2 c.bytes_for-need.result
    c.requires.3 c.requires.4 c.bytes_for-need.ensures.value in
    let judged : write_outcome c.args.bw c.args.words.now (length c.args.cc1.now) (length c.args.cc2.now) ≡ c.no_channel_room-outcome.result =
    told_outcome c.args.bw c.args.words.now (length c.args.cc1.now) (length c.args.cc2.now) c.bytes_for-need.result _ c.requires.0 c.requires.2
    (the_need) c.no_channel_room-outcome.ensures in
    let room : Room c.args.bw c.args.words.now (length c.args.cc1.now) (length c.args.cc2.now) =
    writing_room c.args.bw c.args.words.now (length c.args.cc1.now) (length c.args.cc2.now) (judged ∙ c.in_default.is) in
    let counted : length c.args.words.now ≡ 10 + (count_in c.args.bw c.args.words.now 1 + count_in c.args.bw c.args.words.now 2) =
    ((told_decides c.args.bw c.args.words.now c.requires.0).yes c.requires.2).counted in
    let given : Given c.args.bw c.args.words.now c.args.row.now (from 10 c.turn_users.new.words) c.args.told.fields1
    c.bytes_for-need.result c.args.told.overflow c.args.told.first c.args.told.second =
    given_turned c.args.bw c.args.words.now c.turn_users.new.words c.args.row.now c.args.told.fields1 c.args.told.fields2
    _ _ _ _ c.requires.0 c.requires.1 c.requires.3 (counted) c.turn_users.auto.words c.turn_users.ensures (the_need) c.requires.5 in
    let r = room in
    let n = the_need in (
      (c.args.words.now, given),
      omega (arith, n, present_length c.args.bw c.args.words.now 1 (present_1 c.args.bw), r.room_1),
      λ h. omega (arith, n, present_length c.args.bw c.args.words.now 2 h, r.room_2),
    )

pub returns : goal.returns
unfolding write_answer channel_after
returns c =
    let the_need : c.bytes_for-need.result ≡ needed c.args.bw c.args.words.now =
    needed_is c.args.bw c.args.words.now c.args.told.fields1 c.args.told.fields2 c.bytes_for-need.result
    c.requires.3 c.requires.4 c.bytes_for-need.ensures.value in
    let judged : write_outcome c.args.bw c.args.words.now (length c.args.cc1.now) (length c.args.cc2.now) ≡ c.no_channel_room-outcome.result =
    told_outcome c.args.bw c.args.words.now (length c.args.cc1.now) (length c.args.cc2.now) c.bytes_for-need.result _ c.requires.0 c.requires.2
    (the_need) c.no_channel_room-outcome.ensures in
    let counted : length c.args.words.now ≡ 10 + (count_in c.args.bw c.args.words.now 1 + count_in c.args.bw c.args.words.now 2) =
    ((told_decides c.args.bw c.args.words.now c.requires.0).yes c.requires.2).counted in
    let given : Given c.args.bw c.args.words.now c.args.row.now (from 10 c.turn_users.new.words) c.args.told.fields1
    c.bytes_for-need.result c.args.told.overflow c.args.told.first c.args.told.second =
    given_turned c.args.bw c.args.words.now c.turn_users.new.words c.args.row.now c.args.told.fields1 c.args.told.fields2
    _ _ _ _ c.requires.0 c.requires.1 c.requires.3 (counted) c.turn_users.auto.words c.turn_users.ensures (the_need) c.requires.5 in
    let e = judged ∙ c.in_default.is in
    let g = given in
    record {
      value = rw e (c.accepted.ensures ∙ ap (no 0 0) the_need);
      cc1_after = rw e (c.put_both.ensures.cc1_after c.args.words.now g);
      cc2_after = rw e (c.put_both.ensures.cc2_after c.args.words.now g);
    }
