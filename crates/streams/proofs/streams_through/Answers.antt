-- `streams::streams_through` meets its contract.
use Rattle.std.proofs.Common.{sym, ◌∙◌, length, length-take-le}
use Rattle.streams.proofs.Frame.{HasRead, known, worded, answer_words, words_streams_lem, stays, passes, words_are, room_for}
use Rattle.streams.proofs.streams_through.Goals as goal

pub returns-then-read-ne0 : goal.returns-then-read-ne0
returns-then-read-ne0 c =
    let has_read : HasRead c.args.bandwidth c.args.cc1.now c.args.cc2.now c.args.words.now c.read-read.new.words c.read-read.result =
    record {
      room = c.requires;
      answers = c.read-read.ensures.value;
      leaves = c.read-read.ensures.words_after;
    } in
    record {
      value = (stays (has_read) c.if-read-ne0.true c.args.out.now).0;
      out_after = (stays (has_read) c.if-read-ne0.true c.args.out.now).1;
    }

pub slice_bounds-answer_words-end : goal.slice_bounds-answer_words-end
slice_bounds-answer_words-end c =
    let has_read : HasRead c.args.bandwidth c.args.cc1.now c.args.cc2.now c.args.words.now c.read-read.new.words c.read-read.result =
    record {
      room = c.requires;
      answers = c.read-read.ensures.value;
      leaves = c.read-read.ensures.words_after;
    } in
    room_for (has_read) c.if-read-ne0.false

pub slice_bounds-answer_words-end-2 : goal.slice_bounds-answer_words-end-2
slice_bounds-answer_words-end-2 c =
    let has_read : HasRead c.args.bandwidth c.args.cc1.now c.args.cc2.now c.args.words.now c.read-read.new.words c.read-read.result =
    record {
      room = c.requires;
      answers = c.read-read.ensures.value;
      leaves = c.read-read.ensures.words_after;
    } in
    sym (length-take-le _ _ (room_for (has_read) c.if-read-ne0.false))

pub answer_words-requires : goal.answer_words-requires
answer_words-requires c =
    let has_read : HasRead c.args.bandwidth c.args.cc1.now c.args.cc2.now c.args.words.now c.read-read.new.words c.read-read.result =
    record {
      room = c.requires;
      answers = c.read-read.ensures.value;
      leaves = c.read-read.ensures.words_after;
    } in
    let h = has_read in
    let e = passes h c.if-read-ne0.false in
    (known c.args.bandwidth c.args.cc1.now c.args.cc2.now e, rw (words_are h c.if-read-ne0.false) (worded c.args.bandwidth c.args.cc1.now c.args.cc2.now e))

pub returns : goal.returns
returns c =
    let has_read : HasRead c.args.bandwidth c.args.cc1.now c.args.cc2.now c.args.words.now c.read-read.new.words c.read-read.result =
    record {
      room = c.requires;
      answers = c.read-read.ensures.value;
      leaves = c.read-read.ensures.words_after;
    } in
    let h = has_read in
    let e = passes h c.if-read-ne0.false in
    let w = words_are h c.if-read-ne0.false in
    record {
      value = rw w at c.answer_words.ensures.value ∙ answer_words c.args.bandwidth c.args.cc1.now c.args.cc2.now e (length c.args.out.now);
      out_after = rw w at c.answer_words.ensures.out_after ∙ words_streams_lem c.args.bandwidth c.args.cc1.now c.args.cc2.now e c.args.out.now;
    }
