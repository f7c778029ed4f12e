-- `streams::answer_words` meets its contract.
use Rattle.std.proofs.Common.{arith, ◌≤◌, length, drop, length-drop}
use Rattle.answer.proofs.Grow.{part_tail}
use Rattle.streams.specs.Engine.{words_answer, words_streams}
use Rattle.streams.proofs.Words.{front_row, front_length}
use Rattle.streams.proofs.answer_words.Goals as goal

pub codes_of-codes-requires : goal.codes_of-codes-requires
codes_of-codes-requires c =
    let e = front_row c.args.bw c.args.words.now _ _ c.positions_of-p.ensures.value c.row_in-row.ensures in
    let l = front_length c.args.bw c.args.words.now _ _ c.positions_of-p.ensures.value c.row_in-row.ensures in
    (omega (arith, c.positions_of-p.ensures.upper_bound), rw e c.requires.1.signals)

pub answer_fields-requires : goal.answer_fields-requires
answer_fields-requires c =
    let e = front_row c.args.bw c.args.words.now _ _ c.positions_of-p.ensures.value
    c.row_in-row.ensures in
    let k : length (drop 10 c.args.words.now) ≤ 144 = omega (arith, length-drop 10 c.args.words.now, c.requires.1.most) in
    rw (part_tail c.args.words.now 10 c.requires.1.ten) (k, rw (c.codes_of-codes.ensures, e) c.requires.1.coded)

pub returns : goal.returns
unfolding words_answer words_streams
returns c =
    let e = front_row c.args.bw c.args.words.now _ _ c.positions_of-p.ensures.value
    c.row_in-row.ensures in
    rw (← e, ← c.codes_of-codes.ensures, ← part_tail c.args.words.now 10 c.requires.1.ten) c.answer_fields.ensures
