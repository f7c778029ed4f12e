-- `trigger::read` meets its contract.
use Rattle.std.proofs.Common.{sym, ◌∙◌, ap, ℕ, length}
use Rattle.answer.specs.Lists.{filled}
use Rattle.word_bytes.specs.Bytes.{byte_at}
use Rattle.trigger.specs.Reading.{numbers_of, entry_answer, record_read}
use Rattle.trigger.proofs.Stages.{read_outcome_lem, read_room}
use Rattle.trigger.proofs.read.Goals as goal

pub returns-in-Err-clause-value : goal.returns-in-Err-clause-value
unfolding entry_answer record_read
returns-in-Err-clause-value c =
    let f =
    sym (read_outcome_lem c.args.bandwidth c.args.entry.now (length c.args.out.now) _ _ c.info_at-x.ensures c.judge_read-judged.ensures)
    ∙ c.in-Err.is in
    rw f c.into.ensures

pub returns-in-Err-clause-out_after : goal.returns-in-Err-clause-out_after
unfolding entry_answer record_read
returns-in-Err-clause-out_after c =
    let f =
    sym (read_outcome_lem c.args.bandwidth c.args.entry.now (length c.args.out.now) _ _ c.info_at-x.ensures c.judge_read-judged.ensures)
    ∙ c.in-Err.is in
    rw f

pub put_record-requires : goal.put_record-requires
put_record-requires c =
    read_room c.args.bandwidth c.args.entry.now (length c.args.out.now)
    (sym (read_outcome_lem c.args.bandwidth c.args.entry.now (length c.args.out.now) _ _ c.info_at-x.ensures c.judge_read-judged.ensures)
    ∙ c.in_default.is)

pub returns-clause-value : goal.returns-clause-value
unfolding entry_answer record_read
returns-clause-value c =
    let f =
    sym (read_outcome_lem c.args.bandwidth c.args.entry.now (length c.args.out.now) _ _ c.info_at-x.ensures c.judge_read-judged.ensures)
    ∙ c.in_default.is in
    rw f c.accepted.ensures

pub returns-clause-out_after : goal.returns-clause-out_after
unfolding entry_answer record_read
returns-clause-out_after c =
    let f =
    sym (read_outcome_lem c.args.bandwidth c.args.entry.now (length c.args.out.now) _ _ c.info_at-x.ensures c.judge_read-judged.ensures)
    ∙ c.in_default.is in
    rw f (c.put_record.ensures ∙ ap (λ (y : ℕ). filled (byte_at (numbers_of y)) 32 c.args.out.now) c.info_at-x.ensures)
