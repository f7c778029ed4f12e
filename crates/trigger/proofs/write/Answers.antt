-- `trigger::write` meets its contract.
use Rattle.std.proofs.Common.{◌∙◌, ap, List, ℕ, length}
use Rattle.answer.specs.Answer.{answer_at, after}
use Rattle.answer.specs.Answer.{Outcome}
use Rattle.answer.specs.Lists.{at, filled}
use Rattle.trigger_values.specs.UserInfo.{entry_of}
use Rattle.trigger.specs.Engine.{info_with}
use Rattle.trigger.specs.Worked.{the_entry}
use Rattle.trigger.specs.Writing.{record_outcome, record_answer, entry_written}
use Rattle.trigger.proofs.Stages.{write_chain, eight_there, after_same, passed_32}
use Rattle.trigger.proofs.write.Goals as goal

pub returns-clause-value : goal.returns-clause-value
unfolding record_answer entry_written the_entry
returns-clause-value c =
    let m = length c.args.entry.now in
    let f = write_chain c.args.given.now _ c.get_words.new.local c.eight_at_most-n.ensures.2 c.get_words.ensures c.args.bandwidth m in
    c.write_numbers.ensures.value ∙ ap (λ (o : Outcome). answer_at o 5) f

pub returns-clause-entry_after : goal.returns-clause-entry_after
unfolding record_answer entry_written the_entry
returns-clause-entry_after c =
    let m = length c.args.entry.now in
    let f = write_chain c.args.given.now _ c.get_words.new.local c.eight_at_most-n.ensures.2 c.get_words.ensures c.args.bandwidth m in
    c.write_numbers.ensures.entry_after ∙ ap (λ (o : Outcome). after o (filled (at (entry_of (info_with c.get_words.new.local))) 5 c.args.entry.now)
    c.args.entry.now) f
    ∙ after_same (record_outcome c.args.bandwidth c.args.given.now m) _ _ c.args.entry.now
    (λ p. ap (λ (v : List ℕ). filled (at (entry_of (info_with v))) 5 c.args.entry.now)
    (eight_there c.args.given.now _ c.get_words.new.local c.eight_at_most-n.ensures.2 c.get_words.ensures
    (passed_32 c.args.bandwidth c.args.given.now m p)))
