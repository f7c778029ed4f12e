-- `trigger::write_numbers` meets its contract.
use Rattle.std.proofs.Common.{sym, ◌∙◌, ap, length}
use Rattle.trigger_values.specs.Values.{taken}
use Rattle.record_refusals.specs.Engine.{value_named}
use Rattle.trigger.proofs.Stages.{numbers_passed}
use Rattle.trigger_values.proofs.Taken.{value_low}
use Rattle.trigger.proofs.write_numbers.Goals as goal

pub judge_write-judged-requires : goal.judge_write-judged-requires
unfolding value_named
judge_write-judged-requires c = (c.requires, c.value_for-v.ensures)

pub info_with-requires : goal.info_with-requires
unfolding value_named
info_with-requires c =
    let passed = sym c.judge_write-judged.ensures ∙ c.in_default.is in
    let p = numbers_passed c.args.bandwidth c.args.n c.args.numbers.now (length c.args.entry.now) passed in
    (c.requires, c.value_for-v.ensures, value_low c.args.bandwidth _ (ap (taken c.args.bandwidth) c.value_for-v.ensures ∙ p.named), p.fits)

pub put_entry-requires : goal.put_entry-requires
put_entry-requires c =
    let passed = sym c.judge_write-judged.ensures ∙ c.in_default.is in
    (numbers_passed c.args.bandwidth c.args.n c.args.numbers.now (length c.args.entry.now) passed).room
