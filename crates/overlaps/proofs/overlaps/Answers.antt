-- `overlaps::overlaps` meets its contract.
use Rattle.std.proofs.Common.{sym, ◌∙◌, ap, not, length, rules}
use Rattle.answer.proofs.Order.{passes_true}
use Rattle.overlaps.specs.Result.{overlaps_answer, pairs_after}
use Rattle.overlaps.proofs.Stages.{length_refused, few, refused_answer, refused_kept, answered, written}
use Rattle.overlaps.proofs.overlaps.Goals as goal

pub returns-in-Err-clause-value : goal.returns-in-Err-clause-value
unfolding overlaps_answer pairs_after
returns-in-Err-clause-value c =
    let e = sym c.judge_length-judged.ensures ∙ c.in-Err.is in
    let f = length_refused c.args.bandwidth c.args.entries.now (length c.args.pairs.now) _ e in
    rw f c.into.ensures

pub returns-in-Err-clause-pairs_after : goal.returns-in-Err-clause-pairs_after
unfolding overlaps_answer pairs_after
returns-in-Err-clause-pairs_after c =
    let e = sym c.judge_length-judged.ensures ∙ c.in-Err.is in
    let f = length_refused c.args.bandwidth c.args.entries.now (length c.args.pairs.now) _ e in
    rw f

pub fill_masks-requires : goal.fill_masks-requires
fill_masks-requires c = (few c.args.bandwidth c.args.entries.now (sym c.judge_length-judged.ensures ∙ c.in_default.is), search rules)

pub first_refused-requires : goal.first_refused-requires
first_refused-requires c = few c.args.bandwidth c.args.entries.now (sym c.judge_length-judged.ensures ∙ c.in_default.is)

pub returns-then-not-fill_masks-clause-value : goal.returns-then-not-fill_masks-clause-value
unfolding overlaps_answer pairs_after
returns-then-not-fill_masks-clause-value c =
    let p = sym c.judge_length-judged.ensures ∙ c.in_default.is in
    let e = ap not (sym c.fill_masks.ensures.value) ∙ (ap not c.if-not-fill_masks.true) in
    c.first_refused.ensures ∙ refused_answer c.args.bandwidth c.args.entries.now (length c.args.pairs.now) p e

pub returns-then-not-fill_masks-clause-pairs_after : goal.returns-then-not-fill_masks-clause-pairs_after
unfolding overlaps_answer pairs_after
returns-then-not-fill_masks-clause-pairs_after c =
    let p = sym c.judge_length-judged.ensures ∙ c.in_default.is in
    let e = ap not (sym c.fill_masks.ensures.value) ∙ (ap not c.if-not-fill_masks.true) in
    refused_kept c.args.bandwidth c.args.entries.now (length c.args.pairs.now) p e _ _

pub report-requires : goal.report-requires
report-requires c = few c.args.bandwidth c.args.entries.now (sym c.judge_length-judged.ensures ∙ c.in_default.is)

pub returns-clause-value : goal.returns-clause-value
returns-clause-value c =
    let p = sym c.judge_length-judged.ensures ∙ c.in_default.is in
    let q = passes_true _ (sym c.fill_masks.ensures.value ∙ c.if-not-fill_masks.false) in
    answered c.args.entries.now _ _ c.fill_masks.ensures.masks_after c.args.bandwidth c.args.pairs.now p q _ c.report.ensures.value

pub returns-clause-pairs_after : goal.returns-clause-pairs_after
returns-clause-pairs_after c =
    let p = sym c.judge_length-judged.ensures ∙ c.in_default.is in
    let q = passes_true _ (sym c.fill_masks.ensures.value ∙ c.if-not-fill_masks.false) in
    written c.args.entries.now _ _ c.fill_masks.ensures.masks_after c.args.bandwidth c.args.pairs.now p q _ c.report.ensures.pairs_after
