-- `overlaps::first_refused` meets its contract.
use Rattle.std.proofs.Common.{refl, sym, ◌∙◌, ap, arith}
use Rattle.answer.specs.Answer.{answer_at, answer_of}
use Rattle.answer.specs.Answer.{Outcome}
use Rattle.overlaps.specs.Result.{entries_outcome}
use Rattle.overlaps.proofs.Entries.{entries_step, entries_stop}
use Rattle.overlaps.proofs.first_refused.Goals as goal

pub loop-i-init : goal.loop-i-init
unfolding entries_outcome
loop-i-init c = (omega arith, refl)

pub returns-in-Err : goal.returns-in-Err
returns-in-Err c =
    let q = sym c.judge-judged.ensures ∙ c.in-Err.is in
    c.into.ensures ∙ ap answer_of c.of_entry.ensures
    ∙ ap (λ (o : Outcome). answer_at o 0) (sym (entries_stop c.args.bandwidth c.args.entries.now c.loop-i.i _ c.info_at-x.ensures c.args.n _ (omega arith)
    c.loop-i.invariant.1 q))

pub loop-i-preserved : goal.loop-i-preserved
loop-i-preserved c =
    let q = sym c.judge-judged.ensures ∙ c.in_default.is in
    (omega arith, entries_step c.args.bandwidth c.args.entries.now c.loop-i.i c.info_at-x.result c.info_at-x.ensures c.loop-i.invariant.1 q)
