-- `writer::write` meets its contract.
use Rattle.std.proofs.Common.{◌≤◌, refl, sym, ◌∙◌, ap, arith, length, take}
use Rattle.answer.specs.Lists.{at}
use Rattle.answer.proofs.Lists.{build_is, take_filled}
use Rattle.writer.specs.Result.{write_answer, channel_after}
use Rattle.writer.proofs.Steps.{one_outcome, thirteen_outcome, not_so_many}
use Rattle.writer.proofs.write.Goals as goal

pub returns-then-bandwidth-gt4 : goal.returns-then-bandwidth-gt4
unfolding write_answer channel_after
returns-then-bandwidth-gt4 c =
    let e = one_outcome c.args.bandwidth c.args.words.now (length c.args.cc1.now) (length c.args.cc2.now) (omega arith) in record {
      value = c.into.ensures ∙ rw e;
      cc1_after = rw e;
      cc2_after = rw e;
    }

pub returns-then-n-gt154 : goal.returns-then-n-gt154
unfolding write_answer channel_after
returns-then-n-gt154 c =
    let l : c.args.bandwidth ≤ 4 = omega arith in
    let e =
    thirteen_outcome c.args.bandwidth c.args.words.now (length c.args.cc1.now) (length c.args.cc2.now) l
    (not_so_many c.args.bandwidth c.args.words.now l c.if-n-gt154.true) in record {
      value = c.into-then-n-gt154.ensures ∙ rw e;
      cc1_after = rw e;
      cc2_after = rw e;
    }

pub returns : goal.returns
returns c =
    let e =
    ap (take (length c.args.words.now)) c.copy_words.ensures
    ∙ take_filled (at c.args.words.now) (length c.args.words.now) _
    ∙ sym (build_is (at c.args.words.now) 0 c.args.words.now (length c.args.words.now) refl (λ i m. refl)) in
    rw e at c.write_own.ensures
