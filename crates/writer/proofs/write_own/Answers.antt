-- `writer::write_own` meets its contract.
use Rattle.std.proofs.Common.{◌≤◌, sym, ◌∙◌, ap, arith, length, is_some}
use Rattle.judge.proofs.Steps.{row_front}
use Rattle.judge.proofs.Decided.{not_told}
use Rattle.writer.specs.Result.{write_answer, channel_after}
use Rattle.writer.proofs.Steps.{one_outcome, thirteen_outcome}
use Rattle.writer.proofs.write_own.Goals as goal

pub returns-then-bandwidth-gt4 : goal.returns-then-bandwidth-gt4
unfolding write_answer channel_after
returns-then-bandwidth-gt4 c =
    let e = one_outcome c.args.bandwidth c.args.words.now (length c.args.cc1.now) (length c.args.cc2.now) (omega arith) in record {
      value = c.into.ensures ∙ rw e;
      cc1_after = rw e;
      cc2_after = rw e;
    }

pub returns-then-not-take_row : goal.returns-then-not-take_row
unfolding write_answer channel_after
returns-then-not-take_row c =
    let l : c.args.bandwidth ≤ 4 = omega arith in
    let f = not_told c.args.bandwidth c.args.words.now l (λ t. c.take_row.ensures.decides.no (c.if-not-take_row.true) (omega (arith, t.counted), t.the_header))
    in
    let e = thirteen_outcome c.args.bandwidth c.args.words.now (length c.args.cc1.now) (length c.args.cc2.now) l (sym f) in record {
      value = c.into-then-not-take_row.ensures ∙ rw e;
      cc1_after = rw e;
      cc2_after = rw e;
    }

pub judge-requires : goal.judge-requires
judge-requires c =
    let t = c.if-not-take_row.false in
    let h = c.take_row.ensures.decides.yes t in (
      omega arith,
      h.0,
      h.1,
      row_front c.args.bandwidth c.args.words.now _ c.positions_of-p.result c.positions_of-p.ensures.value
          (omega (arith, c.positions_of-p.ensures.upper_bound, c.take_row.ensures.row_after.0)) (c.take_row.ensures.row_after.1 t),
    )

pub returns-in_default : goal.returns-in_default
unfolding write_answer channel_after
returns-in_default c =
    let e =
    thirteen_outcome c.args.bandwidth c.args.words.now (length c.args.cc1.now) (length c.args.cc2.now) (omega arith)
    (sym c.judge.ensures.told_value ∙ ap is_some c.in_default.is) in record {
      value = c.into-in_default.ensures ∙ rw e;
      cc1_after = rw e;
      cc2_after = rw e;
    }

pub write_told-requires : goal.write_told-requires
write_told-requires c =
    let n = c.in-Some.ensures.told_parts in (
      omega arith,
      row_front c.args.bandwidth c.args.words.now _ c.positions_of-p.result c.positions_of-p.ensures.value
          (omega (arith, c.positions_of-p.ensures.upper_bound, c.take_row.ensures.row_after.0))
          (c.take_row.ensures.row_after.1 (c.if-not-take_row.false)),
      sym c.judge.ensures.told_value ∙ ap is_some c.in-Some.is,
      n.0,
      n.1,
      n.2,
    )
