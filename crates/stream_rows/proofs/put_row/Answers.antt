-- `stream_rows::put_row` meets its contract.
use mathlib.Core.Path.{sym, ◌∙◌}
use lib.ListN.{length}
use Rattle.stream_rows.proofs.Judged.{row_passed}
use Rattle.answer.proofs.Lists.{filled_cong}
use Rattle.stream_rows.specs.Result.{row_answer, row_after}
use Rattle.stream_rows.proofs.Worked.{row_entries}
use Rattle.stream_rows.proofs.put_row.Goals as goal

pub decode-shape-requires : goal.decode-shape-requires
decode-shape-requires c = let p = row_passed c.args.users c.args.number (length c.args.row.now) (sym c.judge_row-judged.ensures ∙ c.in_default.is) in
    (p.to_8, p.numbered)

pub fill_row-requires : goal.fill_row-requires
fill_row-requires c = let f = sym c.judge_row-judged.ensures ∙ c.in_default.is in
    (row_passed c.args.users c.args.number (length c.args.row.now) f).room

pub returns-in-Err-clause-value : goal.returns-in-Err-clause-value
unfolding row_answer row_after
returns-in-Err-clause-value c = let f = sym c.judge_row-judged.ensures ∙ c.in-Err.is in
    rw f c.into.ensures

pub returns-in-Err-clause-row_after : goal.returns-in-Err-clause-row_after
unfolding row_answer row_after
returns-in-Err-clause-row_after c = let f = sym c.judge_row-judged.ensures ∙ c.in-Err.is in
    rw f

pub returns-clause-value : goal.returns-clause-value
unfolding row_answer row_after
returns-clause-value c = let f =
    sym c.judge_row-judged.ensures
    ∙ c.in_default.is in
    rw f c.accepted.ensures

pub returns-clause-row_after : goal.returns-clause-row_after
unfolding row_answer row_after
returns-clause-row_after c = let f =
    sym c.judge_row-judged.ensures
    ∙ c.in_default.is in
    rw f
    (c.fill_row.ensures
    ∙ sym (filled_cong _ _ c.args.users c.args.row.now (row_entries c.args.users c.decode-shape.ensures)))
