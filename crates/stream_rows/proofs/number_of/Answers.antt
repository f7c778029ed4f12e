-- `stream_rows::number_of` meets its contract.
use mathlib.Core.Path.{◌≡◌, sym, ap, ◌∙◌}
use mathlib.Core.Bool.{true, false}
use Rattle.std.specs.Prelude.{is_some}
use lib.ListN.{length}
use Rattle.answer.specs.Answer.{no}
use Rattle.stream_rows.specs.Worked.{is_listed}
use Rattle.stream_rows.specs.Result.{not2to8, not_row, number_answer}
use Rattle.stream_rows.proofs.number_of.Goals as goal

pub returns-then-n : goal.returns-then-n
unfolding number_answer not_row
returns-then-n c = let e : not2to8 (length c.args.row.now) ≡ true = c.if-n.true in rw e c.into.ensures

pub returns-in-None : goal.returns-in-None
unfolding number_answer not_row
returns-in-None c = let u : not2to8 (length c.args.row.now) ≡ false = c.if-n.false in
    let e : is_listed c.args.row.now ≡ false = sym c.count_row.ensures.listed ∙ ap is_some c.in-None.is in
    rw (u, e) c.into-in-None.ensures

pub returns-in-Some : goal.returns-in-Some
unfolding number_answer not_row
returns-in-Some c = let u : not2to8 (length c.args.row.now) ≡ false = c.if-n.false in
    let e : is_listed c.args.row.now ≡ true = sym c.count_row.ensures.listed ∙ ap is_some c.in-Some.is in
    rw (u, e) (c.accepted.ensures ∙ ap (no 0 0) (c.number_with.ensures ∙ sym c.in-Some.ensures.numbered.exactly))
