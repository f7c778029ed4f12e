-- `stream_rows::judge_row` meets its contract.
use borrow.Author.Rules.{rules}
use Rattle.stream_rows.specs.Result.{no_row, no_row_room, row_outcome}
use Rattle.stream_rows.proofs.judge_row.Goals as goal

pub returns-in_err-refuse_if : goal.returns-in_err-refuse_if
unfolding row_outcome no_row no_row_room
returns-in_err-refuse_if c = search rules

pub returns : goal.returns
unfolding row_outcome no_row no_row_room
returns c = search rules
