-- `overlaps::judge_length` meets its contract.
use borrow.Author.Rules.{rules}
use Rattle.trigger.specs.Reading.{above2}
use Rattle.overlaps.specs.Result.{not_whole, over32}
use Rattle.overlaps.proofs.judge_length.Goals as goal

pub returns-in_err-refuse_if : goal.returns-in_err-refuse_if
unfolding above2 not_whole over32
returns-in_err-refuse_if c = search rules

pub returns-in_err-refuse_if-2 : goal.returns-in_err-refuse_if-2
unfolding above2 not_whole over32
returns-in_err-refuse_if-2 c = search rules

pub returns : goal.returns
unfolding above2 not_whole over32
returns c = search rules
