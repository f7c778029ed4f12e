-- `first_half::first_checks` meets its contract.
use borrow.Author.Rules.{rules}
use Rattle.halves.specs.Table.{check1, check2}
use Rattle.first_half.proofs.first_checks.Goals as goal

pub returns-in_err-refuse_if : goal.returns-in_err-refuse_if
unfolding check1 check2
returns-in_err-refuse_if c = search rules

pub returns-in_err-too_long : goal.returns-in_err-too_long
unfolding check1 check2
returns-in_err-too_long c = search rules

pub returns : goal.returns
unfolding check1 check2
returns c = search rules
