-- `first_half::cut_common` meets its contract.
use borrow.Author.Rules.{rules}
use Rattle.halves.specs.Table.{check3}
use Rattle.first_half.proofs.cut_common.Goals as goal

pub returns-in_err-cut_common : goal.returns-in_err-cut_common
unfolding check3
returns-in_err-cut_common c = search rules

pub returns : goal.returns
unfolding check3
returns c = search rules
