-- `first_half::first_three` meets its contract.
use borrow.Author.Rules.{rules}
use Rattle.first_half.proofs.Screens.{lent_three}
use Rattle.halves.proofs.Stages.{at_most_512}
use Rattle.halves.specs.Engine.{outcome3}
use Rattle.std.proofs.Common.{sym, ◌∙◌}
use Rattle.first_half.proofs.first_three.Goals as goal

pub returns-then-is_lent : goal.returns-then-is_lent
returns-then-is_lent c = sym (lent_three c.args.bw c.args.a.now c.args.b.now (sym c.is_lent.ensures ∙ c.if-is_lent.true))

pub returns-in_err-first_checks : goal.returns-in_err-first_checks
unfolding outcome3
returns-in_err-first_checks c = search rules

pub cut_common-requires : goal.cut_common-requires
cut_common-requires c = at_most_512 _ _ _ (sym c.first_checks.ensures ∙ c.in_ok-first_checks.was)

pub returns : goal.returns
unfolding outcome3
returns c = search rules
