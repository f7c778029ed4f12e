-- `first_half::first_five` meets its contract.
use borrow.Author.Rules.{rules}
use Rattle.first_half.proofs.Screens.{passed_three}
use Rattle.halves.proofs.Stages.{three_pass}
use Rattle.halves.specs.Engine.{outcome5}
use Rattle.std.proofs.Common.{sym, ◌∙◌}
use Rattle.first_half.proofs.first_five.Goals as goal

pub returns-in_err-first_three-clause-value : goal.returns-in_err-first_three-clause-value
unfolding outcome5
returns-in_err-first_three-clause-value c = search rules

pub next_two-requires : goal.next_two-requires
next_two-requires c = (three_pass c.args.bw c.args.a.now c.args.b.now (sym c.first_three.ensures ∙ c.in_ok-first_three.was), c.requires)

pub returns-clause-value : goal.returns-clause-value
returns-clause-value c = passed_three c.args.bw c.args.a.now c.args.b.now _ _ c.first_three.ensures c.in_ok-first_three.was c.next_two.ensures.value
