-- `first_half::not_carried` meets its contract.
use borrow.Author.Rules.{rules}
use Rattle.halves.proofs.Carried.{sixteen_passes}
use Rattle.halves.specs.Engine.{all_carried}
use Rattle.halves.specs.Table.{check6}
use Rattle.std.proofs.Common.{sym, ◌∙◌, ap}
use Rattle.first_half.proofs.not_carried.Goals as goal

pub returns-then-all_carried : goal.returns-then-all_carried
returns-then-all_carried c =
    let h = ap all_carried (sym c.requires.1) ∙ sym c.all_carried.ensures ∙ c.if-all_carried.true in
    sym (sixteen_passes c.args.bw c.args.a.now c.args.b.now c.requires.0 h)

pub returns-in_err-not_carried : goal.returns-in_err-not_carried
unfolding check6
returns-in_err-not_carried c = search rules

pub returns : goal.returns
unfolding check6
returns c = search rules
