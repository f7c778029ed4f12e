-- `second_half::check_users` meets its contract.
use borrow.Author.Rules.{rules}
use native.Mathlib.Omega.{arith}
use Rattle.std.proofs.Common.{sym, ◌∙◌}
use Rattle.answer.proofs.Order.{or_assoc}
use Rattle.halves.specs.Table.{check9, check10, check11}
use Rattle.halves.specs.Engine.{outcome9to11}
use Rattle.halves.proofs.Stages.{pass_next}
use Rattle.second_half.proofs.Reached.{reached}
use Rattle.second_half.proofs.check_users.Goals as goal

pub returns-in_err-cut_users-clause-value : goal.returns-in_err-cut_users-clause-value
unfolding outcome9to11
returns-in_err-cut_users-clause-value c = search rules

pub take_checked-requires : goal.take_checked-requires
take_checked-requires c =
    let f = sym c.cut_users.ensures ∙ c.in_ok-cut_users.was in
    let r = reached c.args.bw c.args.a.now c.args.b.now c.args.n c.args.m c.requires.4 c.requires.5 f in
    search rules

pub returns-clause-value : goal.returns-clause-value
unfolding outcome9to11
returns-clause-value c =
    let f = sym c.cut_users.ensures ∙ c.in_ok-cut_users.was in
    pass_next f c.take_checked.ensures.value
    ∙ sym (or_assoc (check9 c.args.bw c.args.a.now c.args.b.now) (check10 c.args.bw c.args.a.now c.args.b.now) (check11 c.args.bw c.args.a.now c.args.b.now))
