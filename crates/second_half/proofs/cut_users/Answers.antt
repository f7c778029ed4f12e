-- `second_half::cut_users` meets its contract.
use borrow.Author.Rules.{rules}
use Rattle.std.proofs.Common.{sym, ◌∙◌}
use Rattle.halves.specs.Table.{check9}
use Rattle.halves.proofs.Stages.{none_short_9}
use Rattle.second_half.proofs.cut_users.Goals as goal

pub returns-then-not-short : goal.returns-then-not-short
returns-then-not-short c =
    sym
    (none_short_9 c.args.bw c.args.a.now c.args.b.now c.args.n c.args.m c.requires.3 c.requires.4
    (rw (← c.is_short_users.ensures, ← c.is_short_users-2.ensures) (c.if-not-short.true)))

pub returns-in_err-cut_users : goal.returns-in_err-cut_users
unfolding check9
returns-in_err-cut_users c = search rules

pub returns : goal.returns
unfolding check9
returns c = search rules
