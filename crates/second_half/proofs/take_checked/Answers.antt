-- `second_half::take_checked` meets its contract.
use borrow.Author.Rules.{rules}
use Rattle.std.proofs.Common.{◌+◌, sym, ◌∙◌}
use Rattle.answer.proofs.Lists.{front_filled}
use Rattle.answer.proofs.Order.{or_refuse}
use Rattle.channel.specs.Layout.{user_of}
use Rattle.stations.proofs.Gathered.{twice_held}
use Rattle.halves.specs.Table.{check10, check11}
use Rattle.halves.proofs.Stages.{pass_next}
use Rattle.second_half.proofs.take_checked.Goals as goal

pub returns-in_err-take_users-clause-value : goal.returns-in_err-take_users-clause-value
unfolding check10
returns-in_err-take_users-clause-value c = search rules

pub returns-clause-value : goal.returns-clause-value
unfolding check10 check11
returns-clause-value c =
    let f = front_filled (user_of c.args.bw c.args.a.now c.args.b.now c.args.n) (c.args.n + c.args.m) c.args.fields.now _
    (c.take_users.ensures.fields_after c.in_ok-take_users.was) in
    pass_next (sym c.take_users.ensures.value ∙ c.in_ok-take_users.was)
    (rw (← c.requires.3, ← c.requires.4) (c.station_twice.ensures ∙ twice_held c.args.bw c.args.a.now c.args.b.now c.take_users.new.fields c.args.n
    c.args.m f))
