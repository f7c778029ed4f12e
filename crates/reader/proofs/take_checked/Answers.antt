-- `reader::take_checked` meets its contract.
use borrow.Author.Rules.{rules}
use Rattle.std.proofs.Common.{◌+◌, sym, ◌∙◌}
use Rattle.answer.proofs.Lists.{front_filled}
use Rattle.answer.proofs.Order.{or_next}
use Rattle.channel.specs.Layout.{user_of}
use Rattle.stations.proofs.Gathered.{twice_held}
use Rattle.halves.specs.Table.{check10, check11}
use Rattle.halves.specs.Engine.{outcome9to11}
use Rattle.halves.proofs.Stages.{pass_next}
use Rattle.reader.proofs.Cut.{cut_first, cut_second, none_cut}
use Rattle.reader.proofs.take_checked.Goals as goal

pub returns-then-is_short_users-clause-value : goal.returns-then-is_short_users-clause-value
returns-then-is_short_users-clause-value c =
    let r = cut_first c.args.bw c.args.a.now c.args.b.now c.args.n c.args.m c.requires.4 c.requires.5 _ c.cut_users.ensures
    (sym c.is_short_users.ensures ∙ c.if-is_short_users.true) in
    r.said

pub returns-then-is_short_users-clause-fields_after : goal.returns-then-is_short_users-clause-fields_after
returns-then-is_short_users-clause-fields_after c =
    let r = cut_first c.args.bw c.args.a.now c.args.b.now c.args.n c.args.m c.requires.4 c.requires.5 _ c.cut_users.ensures
    (sym c.is_short_users.ensures ∙ c.if-is_short_users.true) in
    λ p. absurd (r.not_passed p)

pub returns-then-is_short_users-2-clause-value : goal.returns-then-is_short_users-2-clause-value
returns-then-is_short_users-2-clause-value c =
    let t = sym c.is_short_users.ensures ∙ c.if-is_short_users.false in
    let r = cut_second c.args.bw c.args.a.now c.args.b.now c.args.n c.args.m c.requires.4 c.requires.5 t _ c.cut_users-then-is_short_users-2.ensures
    (sym c.is_short_users-2.ensures ∙ c.if-is_short_users-2.true) in
    r.said

pub returns-then-is_short_users-2-clause-fields_after : goal.returns-then-is_short_users-2-clause-fields_after
returns-then-is_short_users-2-clause-fields_after c =
    let t = sym c.is_short_users.ensures ∙ c.if-is_short_users.false in
    let r = cut_second c.args.bw c.args.a.now c.args.b.now c.args.n c.args.m c.requires.4 c.requires.5 t _ c.cut_users-then-is_short_users-2.ensures
    (sym c.is_short_users-2.ensures ∙ c.if-is_short_users-2.true) in
    λ p. absurd (r.not_passed p)

pub returns-in_err-take_users-clause-value : goal.returns-in_err-take_users-clause-value
unfolding outcome9to11 check10
returns-in_err-take_users-clause-value c =
    let nine = none_cut c.args.bw c.args.a.now c.args.b.now c.args.n c.args.m c.requires.4 c.requires.5
    (sym c.is_short_users.ensures ∙ c.if-is_short_users.false)
    (sym c.is_short_users-2.ensures ∙ c.if-is_short_users-2.false) in
    rw nine (search rules)

pub returns-clause-value : goal.returns-clause-value
unfolding outcome9to11 check10 check11
returns-clause-value c =
    let nine = none_cut c.args.bw c.args.a.now c.args.b.now c.args.n c.args.m c.requires.4 c.requires.5
    (sym c.is_short_users.ensures ∙ c.if-is_short_users.false)
    (sym c.is_short_users-2.ensures ∙ c.if-is_short_users-2.false) in
    let f = front_filled (user_of c.args.bw c.args.a.now c.args.b.now c.args.n) (c.args.n + c.args.m) c.args.fields.now _
    (c.take_users.ensures.fields_after c.in_ok-take_users.was) in
    pass_next (or_next _ _ nine ∙ sym c.take_users.ensures.value ∙ c.in_ok-take_users.was)
    (rw (← c.requires.4, ← c.requires.5) (c.station_twice.ensures ∙ twice_held c.args.bw c.args.a.now c.args.b.now c.take_users.new.fields c.args.n
    c.args.m f))
