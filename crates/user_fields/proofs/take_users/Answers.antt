-- `user_fields::take_users` meets its contract.
use mathlib.Core.Path.{sym, ◌∙◌}
use native.Mathlib.Omega.{arith}
use Rattle.answer.proofs.Order.{or_pass, or_next}
use Rattle.user_fields.proofs.Fields.{right_passes, wrong_refuses, wrong_first_lem, none_right, one_filled, both_filled}
use Rattle.user_fields.proofs.take_users.Goals as goal

pub returns-then-not-take_fields-clause-value : goal.returns-then-not-take_fields-clause-value
returns-then-not-take_fields-clause-value c = let h = sym c.take_fields.ensures.value ∙ c.if-not-take_fields.true in
    c.wrong_users.ensures ∙ wrong_first_lem c.args.bw 1 c.args.a.now c.args.n c.requires.3 _ h

pub returns-then-not-take_fields-clause-fields_after : goal.returns-then-not-take_fields-clause-fields_after
returns-then-not-take_fields-clause-fields_after c = let h = sym c.take_fields.ensures.value ∙ c.if-not-take_fields.true in
    λ p. absurd (wrong_refuses c.args.bw 1 c.args.a.now c.args.n c.requires.3 h (sym c.wrong_users.ensures ∙ p))

pub returns-then-m-eq0-clause-value : goal.returns-then-m-eq0-clause-value
returns-then-m-eq0-clause-value c = let f = sym c.take_fields.ensures.value ∙ c.if-not-take_fields.false in
    sym
    (or_pass _ _ (right_passes c.args.bw 1 c.args.a.now c.args.n c.requires.3 f)
    (right_passes c.args.bw 2 c.args.b.now c.args.m c.requires.4 (none_right c.args.bw c.args.b.now c.args.m c.if-m-eq0.true)))

pub returns-then-m-eq0-clause-fields_after : goal.returns-then-m-eq0-clause-fields_after
returns-then-m-eq0-clause-fields_after c = let f = sym c.take_fields.ensures.value ∙ c.if-not-take_fields.false in
    λ _. one_filled c.args.bw c.args.a.now c.args.b.now c.args.fields.now c.take_fields.new.fields c.args.n c.args.m c.if-m-eq0.true
    c.take_fields.ensures.fields_after

pub returns-then-not-take_fields-2-clause-value : goal.returns-then-not-take_fields-2-clause-value
returns-then-not-take_fields-2-clause-value c = let f = sym c.take_fields.ensures.value ∙ c.if-not-take_fields.false in
    let h = sym c.take_fields-2.ensures.value ∙ c.if-not-take_fields-2.true in
    c.wrong_users-then-not-take_fields-2.ensures ∙ sym (or_next _ _ (right_passes c.args.bw 1 c.args.a.now c.args.n c.requires.3 f))

pub returns-then-not-take_fields-2-clause-fields_after : goal.returns-then-not-take_fields-2-clause-fields_after
returns-then-not-take_fields-2-clause-fields_after c = let f = sym c.take_fields.ensures.value ∙ c.if-not-take_fields.false in
    let h = sym c.take_fields-2.ensures.value ∙ c.if-not-take_fields-2.true in
    λ p. absurd (wrong_refuses c.args.bw 2 c.args.b.now c.args.m c.requires.4 h (sym c.wrong_users-then-not-take_fields-2.ensures ∙ p))

pub returns-clause-value : goal.returns-clause-value
returns-clause-value c = let f = sym c.take_fields.ensures.value ∙ c.if-not-take_fields.false in
    let g = sym c.take_fields-2.ensures.value ∙ c.if-not-take_fields-2.false in
    sym
    (or_pass _ _ (right_passes c.args.bw 1 c.args.a.now c.args.n c.requires.3 f) (right_passes c.args.bw 2 c.args.b.now c.args.m c.requires.4 g))

pub returns-clause-fields_after : goal.returns-clause-fields_after
returns-clause-fields_after c = let f = sym c.take_fields.ensures.value ∙ c.if-not-take_fields.false in
    let g = sym c.take_fields-2.ensures.value ∙ c.if-not-take_fields-2.false in
    λ _. both_filled c.args.bw c.args.a.now c.args.b.now c.args.fields.now c.take_fields.new.fields c.take_fields-2.new.fields c.args.n c.args.m (omega arith)
    c.take_fields.ensures.fields_after c.take_fields-2.ensures.fields_after
