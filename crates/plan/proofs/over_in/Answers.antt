-- `plan::over_in` meets its contract.
use Rattle.std.proofs.Common.{refl, eq-eqb, ne_eqb}
use Rattle.plan.specs.Engine.{over_of}
use Rattle.plan.proofs.over_in.Goals as goal

pub returns-then-h : goal.returns-then-h
unfolding over_of
returns-then-h c = rw c.if-h.true refl

pub returns-then-h-ne0 : goal.returns-then-h-ne0
unfolding over_of
returns-then-h-ne0 c = rw (c.if-h.false, ne_eqb _ 0 c.if-h-ne0.true) refl

pub returns-then-h-ne0-2 : goal.returns-then-h-ne0-2
unfolding over_of
returns-then-h-ne0-2 c = rw (c.if-h.false, eq-eqb _ 0 c.if-h-ne0.false, ne_eqb _ 0 c.if-h-ne0-2.true) refl

pub returns-then-h-ne0-3 : goal.returns-then-h-ne0-3
unfolding over_of
returns-then-h-ne0-3 c = rw (c.if-h.false, eq-eqb _ 0 c.if-h-ne0.false, eq-eqb _ 0 c.if-h-ne0-2.false, ne_eqb _ 0 c.if-h-ne0-3.true) refl

pub returns-then-h-ne0-4 : goal.returns-then-h-ne0-4
unfolding over_of
returns-then-h-ne0-4 c =
    let e = eq-eqb _ 0 c.if-h-ne0-3.false in
    rw (c.if-h.false, eq-eqb _ 0 c.if-h-ne0.false, eq-eqb _ 0 c.if-h-ne0-2.false, e, ne_eqb _ 0 c.if-h-ne0-4.true) refl

pub returns-else-h-ne0-4 : goal.returns-else-h-ne0-4
unfolding over_of
returns-else-h-ne0-4 c =
    let e = eq-eqb _ 0 c.if-h-ne0-3.false in
    rw (c.if-h.false, eq-eqb _ 0 c.if-h-ne0.false, eq-eqb _ 0 c.if-h-ne0-2.false, e, eq-eqb _ 0 c.if-h-ne0-4.false) refl
