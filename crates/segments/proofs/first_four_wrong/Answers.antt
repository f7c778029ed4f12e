-- `segments::first_four_wrong` meets its contract.
use Prim.Native.Nat.{◌*◌, ◌/◌}
use mathlib.Core.Path.{◌≡◌, sym, ◌∙◌, ap}
use mathlib.Core.Bool.{not}
use native.Mathlib.Omega.{arith}
use lib.ListN.{length}
use Rattle.answer.specs.Lists.{at}
use Rattle.answer.proofs.Least.{least_start, least_step, least_stop}
use Rattle.segments.specs.Engine.{four_right, first_four_wrong}
use Rattle.segments.proofs.first_four_wrong.Goals as goal

pub loop-s-init : goal.loop-s-init
loop-s-init c = least_start _

pub returns-then-not-is_four_right : goal.returns-then-not-is_four_right
unfolding first_four_wrong
returns-then-not-is_four_right c = sym (least_stop (λ k. not (four_right (at c.args.row.now) (4 * k))) c.loop-s.s (length c.args.row.now / 4) (omega arith)
    c.loop-s.invariant
    (ap not (sym c.is_four_right.ensures) ∙ (ap not c.if-not-is_four_right.true)))

pub loop-s-preserved : goal.loop-s-preserved
loop-s-preserved c = least_step (λ k. not (four_right (at c.args.row.now) (4 * k))) c.loop-s.s c.loop-s.invariant
    (ap not (sym c.is_four_right.ensures) ∙ (ap not c.if-not-is_four_right.false))

pub returns : goal.returns
unfolding first_four_wrong
returns c = let e : c.loop-s.s ≡ length c.args.row.now / 4 = omega arith in rw (← e) (sym c.loop-s.invariant)
