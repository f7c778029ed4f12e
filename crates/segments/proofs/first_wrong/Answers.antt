-- `segments::first_wrong` meets its contract.
use Rattle.segments.proofs.Entries.{kind_held, wrong_at_lem}
use lib.ListN.{length}
use Rattle.segments.specs.Engine.{wrong_at, first_wrong}
use Rattle.answer.proofs.Least.{least_start, least_step, least_stop}
use mathlib.Core.Path.{◌≡◌, sym, ◌∙◌}
use native.Mathlib.Omega.{arith}
use Rattle.std.proofs.Common.{ap, not}
use Rattle.segments.proofs.first_wrong.Goals as goal

pub is_right-requires : goal.is_right-requires
is_right-requires c = let k = kind_held c.args.row.now _ c.loop-p.p (omega arith) c.requires.1 in (k.0, omega arith, omega arith)

pub loop-p-init : goal.loop-p-init
loop-p-init c = least_start _

pub returns-then-not-is_right : goal.returns-then-not-is_right
unfolding first_wrong
returns-then-not-is_right c = sym (least_stop (wrong_at c.args.row.now) c.loop-p.p (length c.args.row.now) (omega arith) c.loop-p.invariant
    (wrong_at_lem c.args.row.now c.loop-p.p _ _ (kind_held c.args.row.now _ c.loop-p.p (omega arith) c.requires.1).1 c.is_right.ensures ∙
    (ap not c.if-not-is_right.true)))

pub loop-p-preserved : goal.loop-p-preserved
loop-p-preserved c = least_step _ _ c.loop-p.invariant
    (wrong_at_lem c.args.row.now c.loop-p.p _ _ (kind_held c.args.row.now _ c.loop-p.p (omega arith) c.requires.1).1 c.is_right.ensures
    ∙ ap not c.if-not-is_right.false)

pub returns : goal.returns
unfolding first_wrong
returns c = let e : c.loop-p.p ≡ length c.args.row.now = omega arith in rw (← e) (sym c.loop-p.invariant)
