-- `plan::first_unheld` meets its contract.
use Rattle.std.proofs.Common.{◌≡◌, ◌+◌, ◌/◌, length, arith, not, inr, refl, sym, ◌∙◌, ap}
use Rattle.plan.proofs.Steps.{whole_holds}
use Rattle.plan.proofs.Value.{kinds_given}
use Rattle.plan.specs.Engine.{held_by, first_unheld}
use Rattle.answer.proofs.Least.{least_start, least_step, least_stop}
use Rattle.plan.proofs.first_unheld.Goals as goal

pub part_right-requires : goal.part_right-requires
part_right-requires c = (omega arith, inr (inr refl), omega arith, kinds_given _ _ c.requires.2)

pub returns-then-part_right-clause-none : goal.returns-then-part_right-clause-none
returns-then-part_right-clause-none c = whole_holds _ (omega arith) (sym c.part_right.ensures ∙ c.if-part_right.true)

pub loop-s-init : goal.loop-s-init
loop-s-init c = least_start _

pub returns-then-not-is_held-clause-found : goal.returns-then-not-is_held-clause-found
unfolding first_unheld
returns-then-not-is_held-clause-found c = (
  omega arith,
  sym (least_stop (λ t. not (held_by _ t)) _ _ (omega arith) c.loop-s.invariant (rw (← c.is_held.ensures) (ap not c.if-not-is_held.true))),
)

pub loop-s-preserved : goal.loop-s-preserved
loop-s-preserved c = least_step _ _ c.loop-s.invariant (rw (← c.is_held.ensures) (ap not c.if-not-is_held.false))

pub returns-clause-none : goal.returns-clause-none
unfolding first_unheld
returns-clause-none c = let e : c.loop-s.s ≡ (length c.args.row.now + 3) / 4 = omega arith in rw (← e) (sym c.loop-s.invariant)
