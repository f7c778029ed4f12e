-- `plan::tell` meets its contract.
use Rattle.std.proofs.Common.{arith}
use Rattle.plan.specs.Engine.{with_kinds}
use Rattle.plan.proofs.Value.{tells_plan}
use Rattle.plan.proofs.Roles.{cast_all}
use Rattle.plan.proofs.Told.{told_plan, told_over, glance_passes}
use Rattle.plan.proofs.tell.Goals as goal

pub returns : goal.returns
unfolding with_kinds
returns c =
    let cast = cast_all c.args.row.now _ (omega arith) _ c.no_role-roles.ensures c.enter_roles.ensures in (
      glance_passes _ _ _ _ c.tell_from.ensures,
      λ l. tells_plan c.args.row.now _ _ (told_plan c.args.row.now _ (omega arith) cast _ c.tell_from.ensures l),
      told_over c.args.row.now _ (omega arith) cast _ c.tell_from.ensures,
    )
