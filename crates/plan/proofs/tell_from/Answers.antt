-- `plan::tell_from` meets its contract.
use Rattle.std.proofs.Common.{◌∙◌, ap, arith}
use Rattle.plan.specs.Engine.{with_kinds}
use Rattle.plan.proofs.Roles.{lone_glance}
use Rattle.plan.proofs.tell_from.Goals as goal

pub returns-then-roles-eq1 : goal.returns-then-roles-eq1
returns-then-roles-eq1 c =
    ap (with_kinds c.lone.result) c.requires.3
    ∙ c.lone.ensures
    ∙ lone_glance c.args.roles.now (λ p l u. c.requires.2 p (omega arith) u) c.if-roles-eq1.true _ c.if-n-eq1.true
