-- `plan::wide_kinds` meets its contract.
use Rattle.std.proofs.Common.{arith}
use Rattle.plan.proofs.Value.{kinds_entered}
use Rattle.plan.proofs.wide_kinds.Goals as goal

pub returns : goal.returns
returns c = kinds_entered _ _ (omega arith) c.enter_span.ensures
