-- `text::put_each` meets its contract.
use native.Mathlib.Omega.{arith}
use Rattle.text.proofs.Laws.{more}
use Rattle.text.proofs.put_each.Goals as goal

pub loop-b-preserved : goal.loop-b-preserved
loop-b-preserved c = more _ _ (omega arith) c.loop-b.invariant c.put-o.ensures
