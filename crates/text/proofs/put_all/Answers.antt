-- `text::put_all` meets its contract.
use Rattle.text.proofs.Laws.{past}
use Rattle.text.proofs.put_all.Goals as goal

pub returns-then-out-at : goal.returns-then-out-at
returns-then-out-at c = past _ _ _ c.if-out-at.true
