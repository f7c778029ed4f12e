-- `text::put_four` meets its contract.
use Rattle.text.specs.Text.{decs}
use Rattle.text.proofs.Laws.{past}
use Rattle.text.proofs.put_four.Goals as goal

pub returns-then-out-at : goal.returns-then-out-at
returns-then-out-at c = rw c.digits_of.ensures.1 (past c.args.out.now c.args.at (decs 20 c.args.n) c.if-out-at.true)
