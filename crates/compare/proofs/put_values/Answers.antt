--
use Rattle.compare.specs.Engine.{value_turn}
use Rattle.answer.specs.Lists.{at as nth}
use Rattle.text.proofs.Laws.{no_item, item}
use Rattle.std.proofs.Common.{arith}
use Rattle.compare.proofs.put_values.Goals as goal

pub loop-p-init : goal.loop-p-init
loop-p-init c = (omega arith, no_item _ _ _, omega arith)

pub loop-p-preserved : goal.loop-p-preserved
loop-p-preserved c = (
  omega arith,
  item (λ q. value_turn q (nth c.args.row.now q) (nth c.args.row2.now q)) c.loop-p.p c.loop-p.invariant.1
      c.put_value_turn-e.ensures.wrote,
  omega (arith, c.put_value_turn-e.ensures.bounded),
)
