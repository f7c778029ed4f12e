--
use Rattle.text.proofs.Laws.{no_item, item}
use Rattle.std.proofs.Common.{arith}
use Rattle.compare.proofs.put_overflows.Goals as goal

pub loop-k-init : goal.loop-k-init
loop-k-init c = (omega arith, no_item _ _ _, omega arith)

pub loop-k-preserved : goal.loop-k-preserved
loop-k-preserved c = (omega arith, item _ _ c.loop-k.invariant.1 c.put_overflow_turn-e.ensures.wrote, omega (arith, c.put_overflow_turn-e.ensures.bounded))
