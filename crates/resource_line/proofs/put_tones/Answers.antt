-- `resource_line::put_tones` meets its contract.
use Rattle.std.proofs.Common.{arith, ◌≡◌, length, take}
use Rattle.text.proofs.Laws.{no_item, item}
use Rattle.resource_line.proofs.Held.{held_text}
use Rattle.resource_line.proofs.put_tones.Goals as goal

pub loop-i-init : goal.loop-i-init
loop-i-init c = (no_item _ _ _, omega arith)

pub loop-i-preserved : goal.loop-i-preserved
loop-i-preserved c = (item _ _ c.loop-i.invariant.0 c.put_run-o.ensures.wrote, omega arith)

pub returns-clause-wrote : goal.returns-clause-wrote
returns-clause-wrote c =
    let e : c.loop-i.i ≡ length (take c.args.t.count c.args.t.runs) = omega arith in
    rw (e, held_text c.args.n c.args.t) at c.loop-i.invariant.0
