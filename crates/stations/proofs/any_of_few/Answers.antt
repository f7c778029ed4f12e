-- `stations::any_of_few` meets its contract.
use native.Mathlib.Omega.{arith}
use Rattle.stations.proofs.Gathered.{again_none, again_more}
use Rattle.stations.proofs.any_of_few.Goals as goal

pub loop-j-init : goal.loop-j-init
loop-j-init g c = (omega arith, again_none _)

pub loop-j-preserved : goal.loop-j-preserved
loop-j-preserved g c = (omega arith, again_more _ c.loop-j.j c.loop-j.again _ c.loop-j.invariant.1 c.stands_again-again.ensures)
