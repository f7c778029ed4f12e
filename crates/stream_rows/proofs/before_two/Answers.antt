-- `stream_rows::before_two` meets its contract.
use mathlib.Core.Path.{refl}
use native.Mathlib.Omega.{arith}
use Rattle.stream_rows.specs.Engine.{gather, before_two}
use Rattle.stream_rows.proofs.Worked.{two_next}
use Rattle.stream_rows.proofs.before_two.Goals as goal

pub loop-i-init : goal.loop-i-init
unfolding gather before_two
loop-i-init c = (refl, omega arith)

pub loop-i-preserved : goal.loop-i-preserved
loop-i-preserved c = (omega (arith, two_next c.args.users c.loop-i.i), omega arith)
