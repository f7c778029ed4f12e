-- `stream_rows::before_three` meets its contract.
use mathlib.Core.Path.{refl}
use native.Mathlib.Omega.{arith}
use Rattle.stream_rows.specs.Engine.{gather, before_three}
use Rattle.stream_rows.proofs.Worked.{three_next}
use Rattle.stream_rows.proofs.before_three.Goals as goal

pub loop-i-init : goal.loop-i-init
unfolding gather before_three
loop-i-init c = (refl, omega arith)

pub loop-i-preserved : goal.loop-i-preserved
loop-i-preserved c = (omega (arith, three_next c.args.users c.args.a c.loop-i.i), omega arith)
