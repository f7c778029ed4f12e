-- `text::put_whole` meets its contract.
use mathlib.Core.Path.{refl}
use native.Mathlib.Omega.{arith}
use Rattle.text.proofs.Laws.{more}
use Rattle.text.proofs.put_whole.Goals as goal

pub loop-j-preserved : goal.loop-j-preserved
loop-j-preserved c = more c.args.s.now c.loop-j.j (omega arith) c.loop-j.invariant (record { bytes = refl; next = omega arith })
