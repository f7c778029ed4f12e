-- `stream_rows::fill_row` meets its contract.
use mathlib.Core.Path.{refl}
use native.Mathlib.Omega.{arith}
use lib.ListN.{length-set}
use Rattle.answer.proofs.Lists.{filled_start, filled_step}
use Rattle.stream_rows.specs.Engine.{entry_of}
use Rattle.stream_rows.proofs.fill_row.Goals as goal

pub loop-i-init : goal.loop-i-init
loop-i-init c = (filled_start _ _, refl)

pub loop-i-preserved : goal.loop-i-preserved
loop-i-preserved c = let f = entry_of c.args.shape.two c.args.shape.three c.args.shape.four in (
  rw c.loop-i.invariant.0 (filled_step f c.loop-i.i _ c.args.row.now (omega arith) c.entry.ensures.0),
  simp length-set c.loop-i.invariant.1,
)
