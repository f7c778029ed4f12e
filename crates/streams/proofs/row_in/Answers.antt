-- `streams::row_in` meets its contract.
use Rattle.std.proofs.Common.{ℕ, arith, replicate}
use lib.ListN.{length-replicate}
use Rattle.answer.proofs.Lists.{filled_start, filled_step}
use Rattle.words.specs.Engine.{value_of}
use Rattle.words.proofs.Laws.{value_of_lt}
use Rattle.streams.proofs.row_in.Goals as goal

pub loop-p-init : goal.loop-p-init
loop-p-init c = filled_start _ _

pub overflow_cast-row : goal.overflow_cast-row
overflow_cast-row c = let l = value_of_lt c.args.words.now c.loop-p.p in omega (arith, c.value_of.ensures, l)

pub loop-p-preserved : goal.loop-p-preserved
loop-p-preserved c =
    rw c.loop-p.invariant (filled_step (value_of c.args.words.now) c.loop-p.p _ (replicate 16 0) (omega (arith, length-replicate {A = ℕ} 16 0))
    c.value_of.ensures)
