-- `word_bytes::get_words` meets its contract.
use Rattle.word_bytes.specs.Bytes.{word_at}
use Rattle.answer.proofs.Lists.{filled_start, filled_step}
use native.Mathlib.Omega.{arith}
use Rattle.word_bytes.proofs.get_words.Goals as goal

pub loop-i-init : goal.loop-i-init
loop-i-init c = filled_start _ _

pub loop-i-preserved : goal.loop-i-preserved
loop-i-preserved c =
    rw c.loop-i.invariant (filled_step (word_at c.args.bytes.now) c.loop-i.i c.word_in.result c.args.local.now (omega arith) c.word_in.ensures)
