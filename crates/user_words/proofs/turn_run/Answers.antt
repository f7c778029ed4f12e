-- `user_words::turn_run` meets its contract.
use Rattle.std.proofs.Common.{◌≡◌, ◌∙◌, ap, arith}
use Rattle.answer.specs.Lists.{at}
use Rattle.answer.proofs.Lists.{filled_start, filled_step, get_d_kept}
use Rattle.words.specs.Words.{user_word}
use Rattle.user_words.specs.Engine.{run_word}
use Rattle.user_words.proofs.turn_run.Goals as goal

pub loop-i-init : goal.loop-i-init
loop-i-init c = filled_start _ _

pub loop-i-preserved : goal.loop-i-preserved
unfolding run_word
loop-i-preserved c =
    let f = run_word c.args.fields.now c.args.shared in
    -- the field is still as it was lent
    let k : at c.loop-i.fields c.loop-i.i ≡ at c.args.fields.now c.loop-i.i = rw c.loop-i.invariant
    (get_d_kept f c.loop-i.i c.args.fields.now c.loop-i.i 0 (omega arith)) in
    rw c.loop-i.invariant (filled_step f c.loop-i.i c.user_word.result c.args.fields.now (omega arith)
    (c.user_word.ensures ∙ ap (user_word c.args.shared) k))
