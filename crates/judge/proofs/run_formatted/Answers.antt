-- `judge::run_formatted` meets its contract.
use Rattle.std.proofs.Common.{ℕ, ◌+◌, Bool}
use Rattle.answer.specs.Lists.{at}
use Rattle.answer.proofs.Every.{every_next}
use Rattle.judge.specs.Engine.{formatted}
use Rattle.judge.proofs.run_formatted.Goals as goal

pub loop-i-preserved : goal.loop-i-preserved
unfolding formatted
loop-i-preserved c =
    let t : ℕ → Bool = λ q. formatted c.args.shared (at c.args.words.now (c.args.j + q)) in
    (c.loop-i.invariant.0, rw (c.loop-i.invariant.1, c.is_known-all.ensures, c.loop-i.invariant.0) (every_next t c.loop-i.i))
