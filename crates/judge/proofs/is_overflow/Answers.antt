-- `judge::is_overflow` meets its contract.
use Rattle.std.proofs.Common.{arith}
use Rattle.judge.proofs.Words.{overflow_test}
use Rattle.judge.proofs.is_overflow.Goals as goal

pub returns : goal.returns
returns c = overflow_test c.args.x (omega arith)
