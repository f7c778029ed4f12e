-- `judge::is_three` meets its contract.
use Rattle.std.proofs.Common.{arith}
use Rattle.judge.proofs.Words.{none_test, all_test, two_test, one_test}
use Rattle.judge.proofs.is_three.Goals as goal

pub returns-then-n-p : goal.returns-then-n-p
returns-then-n-p c = none_test c.args.p c.args.n c.args.x (omega arith)

pub returns-then-p-n : goal.returns-then-p-n
returns-then-p-n c = all_test c.args.p c.args.n c.args.x (omega arith)

pub returns-then-p-n-2 : goal.returns-then-p-n-2
returns-then-p-n-2 c = two_test c.args.p c.args.n c.args.x (omega arith) (omega arith)

pub returns : goal.returns
returns c = one_test c.args.p c.args.n c.args.x (omega arith) (omega arith)
