-- `common_field::refuse_diff` meets its contract.
use native.Mathlib.Omega.{arith}
use borrow.Author.Tests.{lt-ltb, le-ltb}
use Rattle.common_field.specs.Engine.{differ_in}
use Rattle.common_field.proofs.refuse_diff.Goals as goal

pub returns-then-x-eq0 : goal.returns-then-x-eq0
unfolding differ_in
returns-then-x-eq0 c = rw (le-ltb 0 c.args.x (omega arith))

pub returns : goal.returns
unfolding differ_in
returns c = rw (lt-ltb 0 c.args.x (omega arith))
