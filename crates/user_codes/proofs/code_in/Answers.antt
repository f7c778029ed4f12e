-- `user_codes::code_in` meets its contract.
use Rattle.std.proofs.Common.{lt-ltb, le-ltb}
use Rattle.user_codes.specs.Engine.{code_in}
use Rattle.user_codes.proofs.code_in.Goals as goal

pub returns-then-i-lt144 : goal.returns-then-i-lt144
unfolding code_in
returns-then-i-lt144 c = rw (c.from.ensures, lt-ltb _ 144 c.if-i-lt144.true)

pub returns-else-i-lt144 : goal.returns-else-i-lt144
unfolding code_in
returns-else-i-lt144 c = rw (le-ltb _ 144 c.if-i-lt144.false)
