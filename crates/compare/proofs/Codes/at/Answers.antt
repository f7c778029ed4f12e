--
use Rattle.compare.specs.Engine.{code_at}
use Rattle.std.proofs.Common.{lt-ltb, le-ltb}
use Rattle.compare.proofs.Codes.at.Goals as goal

pub returns-then-i-self : goal.returns-then-i-self
unfolding code_at
returns-then-i-self c = rw (lt-ltb _ _ c.if-i-self.true) c.code_of.ensures

pub returns-else-i-self : goal.returns-else-i-self
unfolding code_at
returns-else-i-self c = rw (le-ltb _ _ c.if-i-self.false) c.code_of-else-i-self.ensures
