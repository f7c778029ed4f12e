-- `spans::whole_or` meets its contract.
use Rattle.kinds.specs.Engine.{whole_or}
use Rattle.spans.proofs.whole_or.Goals as goal

pub returns : goal.returns
unfolding whole_or
returns c = cc (c.family_of.ensures, c.family_of-2.ensures)
