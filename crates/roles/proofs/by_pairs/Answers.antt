-- `roles::by_pairs` meets its contract.
use Rattle.roles.specs.Engine.{by_pairs}
use Rattle.roles.proofs.by_pairs.Goals as goal

pub returns-then-t-u : goal.returns-then-t-u
unfolding by_pairs
returns-then-t-u c = rw c.if-t-u.true c.over_eight.ensures

pub returns : goal.returns
unfolding by_pairs
returns c = rw (c.if-t-u.false, c.bits_if.ensures, c.bits_if-2.ensures)
