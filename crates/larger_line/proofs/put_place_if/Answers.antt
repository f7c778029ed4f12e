-- `larger_line::put_place_if` meets its contract.
use Rattle.text.proofs.Laws.{nothing}
use Rattle.resource.specs.Engine.{the242}
use Rattle.larger_line.proofs.Larger.{comma_none, comma_one}
use Rattle.larger_line.proofs.put_place_if.Goals as goal

pub returns-then-own-clause-wrote : goal.returns-then-own-clause-wrote
returns-then-own-clause-wrote c = rw (c.if-own.true, comma_one c.args.n (the242 c.args.p)) (rw c.edge_of-lo.ensures.0 at c.put_span.ensures.wrote)

pub returns-clause-wrote : goal.returns-clause-wrote
returns-clause-wrote c = rw (c.if-own.false, comma_none c.args.n) (nothing _ _)
