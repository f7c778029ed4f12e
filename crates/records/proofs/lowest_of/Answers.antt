-- `records::lowest_of` meets its contract.
use Rattle.records.specs.Engine.{lowest}
use Rattle.std.proofs.Common.{arith}
use Rattle.records.proofs.lowest_of.Goals as goal

pub returns : goal.returns
unfolding lowest
returns c = (rw (c.start_of.ensures.1, c.lead_of.ensures.0), omega arith)
