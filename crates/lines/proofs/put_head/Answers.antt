-- `lines::put_head` meets its contract.
use Rattle.std.proofs.Common.{arith}
use Rattle.stores.proofs.Laws.{moved}
use Rattle.lines.proofs.put_head.Goals as goal

pub returns-clause-wrote : goal.returns-clause-wrote
returns-clause-wrote c = moved (omega arith) c.put_head_whole-end.ensures.wrote c.put_all.ensures
