-- `stores::put_by_fours` meets its contract.
use native.Mathlib.Omega.{arith}
use Rattle.stores.proofs.Laws.{overlapped}
use Rattle.stores.proofs.put_by_fours.Goals as goal

pub returns-clause-wrote : goal.returns-clause-wrote
returns-clause-wrote c = let w = overlapped 4 c.args.j c.args.w c.requires.0 (omega arith) c.put_four.ensures c.put_four-2.ensures in
    w
