-- `stores::put_by_twos` meets its contract.
use native.Mathlib.Omega.{arith}
use Rattle.stores.proofs.Laws.{overlapped}
use Rattle.stores.proofs.put_by_twos.Goals as goal

pub returns-clause-wrote : goal.returns-clause-wrote
returns-clause-wrote c = let w = overlapped 2 c.args.j c.args.w c.requires.0 (omega arith) c.put_two.ensures c.put_two-2.ensures in
    w
