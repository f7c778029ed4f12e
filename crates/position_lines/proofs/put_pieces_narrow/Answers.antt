-- `position_lines::put_pieces_narrow` meets its contract.
use Rattle.std.proofs.Common.{arith}
use Rattle.text.proofs.Laws.{count}
use Rattle.stores.proofs.Laws.{moved}
use Rattle.position_lines.proofs.put_pieces_narrow.Goals as goal

pub returns-clause-wrote : goal.returns-clause-wrote
returns-clause-wrote c = moved (omega arith) c.put_pieces_whole-end.ensures.wrote c.put_all.ensures

pub returns-clause-bounded : goal.returns-clause-bounded
returns-clause-bounded c =
    let w = moved (omega arith) c.put_pieces_whole-end.ensures.wrote c.put_all.ensures in
    omega (arith, w.next, count c.put_pieces_whole-end.ensures.wrote, c.put_pieces_whole-end.ensures.bounded.0)
