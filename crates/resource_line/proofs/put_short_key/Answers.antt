-- `resource_line::put_short_key` meets its contract.
use Rattle.std.proofs.Common.{arith, ◌≤◌}
use Rattle.stores.proofs.Laws.{over}
use Rattle.resource_line.proofs.Whole.{short_place, short_key}
use Rattle.resource_line.proofs.put_short_key.Goals as goal

pub returns-clause-wrote : goal.returns-clause-wrote
returns-clause-wrote c = let m : c.last_place-j.result ≤ 8 = rw c.last_place-j.ensures.0 (short_place c.args.k c.requires.0) in
    let w = over _ _ c.last_place-j.result m (omega arith) c.put_eight.ensures.wrote c.put_eight-2.ensures.wrote in
    rw (c.last_place-j.ensures.0, c.first_of.ensures, c.last_of.ensures, short_key c.args.k c.requires.0) at w
