-- `resource_line::put_long_key` meets its contract.
use Rattle.std.proofs.Common.{arith, ◌≤◌}
use Rattle.text.proofs.Laws.{after}
use Rattle.stores.proofs.Laws.{over}
use Rattle.resource_line.proofs.Whole.{long_place, long_key}
use Rattle.resource_line.proofs.put_long_key.Goals as goal

pub returns-clause-wrote : goal.returns-clause-wrote
returns-clause-wrote c = let a = after c.put_eight-a.ensures.wrote c.put_eight.ensures.wrote in
    let m : 8 ≤ c.last_place-j.result = rw c.last_place-j.ensures.0 (long_place c.args.k c.requires.0 c.requires.1) in
    let w = over _ _ c.last_place-j.result (omega (arith, c.last_place-j.ensures.1)) (omega (arith, m)) a c.put_eight-2.ensures.wrote in
    let t = long_key c.args.k c.requires.0 c.requires.1 in
    rw (c.last_place-j.ensures.0, c.first_of.ensures, c.middle_of.ensures, c.last_of.ensures, t) at w
