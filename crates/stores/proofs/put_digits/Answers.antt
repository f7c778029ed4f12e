-- `stores::put_digits` meets its contract.
use native.Mathlib.Omega.{arith}
use Prim.Native.Nat.{◌≤◌}
use Rattle.stores.proofs.Laws.{one_digit, lead_few, digits_bytes}
use Rattle.stores.proofs.put_digits.Goals as goal

pub returns-then-n-lt10-clause-wrote : goal.returns-then-n-lt10-clause-wrote
returns-then-n-lt10-clause-wrote c = one_digit _ c.if-n-lt10.true c.put.ensures

pub put_short-requires : goal.put_short-requires
put_short-requires c = let m : c.lead_of.result ≤ 2 = rw c.lead_of.ensures.0 (lead_few c.args.n c.if-n-lt10.false) in
    (omega (arith, m), omega arith, omega (arith, c.requires.1), c.requires.2)

pub returns-clause-wrote : goal.returns-clause-wrote
returns-clause-wrote c = rw (c.lead_of.ensures.0, c.digits_of.ensures.0, digits_bytes c.args.n c.requires.0) at c.put_short.ensures.wrote
