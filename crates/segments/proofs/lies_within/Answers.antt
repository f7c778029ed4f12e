-- `segments::lies_within` meets its contract.
use Rattle.segments.proofs.Steps.{one_bit}
use Rattle.segments.specs.Engine.{within}
use Prim.Native.Nat.{◌-◌}
use native.Mathlib.Omega.{arith}
use Rattle.segments.proofs.lies_within.Goals as goal

pub returns : goal.returns
unfolding within
returns c = rw (one_bit (c.args.n - c.start_of.result) 18446744073709551616 (omega arith) (omega arith))
    (cc (c.mask_of.ensures, c.start_of.ensures.1))
