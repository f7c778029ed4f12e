-- `roles::own_bits` meets its contract.
use native.Mathlib.Omega.{arith}
use lib.Bits.{and_high}
use Rattle.roles.specs.Engine.{own_bits}
use Rattle.roles.proofs.own_bits.Goals as goal

pub returns : goal.returns
unfolding own_bits
returns c = let e = and_high c.args.r0 1 8 in let f = and_high c.args.r1 1 9 in
    let g = and_high c.args.r2 1 10 in let h = and_high c.args.r3 1 11 in (omega arith, omega arith)
