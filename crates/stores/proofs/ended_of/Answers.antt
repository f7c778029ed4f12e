-- `stores::ended_of` meets its contract.
use native.Mathlib.Omega.{arith}
use native.Mathlib.Nat.{div-le_self}
use Prim.Native.Nat.{◌+◌, ◌*◌, ◌^◌}
use Rattle.stores.specs.Engine.{ended_of}
use Rattle.stores.proofs.ended_of.Goals as goal

pub returns : goal.returns
unfolding ended_of
returns c = let x = c.four_of.result + c.args.c * 4294967296 in
    (rw (c.four_of.ensures.0, c.lead_of.ensures.0), omega (arith, c.four_of.ensures.1, c.requires.1, div-le_self x (2 ^ (8 * c.lead_of.result))))
