-- `stores::digits_of` meets its contract.
use native.Mathlib.Omega.{arith}
use native.Mathlib.Nat.{div-le_self}
use Prim.Native.Nat.{◌*◌, ◌^◌}
use Rattle.stores.specs.Engine.{digits_of}
use Rattle.stores.proofs.digits_of.Goals as goal

pub returns : goal.returns
unfolding digits_of
returns c = (rw (c.four_of.ensures.0, c.lead_of.ensures.0), omega (arith, c.four_of.ensures.1, div-le_self c.four_of.result (2 ^ (8 * c.lead_of.result))))
