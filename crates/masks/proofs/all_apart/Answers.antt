-- `masks::all_apart` meets its contract.
use mathlib.Core.Path.{refl}
use native.Mathlib.Omega.{arith}
use native.Mathlib.Numerals.{add-one}
use Rattle.masks.specs.Engine.{union_to, apart_to}
use Rattle.masks.proofs.all_apart.Goals as goal

pub loop-i-init : goal.loop-i-init
unfolding apart_to union_to
loop-i-init c = (omega arith, refl, refl)

pub loop-i-preserved : goal.loop-i-preserved
unfolding apart_to union_to
loop-i-preserved c = (omega arith, rw (add-one c.loop-i.i, c.loop-i.invariant.1, c.loop-i.invariant.2), rw (add-one c.loop-i.i, c.loop-i.invariant.2))
