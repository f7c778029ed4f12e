-- `masks::find_pairs` meets its contract.
use mathlib.Core.Path.{refl}
use native.Mathlib.Omega.{arith}
use Rattle.masks.specs.Engine.{pairs_to}
use Rattle.masks.proofs.find_pairs.Goals as goal

pub loop-i-init : goal.loop-i-init
unfolding pairs_to
loop-i-init c = (omega arith, refl, refl, c.requires.1)
