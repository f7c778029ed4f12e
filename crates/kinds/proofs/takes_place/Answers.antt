-- `kinds::takes_place` meets its contract.
use mathlib.Core.Path.{ap}
use Prim.Native.Nat.{ℕ, ◌/◌, ◌%◌, ◌^◌}
use lib.Dec.{eqb}
use Rattle.kinds.specs.Kinds.{takes}
use Rattle.kinds.proofs.takes_place.Goals as goal

pub returns : goal.returns
unfolding takes
returns c = ap (λ (m : ℕ). eqb (m / 2 ^ c.args.j % 2) 1) c.mask_of.ensures
