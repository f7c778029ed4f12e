-- What the loops of `stations::any_of_few` keep.
use Prim.Native.Nat.{◌≤◌}
use mathlib.Core.Path.{◌≡◌}
use lib.ListN.{length}
use Rattle.stations.specs.Engine.{station_from, any_repeated}
use Rattle.stations.proofs.any_of_few.Given as goal

abbrev pub invariant-loop-j : goal.invariant-loop-j
invariant-loop-j g l = (l.j ≤ length l.fn.numbers) × (l.again ≡ any_repeated (station_from g.row.AT l.fn.numbers) l.j)
