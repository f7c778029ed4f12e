-- What the loops of `stations::any_again` keep.
use Prim.Native.Nat.{◌≤◌}
use mathlib.Core.Path.{◌≡◌}
use lib.ListN.{length}
use Rattle.stations.specs.Engine.{station_in, any_repeated}
use Rattle.stations.proofs.Gathered.{Marked}
use Rattle.stations.proofs.any_again.Given as goal

abbrev pub invariant-loop-j : goal.invariant-loop-j
invariant-loop-j l =
    (l.j ≤ length l.fn.ids) × (length l.marks ≡ 32) × (l.again ≡ any_repeated (station_in l.fn.ids) l.j) × Marked (station_in l.fn.ids) l.marks l.j
