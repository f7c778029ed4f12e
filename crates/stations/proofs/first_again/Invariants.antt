-- What the loops of `stations::first_again` keep.
use Rattle.stations.proofs.Gathered.{Marked}
use Rattle.stations.specs.Engine.{station_in}
use Rattle.stations.specs.Stations.{repeated}
use Rattle.answer.specs.Least.{least}
use lib.ListN.{length}
use Prim.Native.Nat.{◌≤◌}
use mathlib.Core.Path.{◌≡◌}
use Rattle.stations.proofs.first_again.Given as goal

abbrev pub invariant-loop-j : goal.invariant-loop-j
invariant-loop-j l =
    (l.j ≤ length l.fn.ids) × (length l.marks ≡ 32) × (least (repeated (station_in l.fn.ids)) l.j ≡ l.j) × Marked (station_in l.fn.ids) l.marks l.j
