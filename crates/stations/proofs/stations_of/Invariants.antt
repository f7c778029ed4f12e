-- What the loops of `stations::stations_of` keep.
use Prim.Native.Nat.{◌≤◌}
use mathlib.Core.Path.{◌≡◌}
use lib.ListN.{replicate}
use Rattle.answer.specs.Lists.{filled}
use Rattle.stations.specs.Engine.{station_in}
use Rattle.stations.proofs.stations_of.Given as goal

abbrev pub invariant-loop-j : goal.invariant-loop-j
invariant-loop-j l = (l.j ≤ l.fn.t) × (l.ids ≡ filled (station_in l.fn.fields) l.j (replicate 144 0))
