-- What the loops of `stations::stands_again` keep.
use Prim.Native.Nat.{◌≤◌}
use mathlib.Core.Path.{◌≡◌}
use Rattle.stations.specs.Engine.{station_from}
use Rattle.stations.proofs.Kept.{among}
use Rattle.stations.proofs.stands_again.Given as goal

abbrev pub invariant-loop-i : goal.invariant-loop-i
invariant-loop-i g l = (l.i ≤ l.fn.j) × (l.met ≡ among (station_from g.row.AT l.fn.numbers) l.i l.id)
