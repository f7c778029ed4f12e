-- `station_lines::station_at` meets its contract.
use Rattle.std.proofs.Common.{refl, arith}
use Rattle.stations.specs.Engine.{station_in}
use Rattle.station_lines.proofs.station_at.Goals as goal

pub returns : goal.returns
unfolding station_in
returns c = (refl, omega arith)
