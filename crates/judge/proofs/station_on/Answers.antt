-- `judge::station_on` meets its contract.
use Rattle.std.proofs.Common.{refl, arith}
use Rattle.judge.specs.Engine.{station_on}
use Rattle.judge.proofs.station_on.Goals as goal

pub returns : goal.returns
unfolding station_on
returns c = (omega arith, refl)
