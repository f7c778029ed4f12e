-- What the loops of `judge::any_marked` keep.
use Rattle.std.proofs.Common.{◌≡◌, length}
use Rattle.stations.specs.Engine.{any_repeated}
use Rattle.judge.specs.Engine.{station_on}
use Rattle.judge.proofs.Marks.{Noted}
use Rattle.judge.proofs.any_marked.Given as goal

abbrev pub invariant-loop-j : goal.invariant-loop-j
invariant-loop-j l = (length l.marks ≡ 2048) × (l.again ≡ any_repeated (station_on l.fn.words) l.j) × Noted (station_on l.fn.words) l.marks l.j
