-- What the loop of `station_lines::stations_in` keeps.
use Rattle.std.proofs.Common.{◌≡◌, ◌≤◌}
use Rattle.answer.specs.Tally.{tally}
use Rattle.stations.specs.Engine.{station_in}
use Rattle.lines.specs.Lines.{assigned}
use Rattle.station_lines.proofs.stations_in.Given as goal

abbrev pub invariant-loop-i : goal.invariant-loop-i
invariant-loop-i l = (l.stations ≤ l.i) × (l.stations ≡ tally (λ j. assigned (station_in l.fn.fields j)) l.i)
