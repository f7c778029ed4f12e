-- What the loop of `station_lines::put_given` keeps.
use Rattle.std.proofs.Common.{◌≡◌, ◌+◌, ◌*◌, ◌≤◌}
use Rattle.answer.specs.Lists.{at as value}
use Rattle.plan.specs.Engine.{only_plan}
use Rattle.records.specs.Engine.{owner_at}
use Rattle.text.specs.Text.{Wrote, upto}
use Rattle.station_lines.specs.Engine.{given_line}
use Rattle.station_lines.proofs.put_given.Given as goal

abbrev pub invariant-loop-k : goal.invariant-loop-k
invariant-loop-k l = (l.number ≡ owner_at (only_plan (value l.fn.row)) (value l.fn.row) l.fn.p l.k + 1)
    × Wrote l.initial.out l.fn.at (upto (given_line l.fn.fields l.fn.i l.fn.row l.fn.p) l.k) l.out l.o × (l.o ≤ l.fn.at + 55 * l.k)
