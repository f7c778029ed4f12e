-- What the loop of `station_lines::put_channel` keeps, and what falls.
use Rattle.std.proofs.Common.{◌≡◌, ◌+◌, ◌-◌, ◌*◌, ◌%◌, ◌≤◌, length}
use Rattle.answer.specs.Lists.{at as value}
use Rattle.records.specs.Owns.{fields_before}
use Rattle.text.specs.Text.{Wrote, upto}
use Rattle.station_lines.specs.Engine.{owned_line}
use Rattle.station_lines.proofs.put_channel.Given as goal

abbrev pub invariant-loop-p : goal.invariant-loop-p
invariant-loop-p l = (l.p ≤ length l.fn.row + 1) × (l.p % 2 + 1 ≡ l.fn.channel) × (l.j ≡ fields_before l.fn.channel (value l.fn.row) l.p)
    × Wrote l.initial.out l.fn.at (upto (owned_line l.fn.fields l.fn.i l.fn.row l.fn.channel) l.j) l.out l.o × (l.o ≤ l.fn.at + 55 * l.j)

abbrev pub decreases-loop-p : goal.decreases-loop-p
decreases-loop-p l = length l.fn.row - l.p
