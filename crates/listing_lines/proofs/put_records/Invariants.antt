-- What the loop of `listing_lines::put_records` keeps.
use Rattle.std.proofs.Common.{◌+◌, ◌*◌, ◌≤◌, length}
use Rattle.text.specs.Text.{Wrote}
use Rattle.answer.specs.Lists.{at as value}
use Rattle.plan.specs.Engine.{only_plan}
use Rattle.records.specs.Records.{records_from}
use Rattle.position_lines.specs.Engine.{runs_lines}
use Rattle.listing_lines.proofs.put_records.Given as goal

abbrev pub invariant-loop-p : goal.invariant-loop-p
invariant-loop-p l = Wrote l.initial.out l.fn.at (runs_lines (length l.fn.row) (records_from (only_plan (value l.fn.row)) (value l.fn.row) l.p)) l.out l.o
    × (l.o ≤ l.fn.at + 460 * length (records_from (only_plan (value l.fn.row)) (value l.fn.row) l.p))
