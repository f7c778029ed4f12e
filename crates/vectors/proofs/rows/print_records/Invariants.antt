use Rattle.std.proofs.Common.{◌≤◌}
use Rattle.vectors.proofs.rows.print_records.Given as goal

abbrev pub invariant-loop-p : goal.invariant-loop-p
invariant-loop-p g l = l.p ≤ l.n
