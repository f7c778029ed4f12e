use Rattle.std.proofs.Common.{◌≤◌}
use Rattle.vectors.proofs.rows.print_pieces.Given as goal

abbrev pub invariant-loop-k : goal.invariant-loop-k
invariant-loop-k g l = l.k ≤ l.here
