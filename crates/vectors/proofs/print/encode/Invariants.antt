use Rattle.std.proofs.Common.{◌≡◌, ◌≤◌, length, ◌*◌}
use Rattle.vectors.proofs.print.encode.Given as goal

abbrev pub invariant-loop-i : goal.invariant-loop-i
invariant-loop-i l = (length l.out ≡ length l.initial.out) × (l.i ≤ l.n) × (l.n ≤ length l.s) × (2 * l.n ≤ length l.initial.out)
