use Rattle.std.proofs.Common.{◌≡◌, ◌≤◌, length, ◌*◌}
use Rattle.vectors.proofs.line_words.decode.Given as goal

abbrev pub invariant-loop-i : goal.invariant-loop-i
invariant-loop-i l = (length l.out ≡ length l.initial.out) × (l.i ≤ l.n) × (2 * l.n ≤ length l.s) × (l.n ≤ length l.initial.out)
