use Rattle.std.proofs.Common.{◌≡◌, ◌≤◌, length}
use Rattle.vectors.proofs.writes.unpack.Given as goal

abbrev pub invariant-loop-i : goal.invariant-loop-i
invariant-loop-i l = (l.i ≤ l.n) × (length l.words ≡ length l.initial.words)
