-- What the loops of `writer::turn_users` keep.
use Rattle.std.proofs.Common.{◌≡◌, length}
use Rattle.writer.proofs.Steps.{Turning}
use Rattle.writer.proofs.turn_users.Given as goal

abbrev pub invariant-loop-i : goal.invariant-loop-i
invariant-loop-i l = (length l.words ≡ length l.initial.words) × Turning l.initial.words l.i l.words
