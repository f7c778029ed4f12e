use Rattle.std.proofs.Common.{◌≡◌, ◌≤◌, ◌<◌, length, drop}
use Rattle.vectors.specs.Text.{unread, number_from, decimal_of}
use Rattle.vectors.proofs.line_words.number_of.Given as goal

abbrev pub invariant-loop-i : goal.invariant-loop-i
invariant-loop-i l = (l.i ≤ length l.s) × (l.v < unread) × (number_from l.v (drop l.i l.s) ≡ decimal_of l.s)
