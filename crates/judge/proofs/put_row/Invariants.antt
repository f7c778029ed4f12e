-- What the loops of `judge::put_row` keep.
use Rattle.std.proofs.Common.{◌+◌, ◌*◌, ◌≡◌, length}
use Rattle.answer.specs.Lists.{Front}
use Rattle.words.specs.Engine.{value_of}
use Rattle.judge.proofs.put_row.Given as goal

abbrev pub invariant-loop-k : goal.invariant-loop-k
invariant-loop-k l = (length l.row ≡ 16) × Front (value_of l.fn.words) (3 * l.k + 1) l.row
