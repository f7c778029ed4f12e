-- What the loops of `streams::row_in` keep.
use Rattle.std.proofs.Common.{◌≡◌, replicate}
use Rattle.answer.specs.Lists.{filled}
use Rattle.words.specs.Engine.{value_of}
use Rattle.streams.proofs.row_in.Given as goal

abbrev pub invariant-loop-p : goal.invariant-loop-p
invariant-loop-p l = l.row ≡ filled (value_of l.fn.words) l.p (replicate 16 0)
