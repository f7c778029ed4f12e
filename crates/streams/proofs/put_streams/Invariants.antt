-- What the loops of `streams::put_streams` keep.
use Rattle.std.proofs.Common.{◌≡◌, length}
use Rattle.answer.specs.Lists.{filled}
use Rattle.streams.specs.Engine.{streams_in}
use Rattle.streams.proofs.put_streams.Given as goal

abbrev pub invariant-loop-x : goal.invariant-loop-x
invariant-loop-x l = (l.out ≡ filled (streams_in l.fn.codes l.fn.words) l.x l.initial.out) × (length l.out ≡ length l.initial.out)
