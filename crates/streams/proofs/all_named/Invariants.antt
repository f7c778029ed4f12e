-- What the loops of `streams::all_named` keep.
use Rattle.std.proofs.Common.{◌≡◌}
use Rattle.answer.specs.Every.{every}
use Rattle.streams.specs.Engine.{named_in}
use Rattle.streams.proofs.all_named.Given as goal

abbrev pub invariant-loop-x : goal.invariant-loop-x
invariant-loop-x l = l.all ≡ every (named_in l.fn.codes l.fn.words) l.x
