-- What the loops of `input::unhex` keep.
use Rattle.std.proofs.Common.{◌≡◌}
use Rattle.answer.specs.Lists.{filled}
use Rattle.input.specs.Engine.{byte_of}
use Rattle.input.proofs.unhex.Given as goal

abbrev pub invariant-loop-i : goal.invariant-loop-i
invariant-loop-i l = l.out ≡ filled (byte_of l.fn.s l.fn.at) l.i l.initial.out
