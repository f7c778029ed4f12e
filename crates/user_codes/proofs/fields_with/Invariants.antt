-- What the loops of `user_codes::fields_with` keep.
use Rattle.std.proofs.Common.{◌≡◌, replicate}
use Rattle.answer.specs.Lists.{filled}
use Rattle.user_codes.specs.Engine.{field_code}
use Rattle.user_codes.proofs.fields_with.Given as goal

abbrev pub invariant-loop-i : goal.invariant-loop-i
invariant-loop-i l = l.fields ≡ filled (field_code l.fn.bw l.fn.s l.fn.owners l.fn.codes) l.i (replicate 72 0)
