-- What the loops of `records::owners_of` keep.
use Rattle.records.specs.Owns.{fields_before}
use Rattle.records.specs.Engine.{owner_of}
use Rattle.answer.specs.Lists.{filled, at}
use Rattle.plan.specs.Engine.{only_plan}
use Rattle.std.proofs.Common.{length, replicate, ◌≡◌}
use Rattle.records.proofs.owners_of.Given as goal

abbrev pub invariant-loop-p : goal.invariant-loop-p
invariant-loop-p l = (l.j ≡ fields_before l.fn.channel (at l.fn.row) l.p) ×
    (l.owners ≡ filled (owner_of (only_plan (at l.fn.row)) (at l.fn.row) l.fn.channel (length l.fn.row)) l.j (replicate 72 144))
