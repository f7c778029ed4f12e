-- What the loops of `records::enter_owners` keep.
use Rattle.records.specs.Engine.{owner_at, owner_of}
use Rattle.answer.specs.Lists.{filled, at}
use Rattle.plan.specs.Engine.{only_plan}
use Rattle.std.proofs.Common.{length, replicate, ◌≡◌, ◌+◌}
use Rattle.records.proofs.enter_owners.Given as goal

abbrev pub invariant-loop-k : goal.invariant-loop-k
invariant-loop-k l = (l.number ≡ owner_at (only_plan (at l.fn.row)) (at l.fn.row) l.fn.p l.k)
    × (l.owners ≡ filled (owner_of (only_plan (at l.fn.row)) (at l.fn.row) l.fn.channel (length l.fn.row)) (l.fn.j + l.k) (replicate 72 144))
