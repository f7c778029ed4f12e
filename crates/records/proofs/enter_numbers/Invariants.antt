-- What the loops of `records::enter_numbers` keep.
use Rattle.records.specs.Records.{records_from}
use Rattle.answer.specs.Lists.{filled, at}
use Rattle.plan.specs.Engine.{only_plan}
use Rattle.std.proofs.Common.{length, replicate, ◌≡◌}
use Rattle.records.proofs.enter_numbers.Given as goal

abbrev pub invariant-loop-p : goal.invariant-loop-p
invariant-loop-p l = (length l.before ≡ 17) × (l.sum ≡ length (records_from (only_plan (at l.fn.row)) (at l.fn.row) l.p))
    × (l.before ≡ filled (λ q. length (records_from (only_plan (at l.fn.row)) (at l.fn.row) q)) l.p (replicate 17 0))
