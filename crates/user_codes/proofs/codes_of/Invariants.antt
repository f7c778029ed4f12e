-- What the loops of `user_codes::codes_of` keep.
use Rattle.std.proofs.Common.{◌≡◌, length, replicate}
use Rattle.answer.specs.Lists.{filled, at}
use Rattle.plan.specs.Engine.{only_plan}
use Rattle.records.specs.Records.{records_from}
use Rattle.user_codes.specs.Engine.{resource_codes}
use Rattle.user_codes.proofs.codes_of.Given as goal

abbrev pub invariant-loop-p : goal.invariant-loop-p
invariant-loop-p l = (l.i ≡ length (records_from (only_plan (at l.fn.row)) (at l.fn.row) l.p)) ×
    (l.codes ≡ filled (resource_codes l.fn.row) l.i (replicate 144 0))
