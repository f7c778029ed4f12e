-- What the loops of `plan::channel_fields` keep.
use Rattle.kinds.specs.Fields.{fields_to}
use Rattle.answer.specs.Lists.{at}
use Rattle.std.proofs.Common.{length, ◌+◌, ◌%◌, ◌≤◌, ◌≡◌}
use Rattle.plan.proofs.channel_fields.Given as goal

abbrev pub invariant-loop-p : goal.invariant-loop-p
invariant-loop-p l = (l.p ≤ length l.fn.row + 1) × (l.p % 2 + 1 ≡ l.fn.channel) × (l.sum ≡ fields_to l.fn.channel (at l.fn.row) l.p)
