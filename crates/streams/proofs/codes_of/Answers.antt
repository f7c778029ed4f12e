-- `streams::codes_of` meets its contract.
use Rattle.std.proofs.Common.{arith, length}
use Rattle.answer.specs.Lists.{at}
use Rattle.records.proofs.Entering.{few_fields}
use Rattle.streams.specs.Engine.{codes_of}
use Rattle.streams.proofs.codes_of.Goals as goal

pub overflow_add-n : goal.overflow_add-n
overflow_add-n c = omega (
  arith,
  few_fields 1 (at c.args.row.now) (length c.args.row.now) c.requires.0,
  few_fields 2 (at c.args.row.now)
      (length c.args.row.now) c.requires.0,
)

pub returns : goal.returns
unfolding codes_of
returns c = rw (← c.channel_fields-m.ensures, ← c.channel_fields.ensures) c.turns_of.ensures
