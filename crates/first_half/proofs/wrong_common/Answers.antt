-- `first_half::wrong_common` meets its contract.
use Rattle.std.proofs.Common.{◌∙◌, ap}
use Rattle.wrong_blocks.specs.Engine.{wrong_parts}
use Rattle.wrong_blocks.proofs.Held.{parts_wrong}
use Rattle.halves.specs.Table.{check4}
use Rattle.first_half.proofs.wrong_common.Goals as goal

pub returns : goal.returns
unfolding check4
returns c = c.wrong_parts.ensures ∙ ap (wrong_parts c.args.bw) c.requires.1 ∙ parts_wrong c.args.bw c.args.a.now c.args.b.now
