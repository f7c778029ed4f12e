-- `first_half::wrong_overflow` meets its contract.
use Rattle.halves.specs.Table.{check5}
use Rattle.common_field.proofs.Held.{parts_differ}
use Rattle.common_field.specs.Engine.{overflow_in}
use Rattle.std.proofs.Common.{◌∙◌, ap}
use Rattle.first_half.proofs.wrong_overflow.Goals as goal

pub returns : goal.returns
unfolding check5
returns c = c.overflow_differs.ensures ∙ ap (overflow_in c.args.bw) c.requires ∙ parts_differ c.args.bw c.args.a.now c.args.b.now
