-- `position::walk_through` meets its contract.
use mathlib.Core.Path.{◌∙◌}
use Rattle.position.proofs.Walked.{within, arrives}
use Rattle.position.proofs.walk_through.Goals as goal

pub blocks-requires : goal.blocks-requires
blocks-requires c = within c.args.bw c.args.s c.start-p.result c.common-c.result c.after.result c.start-p.ensures c.common-c.ensures c.after.ensures

pub returns : goal.returns
returns c =
    c.blocks-2.ensures ∙ arrives c.args.bw c.args.s c.start-p.result c.common-c.result c.after.result c.start-p.ensures c.common-c.ensures c.after.ensures
