-- `position::walk` meets its contract.
use mathlib.Core.Path.{◌∙◌, ap}
use Rattle.position.specs.declared.CommonField.{CommonField}
use Rattle.position.specs.Walk.{blocks_at}
use Rattle.position.proofs.Whole.{common_count, next_le, walk_whole}
use Rattle.position.proofs.walk.Goals as goal

pub blocks_at-requires : goal.blocks_at-requires
blocks_at-requires c = (rw c.common_at-c.ensures (next_le c.args.s.now c.args.bw), rw c.common_at-c.ensures (common_count c.args.s.now 0 c.args.bw))

pub returns : goal.returns
returns c = c.blocks_at.ensures ∙ ap (λ (x : CommonField). blocks_at c.args.s.now x.next x) c.common_at-c.ensures ∙ walk_whole c.args.bw c.args.s.now
