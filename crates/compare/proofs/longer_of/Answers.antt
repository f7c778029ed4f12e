--
use Rattle.std.proofs.Common.{◌∙◌}
use Rattle.compare.proofs.Groups.{longer_max}
use Rattle.compare.proofs.longer_of.Goals as goal

pub returns : goal.returns
returns c = c.max.ensures ∙ longer_max _ _
