-- `subcarriers::narrow_tones` meets its contract: what the search finds where each table is opened.
use borrow.Author.Rules.{rules}
use Rattle.resource.specs.Engine.{narrow, narrow26, narrow52, narrow106}
use Rattle.subcarriers.proofs.narrow_tones.Goals as goal

pub returns-else-j-eq4 : goal.returns-else-j-eq4
unfolding narrow narrow26
returns-else-j-eq4 c = search rules

pub returns-in-S52 : goal.returns-in-S52
unfolding narrow narrow52
returns-in-S52 c = search rules

pub returns-in-S106 : goal.returns-in-S106
unfolding narrow narrow106
returns-in-S106 c = search rules
