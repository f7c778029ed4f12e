-- `subcarriers::wide_tones` meets its contract: what the search finds where each table is opened.
use borrow.Author.Rules.{rules}
use Rattle.resource.specs.Engine.{wide, offset26, offset52, offset106}
use Rattle.subcarriers.proofs.wide_tones.Goals as goal

pub returns-in-S26 : goal.returns-in-S26
unfolding wide offset26
returns-in-S26 c = search rules

pub returns-in-S52 : goal.returns-in-S52
unfolding wide offset52
returns-in-S52 c = search rules

pub returns-in-S106 : goal.returns-in-S106
unfolding wide offset106
returns-in-S106 c = search rules
