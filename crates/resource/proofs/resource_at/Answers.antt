-- `resource::resource_at` meets its contract.
use Rattle.resource.specs.Index.{resource_at}
use Rattle.resource.proofs.resource_at.Goals as goal

pub returns-in-Part : goal.returns-in-Part
unfolding resource_at
returns-in-Part c = rw (c.in-Part.is, c.index_of.ensures)

pub returns-in-With26 : goal.returns-in-With26
unfolding resource_at
returns-in-With26 c = rw c.in-With26.is
