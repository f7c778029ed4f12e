-- `resource::piece_fields` meets its contract.
use Rattle.resource.specs.Values.{piece_fields}
use mathlib.Core.Path.{◌∙◌}
use Rattle.resource.proofs.piece_fields.Goals as goal

pub returns-then-is_divided : goal.returns-then-is_divided
unfolding piece_fields
returns-then-is_divided c = rw (← c.is_divided.ensures, c.if-is_divided.true)

pub returns-else-is_divided : goal.returns-else-is_divided
unfolding piece_fields
returns-else-is_divided c = c.fields_of.ensures ∙ rw (← c.is_divided.ensures, c.if-is_divided.false)
