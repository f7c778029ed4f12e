-- Any two results that a contract allows for one input agree.
use mathlib.Core.Path.{sym, ◌∙◌}
use Rattle.answer.proofs.Agree.{Agrees}
use Rattle.trigger_values.proofs.part_of.Reads as part_of
use Rattle.trigger_values.proofs.is_taken.Reads as is_taken
use Rattle.trigger_values.proofs.resource_of.Reads as resource_of

pub part_of_agrees : Agrees part_of.Post
part_of_agrees κs a r r' s s' p q = p ∙ sym q

pub is_taken_agrees : Agrees is_taken.Post
is_taken_agrees κs a r r' s s' p q = p ∙ sym q

pub resource_of_agrees : Agrees resource_of.Post
resource_of_agrees κs a r r' s s' p q = p ∙ sym q
