-- Any two results that a public function's contract allows for one input agree: each contract is an equation.
use mathlib.Core.Path.{sym, ◌∙◌}
use Rattle.answer.proofs.Agree.{Agrees}
use Rattle.named_fields.proofs.named_fields.Reads as named_fields
use Rattle.named_fields.proofs.named_width.Reads as named_width

pub named_fields_agrees : Agrees named_fields.Post
named_fields_agrees κs a r r' s s' p q = p.0 ∙ sym q.0

pub named_width_agrees : Agrees named_width.Post
named_width_agrees κs a r r' s s' p q = p.0 ∙ sym q.0
