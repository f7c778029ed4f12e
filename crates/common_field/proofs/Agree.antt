-- Any two results that a public function's contract allows for one input agree: each contract is an equation.
use mathlib.Core.Path.{sym, ◌∙◌}
use Rattle.answer.proofs.Agree.{Agrees}
use Rattle.common_field.proofs.first_diff.Reads as first_diff
use Rattle.common_field.proofs.overflow_differs.Reads as overflow_differs
use Rattle.common_field.proofs.not_carried.Reads as not_carried

pub first_diff_agrees : Agrees first_diff.Post
first_diff_agrees κs a r r' s s' p q = p ∙ sym q

pub overflow_differs_agrees : Agrees overflow_differs.Post
overflow_differs_agrees κs a r r' s s' p q = p ∙ sym q

pub not_carried_agrees : Agrees not_carried.Post
not_carried_agrees κs a r r' s s' p q = p ∙ sym q
