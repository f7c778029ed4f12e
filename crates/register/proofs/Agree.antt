-- Any two results that a public function's contract allows for one input agree: each contract is an equation.
use mathlib.Core.Path.{sym, ◌∙◌}
use Rattle.answer.proofs.Agree.{Agrees}
use Rattle.register.proofs.check_of.Reads as check_of
use Rattle.register.proofs.leaving.Reads as leaving
use Rattle.register.proofs.all_right.Reads as all_right
use Rattle.register.proofs.right_of.Reads as right_of
use Rattle.register.proofs.byte_step.Reads as byte_step

pub check_of_agrees : Agrees check_of.Post
check_of_agrees κs a r r' s s' p q = p ∙ sym q

pub leaving_agrees : Agrees leaving.Post
leaving_agrees κs a r r' s s' p q = p ∙ sym q

pub all_right_agrees : Agrees all_right.Post
all_right_agrees κs a r r' s s' p q = p ∙ sym q

pub right_of_agrees : Agrees right_of.Post
right_of_agrees κs a r r' s s' p q = p ∙ sym q

pub byte_step_agrees : Agrees byte_step.Post
byte_step_agrees κs a r r' s s' p q = p ∙ sym q
