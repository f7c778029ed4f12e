-- Any two results that a public function's contract allows for one input agree: each contract is an equation.
use mathlib.Core.Path.{sym, ◌∙◌}
use Rattle.answer.proofs.Agree.{Agrees}
use Rattle.wrong_blocks.proofs.wrong_parts.Reads as wrong_parts
use Rattle.wrong_blocks.proofs.wrong_users.Reads as wrong_users

pub wrong_parts_agrees : Agrees wrong_parts.Post
wrong_parts_agrees κs a r r' s s' p q = p ∙ sym q

pub wrong_users_agrees : Agrees wrong_users.Post
wrong_users_agrees κs a r r' s s' p q = p ∙ sym q
