-- Any two results that a public function's contract allows for one input agree: each contract is an equation.
use mathlib.Core.Path.{sym, ◌∙◌}
use Rattle.answer.proofs.Agree.{Agrees}
use Rattle.block.proofs.check_at.Reads as check_at
use Rattle.block.proofs.block_right.Reads as block_right

pub check_at_agrees : Agrees check_at.Post
check_at_agrees κs a r r' s s' p q = p ∙ sym q

pub block_right_agrees : Agrees block_right.Post
block_right_agrees κs a r r' s s' p q = p ∙ sym q
