-- Any two results that a public function's contract allows for one input agree: each contract is an equation.
use mathlib.Core.Path.{sym, ◌∙◌}
use Rattle.answer.proofs.Agree.{Agrees}
use Rattle.first_half.proofs.plan_frame.Reads as plan_frame

pub plan_frame_agrees : Agrees plan_frame.Post
plan_frame_agrees κs a r r' s s' p q = p ∙ sym q
