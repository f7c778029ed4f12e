-- Any two results that a contract allows for one input agree.
use mathlib.Core.Path.{sym, ◌∙◌}
use Rattle.answer.proofs.Agree.{Agrees}
use Rattle.turns.proofs.turns_of.Reads as turns_of

pub turns_of_agrees : Agrees turns_of.Post
turns_of_agrees κs a r r' s s' p q = p ∙ sym q
