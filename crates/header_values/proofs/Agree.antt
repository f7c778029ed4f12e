-- Any two results that a public function's contract allows for one input agree: each contract has an equation.
use mathlib.Core.Path.{sym, ◌∙◌}
use Rattle.answer.proofs.Agree.{Agrees}
use Rattle.header_values.proofs.known_word.Reads as known_word
use Rattle.header_values.proofs.size_of.Reads as size_of
use Rattle.header_values.proofs.gi_of.Reads as gi_of

pub known_word_agrees : Agrees known_word.Post
known_word_agrees κs a r r' s s' p q = p ∙ sym q

pub size_of_agrees : Agrees size_of.Post
size_of_agrees κs a r r' s s' p q = p.1 ∙ sym q.1

pub gi_of_agrees : Agrees gi_of.Post
gi_of_agrees κs a r r' s s' p q = p.1 ∙ sym q.1
