-- Any two results that a public function's contract allows for one input agree: each contract is an equation.
use mathlib.Core.Path.{sym, ◌∙◌}
use Rattle.answer.proofs.Agree.{Agrees}
use Rattle.bits.proofs.byte_at.Reads as byte_at
use Rattle.bits.proofs.bit_at.Reads as bit_at
use Rattle.bits.proofs.four.Reads as four
use Rattle.bits.proofs.window.Reads as window
use Rattle.bits.proofs.field_at.Reads as field_at
use Rattle.bits.proofs.eight.Reads as eight
use Rattle.bits.proofs.front.Reads as front
use Rattle.bits.proofs.wide_from.Reads as wide_from

pub byte_at_agrees : Agrees byte_at.Post
byte_at_agrees κs a r r' s s' p q = p ∙ sym q

pub bit_at_agrees : Agrees bit_at.Post
bit_at_agrees κs a r r' s s' p q = p ∙ sym q

pub four_agrees : Agrees four.Post
four_agrees κs a r r' s s' p q = p ∙ sym q

pub window_agrees : Agrees window.Post
window_agrees κs a r r' s s' p q = p ∙ sym q

pub field_at_agrees : Agrees field_at.Post
field_at_agrees κs a r r' s s' p q = p ∙ sym q

pub eight_agrees : Agrees eight.Post
eight_agrees κs a r r' s s' p q = p ∙ sym q

pub front_agrees : Agrees front.Post
front_agrees κs a r r' s s' p q = p ∙ sym q

pub wide_from_agrees : Agrees wide_from.Post
wide_from_agrees κs a r r' s s' p q = p ∙ sym q
