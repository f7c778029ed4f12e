-- Any two results that a public function's contract allows for one input agree: each contract is an equation.
use mathlib.Core.Path.{◌≡◌, sym, ◌∙◌}
use Rattle.answer.proofs.Agree.{Agrees}
use Rattle.input.proofs.Worked.{said_once}
use Rattle.input.proofs.first_three.Reads as first_three
use Rattle.input.proofs.three_lines.Reads as three_lines
use Rattle.input.proofs.parse.Reads as parse
use Rattle.input.proofs.unhex.Reads as unhex

pub first_three_agrees : Agrees first_three.Post
first_three_agrees κs a r r' s s' p q = p ∙ sym q

pub three_lines_agrees : Agrees three_lines.Post
three_lines_agrees κs a r r' s s' p q = p ∙ sym q

pub parse_agrees : Agrees parse.Post
parse_agrees κs a r r' s s' p q = said_once a.0.now r r' (p ∙ sym q)

pub unhex_agrees : (κs : _) (a : _) (r r' : _) (s s' : _) → unhex.Post κs a r s → unhex.Post κs a r' s' → s.1.1.1.0.now ≡ s'.1.1.1.0.now
unhex_agrees κs a r r' s s' p q = p ∙ sym q
