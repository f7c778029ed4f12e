-- Any two results that a public function's contract allows for one input agree: each contract is an equation.
use mathlib.Core.Path.{◌≡◌, sym, ◌∙◌}
use Rattle.answer.proofs.Agree.{Agrees}
use Rattle.captures.proofs.parse.Reads as parse
use Rattle.captures.proofs.unhex_both.Reads as unhex_both

pub parse_agrees : Agrees parse.Post
parse_agrees κs a r r' s s' p q = p ∙ sym q

pub unhex_both_agrees : (κs : _) (a : _) (r r' : _) (s s' : _) → unhex_both.Post κs a r s → unhex_both.Post κs a r' s'
    → (s.1.1.0.now ≡ s'.1.1.0.now) × (s.1.1.1.0.now ≡ s'.1.1.1.0.now)
unhex_both_agrees κs a r r' s s' p q = (p.0 ∙ sym q.0, p.1 ∙ sym q.1)
