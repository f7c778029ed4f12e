-- Any two results that a public function's contract allows for one input agree: each contract is an equation.
use mathlib.Core.Path.{◌≡◌, sym, ◌∙◌}
use Rattle.plan.proofs.plan_of.Reads as plan_of

pub plan_of_agrees : (κs : _) (a : _) (r r' : _) (s s' : _) → plan_of.Post κs a r s → plan_of.Post κs a r' s' → r ≡ r'
plan_of_agrees κs a r r' s s' p q = p.0 ∙ sym q.0
