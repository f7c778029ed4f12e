-- Any two results that a public function's contract allows for one input agree: each contract is an equation.
use mathlib.Core.Path.{◌≡◌, sym, ◌∙◌}
use Rattle.timed.proofs.timed_checks.Reads as timed_checks
use Rattle.timed.proofs.timed_blocks.Reads as timed_blocks

pub timed_checks_agrees : (κs : _) (a : _) (r r' : _) (s s' : _) → timed_checks.Post κs a r s → timed_checks.Post κs a r' s' → r ≡ r'
timed_checks_agrees κs a r r' s s' p q = p ∙ sym q

pub timed_blocks_agrees : (κs : _) (a : _) (r r' : _) (s s' : _) → timed_blocks.Post κs a r s → timed_blocks.Post κs a r' s' → r ≡ r'
timed_blocks_agrees κs a r r' s s' p q = p ∙ sym q
