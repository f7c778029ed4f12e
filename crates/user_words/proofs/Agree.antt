-- What the contract of `turn_run` leaves open: nothing.
use mathlib.Core.Path.{◌≡◌, sym, ◌∙◌}
use Rattle.user_words.proofs.turn_run.Reads as turn_run

pub turn_run_agrees : (κs : _) (a : _) (r r' : _) (s s' : _) → turn_run.Post κs a r s → turn_run.Post κs a r' s' → s.0.now ≡ s'.0.now
turn_run_agrees κs a r r' s s' p q = p ∙ sym q
