-- Any two results that a public function's contract allows for one input agree: each contract is an equation.
use mathlib.Core.Path.{◌≡◌, sym, ◌∙◌}
use Rattle.segments.proofs.kinds_of.Reads as kinds_of
use Rattle.segments.proofs.fits.Reads as fits
use Rattle.segments.proofs.first_wrong.Reads as first_wrong
use Rattle.segments.proofs.first_four_wrong.Reads as first_four_wrong

pub kinds_of_agrees : (κs : _) (a : _) (r r' : _) (s s' : _) → kinds_of.Post κs a r s → kinds_of.Post κs a r' s' → r ≡ r'
kinds_of_agrees κs a r r' s s' p q = p ∙ sym (q)

pub fits_agrees : (κs : _) (a : _) (r r' : _) (s s' : _) → fits.Post κs a r s → fits.Post κs a r' s' → r ≡ r'
fits_agrees κs a r r' s s' p q = p ∙ sym (q)

pub first_wrong_agrees : (κs : _) (a : _) (r r' : _) (s s' : _) → first_wrong.Post κs a r s → first_wrong.Post κs a r' s' → r ≡ r'
first_wrong_agrees κs a r r' s s' p q = p ∙ sym (q)

pub first_four_wrong_agrees : (κs : _) (a : _) (r r' : _) (s s' : _) → first_four_wrong.Post κs a r s → first_four_wrong.Post κs a r' s' → r ≡ r'
first_four_wrong_agrees κs a r r' s s' p q = p ∙ sym (q)
