-- `segments::fits` meets its contract.
use Rattle.segments.proofs.Steps.{place_is, fitting_other}
use mathlib.Core.Path.{refl}
use Rattle.segments.proofs.fits.Goals as goal

pub returns : goal.returns
returns c = fitting_other _ _ _ _ (place_is _ _ _ _ _ _ c.place_in-j.ensures.1 c.fits_place.ensures refl) c.if-kind-eq0.false
