-- `segments::fits_alone` meets its contract.
use Rattle.segments.proofs.Steps.{fitting_alone}
use Rattle.segments.proofs.fits_alone.Goals as goal

pub returns : goal.returns
returns c = rw (c.family_of.ensures, c.is_smaller.ensures) (fitting_alone c.args.p c.args.v)
