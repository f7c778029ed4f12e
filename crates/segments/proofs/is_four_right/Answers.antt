-- `segments::is_four_right` meets its contract.
use mathlib.Core.Path.{ap₂}
use mathlib.Core.Bool.{◌&&◌}
use Rattle.segments.specs.Engine.{four_right}
use Rattle.segments.proofs.Four.{fitted}
use Rattle.segments.proofs.is_four_right.Goals as goal

pub returns : goal.returns
unfolding four_right
returns c = let first = fitted _ _ _ _ _ c.fits_at-first.ensures c.kind_by.ensures.1 in
    let second = fitted _ _ _ _ _ c.fits_at-second.ensures c.kind_by-2.ensures.1 in
    let third = fitted _ _ _ _ _ c.fits_at-third.ensures c.kind_by-3.ensures.1 in
    let fourth = fitted _ _ _ _ _ c.fits_at-fourth.ensures c.kind_by-4.ensures.1 in
    ap₂ ◌&&◌ (ap₂ ◌&&◌ (ap₂ ◌&&◌ first second) third) fourth
