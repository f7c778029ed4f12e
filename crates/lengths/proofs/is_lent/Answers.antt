-- `lengths::is_lent` meets its contract.
use Rattle.lengths.proofs.Lent.{lent_one, lent_two, lent_none, bytes_40, bytes_80, bytes_160, bytes_320}
use Rattle.lengths.specs.Engine.{least_bytes}
use native.Mathlib.Omega.{arith}
use mathlib.Core.Path.{◌∙◌, ap}
use Rattle.lengths.proofs.is_lent.Goals as goal

pub returns-in-0 : goal.returns-in-0
returns-in-0 c = rw c.fits.ensures (lent_one c.args.bw c.args.a.now c.args.b.now c.in-0.is)

pub returns-in-1 : goal.returns-in-1
returns-in-1 c = rw (c.fits-in-1.ensures, c.fits-in-1-2.ensures)
    (lent_two c.args.bw c.args.a.now c.args.b.now 5 (omega arith) (omega arith) (ap least_bytes c.in-1.is ∙ bytes_40))

pub returns-in-2 : goal.returns-in-2
returns-in-2 c = rw (c.fits-in-2.ensures, c.fits-in-2-2.ensures)
    (lent_two c.args.bw c.args.a.now c.args.b.now 6 (omega arith) (omega arith) (ap least_bytes c.in-2.is ∙ bytes_80))

pub returns-in-3 : goal.returns-in-3
returns-in-3 c = rw (c.fits-in-3.ensures, c.fits-in-3-2.ensures)
    (lent_two c.args.bw c.args.a.now c.args.b.now 10 (omega arith) (omega arith) (ap least_bytes c.in-3.is ∙ bytes_160))

pub returns-in-4 : goal.returns-in-4
returns-in-4 c = rw (c.fits-in-4.ensures, c.fits-in-4-2.ensures)
    (lent_two c.args.bw c.args.a.now c.args.b.now 14 (omega arith) (omega arith) (ap least_bytes c.in-4.is ∙ bytes_320))

pub returns-in_default : goal.returns-in_default
returns-in_default c = lent_none c.args.bw c.args.a.now c.args.b.now (omega arith)
