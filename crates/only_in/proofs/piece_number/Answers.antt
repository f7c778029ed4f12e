-- `only_in::piece_number` meets its contract.
use Rattle.std.proofs.Common.{arith, ◌∙◌}
use Rattle.only_in.specs.Engine.{piece_number}
use Rattle.only_in.proofs.piece_number.Goals as goal

pub returns-in-Part : goal.returns-in-Part
unfolding piece_number
returns-in-Part c = (c.part_number.ensures.0 ∙ rw c.in-Part.is, omega (arith, c.part_number.ensures.1))

pub returns-in-With26 : goal.returns-in-With26
unfolding piece_number
returns-in-With26 c = (rw c.in-With26.is, omega (arith, rw c.in-With26.is at c.requires))
