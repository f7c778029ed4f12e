-- `only_in::part_number` meets its contract.
use Rattle.std.proofs.Common.{arith}
use Rattle.only_in.specs.Engine.{part_number}
use Rattle.only_in.proofs.part_number.Goals as goal

pub returns-in-S26 : goal.returns-in-S26
unfolding part_number
returns-in-S26 c = (rw c.in-S26.is, omega arith)

pub returns-in-S52 : goal.returns-in-S52
unfolding part_number
returns-in-S52 c = (rw c.in-S52.is, omega arith)

pub returns-in-S106 : goal.returns-in-S106
unfolding part_number
returns-in-S106 c = (rw c.in-S106.is, omega arith)

pub returns-in-S242 : goal.returns-in-S242
unfolding part_number
returns-in-S242 c = (rw c.in-S242.is, omega arith)

pub returns-in-S484 : goal.returns-in-S484
unfolding part_number
returns-in-S484 c = (rw c.in-S484.is, omega arith)

pub returns-in-S996 : goal.returns-in-S996
unfolding part_number
returns-in-S996 c = (rw c.in-S996.is, omega arith)

pub returns-in-S2x996 : goal.returns-in-S2x996
unfolding part_number
returns-in-S2x996 c = (rw c.in-S2x996.is, omega arith)
