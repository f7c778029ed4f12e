-- `segments::blank_in` meets its contract.
use native.Mathlib.Omega.{arith}
use Rattle.segments.proofs.Steps.{all_four, its_pair, its_own}
use Rattle.segments.proofs.blank_in.Goals as goal

pub returns-then-m-eq15 : goal.returns-then-m-eq15
returns-then-m-eq15 c = all_four _ c.args.j _ (omega arith) c.mask_of-m.ensures c.if-m-eq15.true

pub returns-then-m-j-eq3 : goal.returns-then-m-j-eq3
returns-then-m-j-eq3 c = its_pair _ c.args.j _ (omega arith) c.mask_of-m.ensures c.if-m-eq15.false c.if-m-j-eq3.true

pub returns-else-m-j-eq3 : goal.returns-else-m-j-eq3
returns-else-m-j-eq3 c = its_own _ c.args.j _ (omega arith) c.mask_of-m.ensures c.if-m-eq15.false c.if-m-j-eq3.false
