-- `kinds::blank_of` meets its contract.
use Rattle.kinds.proofs.Steps.{blank_30, blank_29, blank_28}
use Rattle.kinds.proofs.blank_of.Goals as goal

pub returns-then-m-j-eq15 : goal.returns-then-m-j-eq15
returns-then-m-j-eq15 c = blank_30 _ c.args.j _ c.mask_of-m.ensures c.if-m-j-eq15.true

pub returns-then-m-j-eq3 : goal.returns-then-m-j-eq3
returns-then-m-j-eq3 c = blank_29 _ c.args.j _ c.mask_of-m.ensures c.if-m-j-eq15.false c.if-m-j-eq3.true

pub returns-else-m-j-eq3 : goal.returns-else-m-j-eq3
returns-else-m-j-eq3 c = blank_28 _ c.args.j _ c.mask_of-m.ensures c.if-m-j-eq15.false c.if-m-j-eq3.false
