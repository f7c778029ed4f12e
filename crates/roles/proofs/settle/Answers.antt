-- `roles::settle` meets its contract.
use Rattle.roles.proofs.Steps.{settle_alone, settle_pairs, settle_one}
use Rattle.roles.proofs.settle.Goals as goal

pub returns-then-all-eq1 : goal.returns-then-all-eq1
returns-then-all-eq1 c = settle_alone _ _ _ _ _ c.own_bits-own.ensures.1 c.if-all-eq1.true

pub returns-then-pairs-ne0 : goal.returns-then-pairs-ne0
returns-then-pairs-ne0 c = settle_pairs _ _ _ _ _ c.own_bits-own.ensures.1 c.if-all-eq1.false _
    c.pairs_of-pairs.ensures _ c.if-pairs-ne0.true c.by_pairs.ensures

pub returns : goal.returns
returns c = settle_one _ _ _ _ _ c.own_bits-own.ensures.1 c.if-all-eq1.false _
    c.pairs_of-pairs.ensures _ c.if-pairs-ne0.false c.by_one.ensures
