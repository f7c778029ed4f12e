-- `spans::name_in` meets its contract.
use Rattle.std.proofs.Common.{arith, lt-ltb, le-ltb, eq-eqb, ne_eqb}
use Rattle.spans.proofs.Naming.{name_is}
use Rattle.spans.proofs.name_in.Goals as goal

pub returns-then-n-eq8 : goal.returns-then-n-eq8
returns-then-n-eq8 c = (
  omega arith,
  name_is _ _ _ _ c.requires c.family_of-f.ensures
      (rw (eq-eqb _ _ c.if-f-eq11.true, eq-eqb _ _ c.if-n-eq8.true)),
)

pub returns-else-n-eq8 : goal.returns-else-n-eq8
returns-else-n-eq8 c = (
  omega arith,
  name_is _ _ _ _ c.requires c.family_of-f.ensures
      (rw (eq-eqb _ _ c.if-f-eq11.true, ne_eqb _ _ c.if-n-eq8.false)),
)

pub returns-then-f-lt16 : goal.returns-then-f-lt16
returns-then-f-lt16 c = (
  omega arith,
  name_is _ _ _ _ c.requires c.family_of-f.ensures
      (rw (ne_eqb _ _ c.if-f-eq11.false, lt-ltb _ _ c.if-f-lt16.true)),
)

pub returns-then-f-n : goal.returns-then-f-n
returns-then-f-n c = (
  omega arith,
  name_is _ _ _ _ c.requires c.family_of-f.ensures
      (rw (ne_eqb _ _ c.if-f-eq11.false, le-ltb _ _ c.if-f-lt16.false, lt-ltb _ _ c.if-f-lt38.true, c.if-f-n.true)),
)

pub returns-else-f-n : goal.returns-else-f-n
returns-else-f-n c = (
  omega arith,
  name_is _ _ _ _ c.requires c.family_of-f.ensures
      (rw (ne_eqb _ _ c.if-f-eq11.false, le-ltb _ _ c.if-f-lt16.false, lt-ltb _ _ c.if-f-lt38.true, c.if-f-n.false)),
)

pub returns : goal.returns
returns c = (
  omega arith,
  name_is _ _ _ _ c.requires c.family_of-f.ensures
      (rw (ne_eqb _ _ c.if-f-eq11.false, le-ltb _ _ c.if-f-lt16.false, le-ltb _ _ c.if-f-lt38.false)),
)
