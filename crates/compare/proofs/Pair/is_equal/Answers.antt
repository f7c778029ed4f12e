--
use Rattle.compare.specs.Engine.{all_same}
use Rattle.std.proofs.Common.{eq-eqb, ne_eqb, lt-ltb, le-ltb, sym, ◌∙◌}
use Rattle.compare.proofs.Equal.{rows_apart, rows_same}
use Rattle.compare.proofs.Groups.{row_lengths}
use Rattle.compare.proofs.Pair.is_equal.Goals as goal

pub returns-then-overflow : goal.returns-then-overflow
unfolding all_same
returns-then-overflow c = rw (← c.overflow.ensures, ← c.overflow-2.ensures, ne_eqb _ _ c.if-overflow.true)

pub returns-then-ne : goal.returns-then-ne
unfolding all_same
returns-then-ne c = rw (
  ← c.overflow.ensures,
  ← c.overflow-2.ensures,
  eq-eqb _ _ c.if-overflow.false,
  rows_apart _ _ (row_lengths c.args.self.now.same_bandwidth c.args.self.now.one.given c.args.self.now.two.given)
      (sym c.if-ne.true ∙ c.ne.ensures),
)

pub returns-then-first_changed-one : goal.returns-then-first_changed-one
unfolding all_same
returns-then-first_changed-one c = rw (
  ← c.overflow.ensures,
  ← c.overflow-2.ensures,
  eq-eqb _ _ c.if-overflow.false,
  rows_same _ _ (sym c.if-ne.false ∙ c.ne.ensures),
  ← c.first_changed.ensures,
  lt-ltb _ _ c.if-first_changed-one.true,
)

pub returns : goal.returns
unfolding all_same
returns c = rw (
  ← c.overflow.ensures,
  ← c.overflow-2.ensures,
  eq-eqb _ _ c.if-overflow.false,
  rows_same _ _ (sym c.if-ne.false ∙ c.ne.ensures),
  ← c.first_changed.ensures,
  le-ltb _ _ c.if-first_changed-one.false,
  ← c.first_changed-2.ensures,
)
