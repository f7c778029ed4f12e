-- `stream_rows::count_row` meets its contract.
use native.Mathlib.Numerals.{add-one}
use native.Mathlib.Omega.{arith}
use lib.Dec.{leb}
use Rattle.answer.specs.Lists.{at}
use Rattle.stream_rows.proofs.Count.{counting_step, counts_le, byte_le, counts_listed, counts_numbered}
use mathlib.Core.Path.{◌≡◌, refl, sym, ◌∙◌}
use lib.ListN.{length}
use Rattle.stream_rows.specs.Engine.{Counting}
use Rattle.stream_rows.proofs.count_row.Goals as goal

pub overflow_add-two : goal.overflow_add-two
overflow_add-two c = let n = counts_le _ _ c.loop-x.invariant.1 in
    omega (arith, byte_le (leb 2 (at c.args.row.now c.loop-x.x-index)))

pub overflow_add-three : goal.overflow_add-three
overflow_add-three c = let n = counts_le _ _ c.loop-x.invariant.1 in
    omega (arith, byte_le (leb 3 (at c.args.row.now c.loop-x.x-index)))

pub overflow_add-four : goal.overflow_add-four
overflow_add-four c = let n = counts_le _ _ c.loop-x.invariant.1 in
    omega (arith, byte_le (leb 4 (at c.args.row.now c.loop-x.x-index)))

pub loop-x-preserved : goal.loop-x-preserved
loop-x-preserved c = rw (c.from-two.ensures, c.from-three.ensures, c.from-four.ensures)
    (rw (add-one c.loop-x.x-index) refl, counting_step c.args.row.now c.loop-x.x-index c.loop-x.invariant.1 c.loop-x.last c.loop-x.invariant.0)

pub overflow_add-listed : goal.overflow_add-listed
overflow_add-listed c = let n = counts_le _ _ c.loop-x.invariant.1 in omega arith

pub overflow_add-listed-2 : goal.overflow_add-listed-2
overflow_add-listed-2 c = let n = counts_le _ _ c.loop-x.invariant.1 in omega arith

pub overflow_add-listed-3 : goal.overflow_add-listed-3
overflow_add-listed-3 c = let n = counts_le _ _ c.loop-x.invariant.1 in omega arith

pub returns-then-listed : goal.returns-then-listed
returns-then-listed c = let e : length c.args.row.now ≡ c.loop-x.x-index = omega arith in
    let k : Counting c.args.row.now (length c.args.row.now) c.loop-x.fit c.loop-x.two c.loop-x.three c.loop-x.four = rw e c.loop-x.invariant.1 in
    record {
      listed = sym c.if-listed.true ∙ counts_listed c.args.row.now k;
      numbered = counts_numbered c.args.row.now k (sym (counts_listed c.args.row.now k) ∙ c.if-listed.true);
    }

pub returns-else-listed-clause-listed : goal.returns-else-listed-clause-listed
returns-else-listed-clause-listed c = let e : length c.args.row.now ≡ c.loop-x.x-index = omega arith in
    let k : Counting c.args.row.now (length c.args.row.now) c.loop-x.fit c.loop-x.two c.loop-x.three c.loop-x.four = rw e c.loop-x.invariant.1 in
    sym c.if-listed.false ∙ counts_listed c.args.row.now k
