-- `station_lines::put_channel` meets its contract.
use Rattle.std.proofs.Common.{arith, sym, ◌≡◌, ◌+◌, length}
use Rattle.answer.specs.Lists.{at as value}
use Rattle.resource.specs.Values.{fields_of}
use Rattle.records.proofs.Entering.{few_fields}
use Rattle.text.proofs.Laws.{no_item}
use Rattle.station_lines.proofs.Walk.{none_before, before_second, within, all_met, next_lines}
use Rattle.station_lines.proofs.put_channel.Goals as goal

pub loop-p-init : goal.loop-p-init
loop-p-init c = (
  omega arith,
  omega arith,
  none_before c.args.channel (value c.args.row.now) c.requires.at_bound.3 c.requires.at_bound.4,
  no_item _ _ _,
  omega
      arith,
)

pub overflow_add-i : goal.overflow_add-i
overflow_add-i c =
    let most = within c.args.channel (value c.args.row.now) c.loop-p.p c.loop-p.invariant.1 (length c.args.row.now) c.loop-p-test.true in
    omega (arith, most, c.requires.row_len_bound.1, c.loop-p.invariant.2, c.requires.at_bound.2)

pub put_given-o-requires-clause-at_bound : goal.put_given-o-requires-clause-at_bound
put_given-o-requires-clause-at_bound c =
    let r = value c.args.row.now in
    let few = few_fields c.args.channel r (length c.args.row.now) c.requires.row_len_bound.0 in
    let most = within c.args.channel r c.loop-p.p c.loop-p.invariant.1 (length c.args.row.now) c.loop-p-test.true in (
      omega (arith, few, most, c.loop-p.invariant.2, c.loop-p.invariant.4),
      omega (arith, few, most, c.loop-p.invariant.2),
      omega
          (arith, most, c.fields_of-f.ensures, c.requires.row_len_bound.1, c.loop-p.invariant.2),
      c.fields_of-f.ensures,
    )

pub overflow_add-j : goal.overflow_add-j
overflow_add-j c =
    let r = value c.args.row.now in
    let few = few_fields c.args.channel r (length c.args.row.now) c.requires.row_len_bound.0 in
    let most = within c.args.channel r c.loop-p.p c.loop-p.invariant.1 (length c.args.row.now) c.loop-p-test.true in
    omega (arith, few, most, c.fields_of-f.ensures, c.loop-p.invariant.2)

pub loop-p-preserved : goal.loop-p-preserved
loop-p-preserved c =
    let r = value c.args.row.now in (
      omega arith,
      omega (arith, c.loop-p.invariant.1),
      omega (arith, c.fields_of-f.ensures, c.loop-p.invariant.2, before_second c.args.channel r c.loop-p.p c.loop-p.invariant.1),
      rw (sym c.fields_of-f.ensures) at (next_lines c.args.fields.now c.args.i c.args.row.now c.args.channel c.loop-p.j c.loop-p.p c.loop-p-test.true
          c.loop-p.invariant.1 c.loop-p.invariant.2 c.loop-p.invariant.3 (rw c.fields_of-f.ensures at c.put_given-o.ensures.wrote)),
      omega (arith, c.loop-p.invariant.4, c.put_given-o.ensures.bounded),
    )

pub returns-then-n-j-clause-wrote : goal.returns-then-n-j-clause-wrote
returns-then-n-j-clause-wrote c =
    let most = within c.args.channel (value c.args.row.now) c.loop-p.p c.loop-p.invariant.1 (length c.args.row.now) c.loop-p-test.true in
    let e : c.loop-p.j ≡ c.args.n = omega (arith, most, c.requires.row_len_bound.1, c.loop-p.invariant.2) in
    rw e at c.loop-p.invariant.3

pub returns-then-n-j-clause-bounded : goal.returns-then-n-j-clause-bounded
returns-then-n-j-clause-bounded c =
    let most = within c.args.channel (value c.args.row.now) c.loop-p.p c.loop-p.invariant.1 (length c.args.row.now) c.loop-p-test.true in
    omega (arith, most, c.requires.row_len_bound.1, c.loop-p.invariant.2, c.loop-p.invariant.4)

pub returns-else-n-j-clause-wrote : goal.returns-else-n-j-clause-wrote
returns-else-n-j-clause-wrote c =
    let r = value c.args.row.now in
    let second = before_second c.args.channel r c.loop-p.p c.loop-p.invariant.1 in
    let met = all_met c.args.channel r (c.loop-p.p + 2) (omega (arith, c.loop-p.invariant.1)) (length c.args.row.now) (omega arith) (omega arith) in
    let e : c.loop-p.j + fields_of (r c.loop-p.p) ≡ c.args.n = omega (arith, c.loop-p.invariant.2, second, met, c.requires.row_len_bound.1) in
    rw e at (next_lines c.args.fields.now c.args.i c.args.row.now c.args.channel c.loop-p.j c.loop-p.p c.loop-p-test.true
    c.loop-p.invariant.1 c.loop-p.invariant.2 c.loop-p.invariant.3 (rw c.fields_of-f.ensures at c.put_given-o.ensures.wrote))

pub returns-else-n-j-clause-bounded : goal.returns-else-n-j-clause-bounded
returns-else-n-j-clause-bounded c =
    let r = value c.args.row.now in
    let second = before_second c.args.channel r c.loop-p.p c.loop-p.invariant.1 in
    let met = all_met c.args.channel r (c.loop-p.p + 2) (omega (arith, c.loop-p.invariant.1)) (length c.args.row.now) (omega arith) (omega arith) in
    omega (arith, c.loop-p.invariant.2, second, met, c.fields_of-f.ensures, c.requires.row_len_bound.1, c.loop-p.invariant.4, c.put_given-o.ensures.bounded)
