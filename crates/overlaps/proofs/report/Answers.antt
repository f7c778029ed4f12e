-- `overlaps::report` meets its contract.
use Rattle.std.proofs.Common.{◌≡◌, sym, ◌∙◌, true, ◌*◌, ◌/◌, arith, le-ltb, length}
use Rattle.answer.specs.Lists.{at}
use Rattle.answer.specs.Tally.{tally}
use Rattle.masks.specs.Engine.{apart_to, hit}
use Rattle.masks.proofs.Apart.{none_counted, none_written}
use Rattle.masks.proofs.Rows.{tally_most}
use Rattle.overlaps.proofs.report.Goals as goal

pub returns-then-all_apart-clause-value : goal.returns-then-all_apart-clause-value
returns-then-all_apart-clause-value c =
    let m = at c.args.masks.now in
    let a : apart_to m c.args.n ≡ true = sym c.all_apart.ensures ∙ c.if-all_apart.true in
    let z = none_counted m c.args.n a in
    let f = le-ltb (length c.args.pairs.now / 2) (tally (hit m c.args.n) (32 * c.args.n)) (omega arith) in
    rw (f, z) c.accepted.ensures

pub returns-then-all_apart-clause-pairs_after : goal.returns-then-all_apart-clause-pairs_after
returns-then-all_apart-clause-pairs_after c =
    let m = at c.args.masks.now in
    let a : apart_to m c.args.n ≡ true = sym c.all_apart.ensures ∙ c.if-all_apart.true in
    let z = none_counted m c.args.n a in
    let f = le-ltb (length c.args.pairs.now / 2) (tally (hit m c.args.n) (32 * c.args.n)) (omega arith) in
    rw (f, z, none_written m c.args.n a)

pub copy_front-requires : goal.copy_front-requires
copy_front-requires c =
    let g = tally_most (at c.args.masks.now) c.args.n (32 * c.args.n) (omega arith) in
    (omega (arith, c.find_pairs-end.ensures.value), omega (arith, c.find_pairs-end.ensures.value), c.find_pairs-end.ensures.found_len)
