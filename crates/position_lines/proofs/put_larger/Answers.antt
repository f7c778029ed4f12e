-- `position_lines::put_larger` meets its contract.
use Rattle.std.proofs.Common.{arith, length}
use Rattle.answer.specs.Lists.{at as value}
use Rattle.records.proofs.Larger.{larger_runs_lem}
use Rattle.stores.proofs.Laws.{moved}
use Rattle.text.proofs.Laws.{count}
use Rattle.position_lines.proofs.Lines.{at_lowest, one_line}
use Rattle.position_lines.proofs.put_larger.Goals as goal

pub returns-then-at-out-clause-wrote : goal.returns-then-at-out-clause-wrote
returns-then-at-out-clause-wrote c =
    let e = at_lowest c.args.kind (value c.args.row.now) c.args.p c.requires.4 c.requires.5 in
    let l = larger_runs_lem c.args.kind (length c.args.row.now) c.args.p c.requires.3 c.requires.4 in
    rw (e, one_line, l) (rw c.total_of-users.ensures.1 at c.put_line.ensures.wrote)

pub returns-then-at-out-clause-bounded : goal.returns-then-at-out-clause-bounded
returns-then-at-out-clause-bounded c =
    rw (at_lowest c.args.kind (value c.args.row.now) c.args.p c.requires.4 c.requires.5) (omega (arith, c.put_line.ensures.bounded))

pub returns-clause-wrote : goal.returns-clause-wrote
returns-clause-wrote c =
    let e = at_lowest c.args.kind (value c.args.row.now) c.args.p c.requires.4 c.requires.5 in
    let l = larger_runs_lem c.args.kind (length c.args.row.now) c.args.p c.requires.3 c.requires.4 in
    let w = moved (omega arith) c.put_line-end.ensures.wrote c.put_all.ensures in
    rw (e, one_line, l) (rw c.total_of-users.ensures.1 at w)

pub returns-clause-bounded : goal.returns-clause-bounded
returns-clause-bounded c =
    rw (at_lowest c.args.kind (value c.args.row.now) c.args.p c.requires.4 c.requires.5)
    (omega (
      arith,
      (moved
          (omega arith) c.put_line-end.ensures.wrote c.put_all.ensures).next,
      count c.put_line-end.ensures.wrote,
      c.put_line-end.ensures.bounded,
    ))
