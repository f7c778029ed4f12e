-- `only_in::put_only` meets its contract.
use Rattle.std.proofs.Common.{arith, ◌≡◌, length}
use Rattle.text.proofs.Laws.{no_item, item}
use Rattle.records.proofs.Tables.{kind_in, kind_known}
use Rattle.only_in.specs.Engine.{only_lines}
use Rattle.only_in.proofs.put_only.Goals as goal

pub loop-p-init : goal.loop-p-init
loop-p-init c = (omega arith, no_item _ _ _, omega arith)

pub put_only_at-e-requires : goal.put_only_at-e-requires
put_only_at-e-requires c = (
  omega arith,
  c.requires.at_bound.1,
  c.requires.at_bound.2,
  omega arith,
  kind_known c.args.kinds.now c.args.row.now c.loop-p.p c.requires.kinds_value.0 (omega arith),
)

pub loop-p-preserved : goal.loop-p-preserved
loop-p-preserved c =
    let k = kind_in c.args.kinds.now c.args.row.now c.loop-p.p c.requires.kinds_value.0 (omega arith) in
    let j = kind_in c.args.theirs.now c.args.other.now c.loop-p.p c.requires.kinds_value.1 (omega arith) in
    let w_wrote = rw (k, j) at c.put_only_at-e.ensures.wrote in
    (omega arith, item _ _ c.loop-p.invariant.1 w_wrote, omega (arith, c.put_only_at-e.ensures.bounded))

pub returns-clause-wrote : goal.returns-clause-wrote
unfolding only_lines
returns-clause-wrote c =
    let e : c.loop-p.p ≡ length c.args.row.now = omega arith in
    rw e at c.loop-p.invariant.1
