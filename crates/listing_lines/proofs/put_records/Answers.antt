-- `listing_lines::put_records` meets its contract.
use Rattle.std.proofs.Common.{arith, length}
use Rattle.text.proofs.Laws.{no_item, after}
use Rattle.answer.specs.Lists.{at as value}
use Rattle.plan.specs.Engine.{only_plan}
use Rattle.records.specs.Records.{list_at}
use Rattle.records.proofs.Listing.{next_length, records_most}
use Rattle.records.proofs.Tables.{kind_in, kind_known}
use Rattle.position_lines.specs.Engine.{runs_lines}
use Rattle.listing_lines.proofs.Held.{lines_next}
use Rattle.listing_lines.proofs.put_records.Goals as goal

pub loop-p-init : goal.loop-p-init
unfolding runs_lines
loop-p-init c = (no_item _ _ _, omega arith)

pub put_position-o-requires : goal.put_position-o-requires
put_position-o-requires c = (
  omega (arith, records_most (only_plan (value c.args.row.now)) (value c.args.row.now) c.loop-p.p),
  omega arith,
  omega arith,
  kind_known c.args.kinds.now c.args.row.now c.loop-p.p c.requires.2 (omega arith),
)

pub loop-p-preserved : goal.loop-p-preserved
loop-p-preserved c =
    let o = only_plan (value c.args.row.now) in
    let k = kind_in c.args.kinds.now c.args.row.now c.loop-p.p c.requires.2 (omega arith) in
    let q = rw k at c.put_position-o.ensures.wrote in
    let most = rw k at c.put_position-o.ensures.bounded in
    let u = runs_lines (length c.args.row.now) (list_at (o c.loop-p.p) (value c.args.row.now) c.loop-p.p) in (
      rw (lines_next (length c.args.row.now) o (value c.args.row.now) c.loop-p.p) (after {u = u} c.loop-p.invariant.0 q),
      omega (arith, next_length o (value c.args.row.now) c.loop-p.p, most),
    )
