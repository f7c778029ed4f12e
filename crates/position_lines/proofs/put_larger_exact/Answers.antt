-- `position_lines::put_larger_exact` meets its contract.
use Rattle.std.proofs.Common.{arith, sym, ap, ◌∙◌, length}
use Rattle.resource.specs.Engine.{held}
use Rattle.answer.specs.Lists.{at as value}
use Rattle.records.proofs.Larger.{larger_runs_lem}
use Rattle.position_lines.proofs.Lines.{at_lowest, one_line}
use Rattle.position_lines.proofs.put_larger_exact.Goals as goal

pub put_record-requires : goal.put_record-requires
put_record-requires c =
    let e = larger_runs_lem c.args.kind (length c.args.row.now) c.args.p c.requires.3 c.requires.4 in
    (omega (arith, c.requires.0), c.larger_tones-tones.ensures ∙ ap held (sym e) ∙ rw c.larger_record.ensures)

pub returns-clause-wrote : goal.returns-clause-wrote
returns-clause-wrote c =
    let e = at_lowest c.args.kind (value c.args.row.now) c.args.p c.requires.4 c.requires.5 in
    let w = rw c.larger_record.ensures at c.put_record.ensures.wrote in
    rw (e, one_line) w

pub returns-clause-bounded : goal.returns-clause-bounded
returns-clause-bounded c =
    let e = at_lowest c.args.kind (value c.args.row.now) c.args.p c.requires.4 c.requires.5 in
    rw e (omega (arith, c.put_record.ensures.bounded))
