-- Each position has the kind of a resource that there is.
use Rattle.std.proofs.Common.{arith}
use Rattle.records.proofs.Tables.{kind_known}
use Rattle.vectors.proofs.rows.print_records.Goals as goal

pub print_position-requires : goal.print_position-requires
print_position-requires g c = (omega arith, omega arith, kind_known c.args.kinds.now c.args.row.now c.loop-p.p c.requires.1 (omega arith))
