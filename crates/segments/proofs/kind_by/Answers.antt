-- `segments::kind_by` meets its contract.
use native.Mathlib.Omega.{arith}
use Rattle.answer.specs.Lists.{at}
use Rattle.segments.proofs.Only.{segment_known}
use Rattle.segments.proofs.Entries.{segment_kind}
use Rattle.segments.proofs.kind_by.Goals as goal

pub returns : goal.returns
returns c = let e = segment_kind c.args.row.now c.args.b c.args.p _ _ _ _ c.requires.0 c.requires.1 c.requires.2 c.requires.3 c.requires.4 c.requires.5
    c.choice.ensures.1 in
    (omega (arith, e, segment_known (at c.args.row.now) c.args.p), e)
