-- `position_lines::put_position` meets its contract.
use Rattle.std.proofs.Common.{sym, ◌∙◌}
use Rattle.answer.specs.Lists.{at as value}
use Rattle.position_lines.proofs.Lines.{not_lowest, no_lines}
use Rattle.records.specs.Records.{list_at}
use Rattle.position_lines.proofs.put_position.Goals as goal

pub returns-then-not-is_lowest-clause-wrote : goal.returns-then-not-is_lowest-clause-wrote
returns-then-not-is_lowest-clause-wrote c =
    let e =
    not_lowest c.args.kind (value c.args.row.now) c.args.p c.if-kind-eq0.false (sym c.is_lowest.ensures ∙ c.if-not-is_lowest.true) in
    rw e (no_lines _ _ _)

pub returns-then-kind-eq0-clause-wrote : goal.returns-then-kind-eq0-clause-wrote
unfolding list_at
returns-then-kind-eq0-clause-wrote c = rw c.if-kind-eq0.true c.put_pieces.ensures.wrote

pub returns-then-kind-eq0-clause-bounded : goal.returns-then-kind-eq0-clause-bounded
unfolding list_at
returns-then-kind-eq0-clause-bounded c = rw c.if-kind-eq0.true c.put_pieces.ensures.bounded
