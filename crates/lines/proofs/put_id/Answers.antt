-- `lines::put_id` meets its contract.
use Rattle.std.proofs.Common.{◌≡◌, sym, ◌∙◌, true, false}
use Rattle.lines.specs.Lines.{assigned, id_text}
use Rattle.lines.proofs.put_id.Goals as goal

pub returns-then-is_assigned-clause-wrote : goal.returns-then-is_assigned-clause-wrote
unfolding id_text
returns-then-is_assigned-clause-wrote c =
    let is : assigned c.args.id ≡ true = sym c.is_assigned.ensures ∙ c.if-is_assigned.true in
    rw is c.put_dec.ensures.wrote

pub returns-clause-wrote : goal.returns-clause-wrote
unfolding id_text
returns-clause-wrote c =
    let is : assigned c.args.id ≡ false = sym c.is_assigned.ensures ∙ c.if-is_assigned.false in
    rw is c.put_all.ensures
