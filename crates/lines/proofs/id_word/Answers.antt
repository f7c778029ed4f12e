-- `lines::id_word` meets its contract.
use Rattle.std.proofs.Common.{◌≡◌, sym, ◌∙◌, true, false, arith}
use Rattle.lines.specs.Lines.{assigned}
use Rattle.lines.specs.Engine.{id_word}
use Rattle.lines.proofs.id_word.Goals as goal

pub returns-then-is_assigned : goal.returns-then-is_assigned
unfolding id_word
returns-then-is_assigned c =
    let is : assigned c.args.id ≡ true = sym c.is_assigned.ensures ∙ c.if-is_assigned.true in
    (rw is c.digits_of.ensures.0, c.digits_of.ensures.1)

pub returns : goal.returns
unfolding id_word
returns c =
    let is : assigned c.args.id ≡ false = sym c.is_assigned.ensures ∙ c.if-is_assigned.false in
    (rw is, omega arith)
