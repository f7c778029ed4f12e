-- `named_fields::second_width` meets its contract.
use mathlib.Core.Path.{◌≡◌, sym, ◌∙◌}
use mathlib.Core.Bool.{true, false}
use Rattle.channel.specs.Layout.{has_second}
use Rattle.channel.proofs.Widths.{second_there, second_none}
use Rattle.named_fields.proofs.second_width.Goals as goal

pub returns-then-has_second : goal.returns-then-has_second
returns-then-has_second c = let e : has_second c.args.bw ≡ true = sym c.has_second.ensures ∙ c.if-has_second.true in
    rw (second_there c.args.bw e) (rw c.seconds_of.ensures.value at c.checked_width.ensures)

pub returns-else-has_second : goal.returns-else-has_second
returns-else-has_second c = let e : has_second c.args.bw ≡ false = sym c.has_second.ensures ∙ c.if-has_second.false in
    rw (second_none c.args.bw e)
