-- `named_fields::second_fields` meets its contract.
use native.Mathlib.Omega.{arith}
use mathlib.Core.Path.{◌≡◌, sym, ◌∙◌}
use mathlib.Core.Bool.{true, false}
use Rattle.channel.specs.Layout.{has_second, seconds}
use Rattle.channel.proofs.Widths.{second_there, second_none, checked_length}
use Rattle.named_fields.proofs.second_fields.Goals as goal

pub returns-then-has_second-clause-value : goal.returns-then-has_second-clause-value
returns-then-has_second-clause-value c = let e : has_second c.args.bw ≡ true = sym c.has_second.ensures ∙ c.if-has_second.true in
    rw (second_there c.args.bw e, checked_length 9 (seconds c.args.bw)) (omega arith)

pub returns-else-has_second-clause-value : goal.returns-else-has_second-clause-value
returns-else-has_second-clause-value c = let e : has_second c.args.bw ≡ false = sym c.has_second.ensures ∙ c.if-has_second.false in
    rw (second_none c.args.bw e)
