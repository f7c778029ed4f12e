-- `spans::named_or` meets its contract.
use Rattle.std.proofs.Common.{◌∙◌, arith, rules}
use Rattle.segments.proofs.Steps.{or_else_low, or_else_high}
use Rattle.spans.proofs.named_or.Goals as goal

pub returns-then-k-lt36 : goal.returns-then-k-lt36
returns-then-k-lt36 c = (omega arith, or_else_low _ _ c.if-k-lt36.true)

pub returns-else-k-lt36 : goal.returns-else-k-lt36
returns-else-k-lt36 c = (c.name_in.ensures.0, c.name_in.ensures.1 ∙ or_else_high _ _ (search rules))
