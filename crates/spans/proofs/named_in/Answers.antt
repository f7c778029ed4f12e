-- `spans::named_in` meets its contract.
use Rattle.std.proofs.Common.{inl, inr, arith, rules}
use Rattle.spans.proofs.Naming.{named_own, named_side}
use Rattle.spans.proofs.named_in.Goals as goal

pub returns-then-k-lt24 : goal.returns-then-k-lt24
returns-then-k-lt24 c = (omega arith, named_own _ _ _ _ c.first_in-k.ensures.1 (inl c.if-k-lt24.true))

pub returns-then-k-lt30 : goal.returns-then-k-lt30
returns-then-k-lt30 c = (
  omega arith,
  named_side _ _ _ _ c.first_in-k.ensures.1 (search rules) (search rules) _ _ _
      c.tell_tale.ensures.1 c.value_at.ensures c.sided_by.ensures.1,
)

pub returns-else-k-lt30 : goal.returns-else-k-lt30
returns-else-k-lt30 c = (omega arith, named_own _ _ _ _ c.first_in-k.ensures.1 (inr c.if-k-lt30.false))
