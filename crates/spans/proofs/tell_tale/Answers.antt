-- `spans::tell_tale` meets its contract.
use Rattle.std.proofs.Common.{arith}
use Rattle.spans.proofs.Naming.{tell_low, tell_high}
use Rattle.spans.proofs.tell_tale.Goals as goal

pub returns-then-kind-lt26 : goal.returns-then-kind-lt26
returns-then-kind-lt26 c = (omega arith, rw c.from-j.ensures (tell_low _ c.if-kind-lt26.true))

pub returns-else-kind-lt26 : goal.returns-else-kind-lt26
returns-else-kind-lt26 c = (omega arith, rw c.from-j.ensures (tell_high _ c.if-kind-lt26.false))
