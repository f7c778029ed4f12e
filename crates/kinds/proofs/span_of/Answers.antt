-- `kinds::span_of` meets its contract.
use native.Mathlib.Omega.{arith}
use Rattle.kinds.proofs.Steps.{span_least, span_segment, span_half, span_whole}
use Rattle.kinds.proofs.span_of.Goals as goal

pub returns-then-kind-lt2 : goal.returns-then-kind-lt2
returns-then-kind-lt2 c = rw c.from.ensures (omega arith, omega arith, span_least _ (omega arith) (omega arith))

pub returns-then-kind-lt7 : goal.returns-then-kind-lt7
returns-then-kind-lt7 c = (omega arith, omega arith, span_segment _ (omega arith) (omega arith) (omega arith))

pub returns-then-kind-lt12 : goal.returns-then-kind-lt12
returns-then-kind-lt12 c = (omega arith, omega arith, span_half _ (omega arith) (omega arith) (omega arith))

pub returns-else-kind-lt12 : goal.returns-else-kind-lt12
returns-else-kind-lt12 c = (omega arith, omega arith, span_whole _ (omega arith) (omega arith))
