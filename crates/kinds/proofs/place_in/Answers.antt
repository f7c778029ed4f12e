-- `kinds::place_in` meets its contract.
use native.Mathlib.Omega.{arith}
use Rattle.kinds.proofs.Steps.{span_one, span_two, span_segment, span_half, span_whole, place_of}
use Rattle.kinds.proofs.place_in.Goals as goal

pub returns-then-kind-eq0 : goal.returns-then-kind-eq0
returns-then-kind-eq0 c = place_of _ (omega arith) 1 _ _ (span_one _ (omega arith) (omega arith)) (omega arith) (omega arith) (omega arith)

pub returns-then-kind-eq1 : goal.returns-then-kind-eq1
returns-then-kind-eq1 c = place_of _ (omega arith) 2 _ _ (span_two _ (omega arith) (omega arith)) (omega arith) (omega arith) (omega arith)

pub returns-then-kind-lt7 : goal.returns-then-kind-lt7
returns-then-kind-lt7 c = place_of _ (omega arith) 4 _ _ (span_segment _ (omega arith) (omega arith) (omega arith)) (omega arith) (omega arith) (omega arith)

pub returns-then-kind-lt12 : goal.returns-then-kind-lt12
returns-then-kind-lt12 c = place_of _ (omega arith) 8 _ _ (span_half _ (omega arith) (omega arith) (omega arith)) (omega arith) (omega arith) (omega arith)

pub returns-else-kind-lt12 : goal.returns-else-kind-lt12
returns-else-kind-lt12 c = place_of _ (omega arith) 16 _ _ (span_whole _ (omega arith) (omega arith)) (omega arith) (omega arith) (omega arith)
